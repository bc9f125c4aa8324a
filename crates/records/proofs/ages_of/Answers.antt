-- `ages_of` meets its contract: the ages so far.
use mathlib.Core.Bool.{cond}
use native.Mathlib.Omega.{arith}
use lib.Dec.{ltb}
use lib.ListN.{length}
use borrow.Author.Tests.{ltb-true, ltb-false}
use Rattle.lists.proofs.Cond.{cases}
use Rattle.rules.specs.Shape.{tag_at}
use Rattle.records.proofs.RecordLoops.{each-made}
use Rattle.records.proofs.ages_of.Goals as goal

pub returns : goal.returns
returns c =
    let part = c.args.set.now in
    each-made (λ k x. cond (ltb k (length part)) (tag_at part k).age x) 4 _ c.loop-way.invariant.0
    (λ k b. cases (ltb k (length part))
    (λ e. rw e (c.loop-way.invariant.1 k (omega (arith, ltb-true k (length part) e))))
    (λ e. rw e (c.loop-way.invariant.2 k (omega (arith, ltb-false k (length part) e)))))

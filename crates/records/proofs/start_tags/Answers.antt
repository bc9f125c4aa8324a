-- `start_tags` meets its contract. The records that are left to age give the whole table.
use mathlib.Core.Path.{sym, ◌∙◌}
use native.Mathlib.Omega.{arith}
use Rattle.lists.proofs.Cond.{cond-then}
use Rattle.lists.proofs.CountedLoops.{steps_next, steps-end}
use Rattle.records.proofs.RecordLoops.{start-each, start-at}
use Rattle.records.proofs.start_tags.Goals as goal

pub loop-k-preserved : goal.loop-k-preserved
loop-k-preserved c =
    let t = c.loop-k-test.true in
    (omega arith, omega arith, c.loop-k.invariant.2 ∙ (steps_next _ _ _ _ t ∙ rw (start-at _ _ c.loop-k.k _ t)))

pub returns : goal.returns
returns c =
    sym (steps-end _ _ _ _ c.loop-k-test.false)
    ∙ (sym c.loop-k.invariant.2 ∙ start-each c.args.figures)
    ∙ cond-then _ _ (sym c.if-not-has_room.ensures.test)

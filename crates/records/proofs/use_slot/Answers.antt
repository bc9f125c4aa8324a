-- `use_slot` meets its contract. The records of the set that are left to age give the whole.
use mathlib.Core.Path.{◌≡◌, sym, ◌∙◌}
use Prim.Native.Nat.{◌-◌, ◌+◌}
use native.Mathlib.Omega.{arith}
use Rattle.lists.proofs.Cond.{cond-then}
use Rattle.lists.proofs.CountedLoops.{steps_next, steps-end}
use Rattle.records.proofs.RecordLoops.{aged-in, use-each}
use Rattle.records.proofs.use_slot.Goals as goal

pub loop-k-init : goal.loop-k-init
loop-k-init c =
    let e : c.args.set.first + c.args.set.ways - c.args.set.first ≡ c.args.set.ways = omega arith in
    (omega arith, rw e)

pub loop-k-preserved : goal.loop-k-preserved
loop-k-preserved c =
    let aged = aged-in c.args.set.first c.args.set.ways c.args.v _ c.loop-k.k _ c.aged.result (omega arith) (omega arith) c.aged.ensures in
    (omega arith, c.loop-k.invariant.1 ∙ steps_next _ _ _ _ c.loop-k-test.true ∙ rw aged)

pub returns : goal.returns
returns c =
    sym (steps-end _ _ _ _ c.loop-k-test.false) ∙ (sym c.loop-k.invariant.1 ∙ use-each _ _ _ _ _ (omega arith) (omega arith))
    ∙ cond-then _ _ (sym c.if-not-has.ensures.test)

-- `sets_good` meets its contract. The test of the sets that are left is the whole test.
use mathlib.Core.Path.{◌≡◌}
use Prim.Native.Nat.{◌-◌}
use Rattle.lists.specs.Counted.{all_from}
use Rattle.line_checks.specs.SlotTests.{of_set, set_good, sets_good}
use Rattle.line_checks.proofs.sets_good.Given as goal

abbrev pub invariant-loop-s : goal.invariant-loop-s
invariant-loop-s l =
    sets_good l.figures l.memory l.tags l.cache
    ≡ all_from (λ s. set_good l.figures l.memory s (of_set l.figures l.tags s) (of_set l.figures l.cache s)) l.s (l.figures.sets - l.s)

-- `set_good` meets its contract. The test of the ways that are left is the whole test.
use mathlib.Core.Path.{◌≡◌}
use Prim.Native.Nat.{◌-◌}
use lib.ListN.{length}
use Rattle.lists.specs.Counted.{all_from}
use Rattle.line_checks.specs.SlotTests.{way_good, set_good}
use Rattle.line_checks.proofs.set_good.Given as goal

abbrev pub invariant-loop-w : goal.invariant-loop-w
invariant-loop-w l = set_good l.figures l.memory l.s l.set l.lines ≡ all_from (way_good l.figures l.memory l.s l.set l.lines) l.w (length l.set - l.w)

-- `checkpoints::rank_all` meets its contract. The loop: the places that are left to rank give the whole.
use Prim.Native.Nat.{◌-◌}
use mathlib.Core.Path.{◌≡◌}
use Rattle.lists.specs.Counted.{steps_from}
use Rattle.lists.proofs.CountedLoops.{change}
use Rattle.rules.specs.Shape.{checkpoint_places, no_checkpoint}
use Rattle.rules.specs.Checkpoints.{rank_at}
use Rattle.checkpoints.proofs.rank_all.Given as goal

abbrev pub invariant-loop-i : goal.invariant-loop-i
invariant-loop-i l = steps_from (change rank_at no_checkpoint) 0 checkpoint_places l.fn.checkpoints ≡ steps_from (change rank_at no_checkpoint) l.i (checkpoint_places - l.i) l.c-items

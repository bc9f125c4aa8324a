-- `checkpoints::are_formed` meets its contract. The loop: the whole list is good where the rest is, from place i on and above m.
use mathlib.Core.Path.{◌≡◌}
use lib.ListN.{drop}
use Rattle.checkpoints.specs.Good.{checkpoints_good}
use Rattle.checkpoints.proofs.are_formed.Given as goal

abbrev pub invariant-loop-i : goal.invariant-loop-i
invariant-loop-i l = checkpoints_good l.committed l.last 0 0 l.c-items ≡ checkpoints_good l.committed l.last l.m l.i (drop l.i l.c-items)

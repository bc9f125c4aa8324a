-- `checkpoints::forget_above` meets its contract. The loop: the marks from the place on are left to change.
use mathlib.Core.Path.{◌≡◌}
use Rattle.rules.specs.Shape.{no_checkpoint}
use Rattle.rules.specs.Checkpoints.{above}
use Rattle.lists.proofs.Changed.{changed_from}
use Rattle.checkpoints.proofs.forget_above.Given as goal

abbrev pub invariant-loop-c : goal.invariant-loop-c
invariant-loop-c l = changed_from (above l.n) (λ c. no_checkpoint) l.c-index l.c-items ≡ changed_from (above l.n) (λ c. no_checkpoint) 0 l.fn.checkpoints

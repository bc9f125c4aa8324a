-- `load_queue::squash_loads` meets its contract. The loop: the loads from the place on are left to change.
use mathlib.Core.Path.{◌≡◌}
use Rattle.rules.specs.Shape.{no_load}
use Rattle.rules.specs.Calls.{young_load}
use Rattle.lists.proofs.Changed.{changed_from}
use Rattle.load_queue.proofs.squash_loads.Given as goal

abbrev pub invariant-loop-l : goal.invariant-loop-l
invariant-loop-l l = changed_from (young_load l.n) (λ l. no_load) l.l-index l.l-items ≡ changed_from (young_load l.n) (λ l. no_load) 0 l.fn.loads

-- `store_queue::squash_stores` meets its contract. The loop: the stores from the place on are left to change.
use mathlib.Core.Path.{◌≡◌}
use Rattle.rules.specs.Shape.{no_store}
use Rattle.rules.specs.Calls.{young_store}
use Rattle.lists.proofs.Changed.{changed_from}
use Rattle.store_queue.proofs.squash_stores.Given as goal

abbrev pub invariant-loop-s : goal.invariant-loop-s
invariant-loop-s l = changed_from (young_store l.n) (λ s. no_store) l.s-index l.s-items ≡ changed_from (young_store l.n) (λ s. no_store) 0 l.fn.stores

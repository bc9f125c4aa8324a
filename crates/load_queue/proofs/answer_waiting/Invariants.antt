-- `load_queue::answer_waiting` meets its contract. The loop: the loads from the place on are left to change.
use mathlib.Core.Path.{◌≡◌}
use Rattle.rules.specs.Calls.{waiting_at, answered}
use Rattle.lists.proofs.Changed.{changed_from}
use Rattle.load_queue.proofs.answer_waiting.Given as goal

abbrev pub invariant-loop-l : goal.invariant-loop-l
invariant-loop-l l = changed_from (waiting_at l.i) answered l.l-index l.l-items ≡ changed_from (waiting_at l.i) answered 0 l.fn.loads

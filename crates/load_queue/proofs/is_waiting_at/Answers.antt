-- `load_queue::is_waiting_at` meets its contract. By the tests.
use Rattle.std.proofs.Common.{arith}
use Rattle.lists.proofs.Loops.{tests}
use Rattle.rules.specs.Calls.{waiting_at}
use Rattle.load_queue.proofs.is_waiting_at.Goals as goal

pub returns-then-l-i : goal.returns-then-l-i
unfolding waiting_at
returns-then-l-i c = search tests

pub returns-else-l-i : goal.returns-else-l-i
unfolding waiting_at
returns-else-l-i c = grind (arith, tests)

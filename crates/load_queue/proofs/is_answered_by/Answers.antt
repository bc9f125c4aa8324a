-- `load_queue::is_answered_by` meets its contract. By the tests.
use Rattle.std.proofs.Common.{arith}
use Rattle.lists.proofs.Loops.{tests}
use Rattle.rules.specs.Calls.{answered_by}
use Rattle.load_queue.proofs.is_answered_by.Goals as goal

pub returns-then-l-k : goal.returns-then-l-k
unfolding answered_by
returns-then-l-k c = search tests

pub returns-else-l-k : goal.returns-else-l-k
unfolding answered_by
returns-else-l-k c = grind (arith, tests)

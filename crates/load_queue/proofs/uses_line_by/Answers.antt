-- `load_queue::uses_line_by` meets its contract. By the tests.
use Rattle.std.proofs.Common.{arith}
use Rattle.rules.specs.Calls.{uses_line_by}
use Rattle.load_queue.proofs.uses_line_by.Goals as goal

pub returns-then-is_answered_by : goal.returns-then-is_answered_by
unfolding uses_line_by
returns-then-is_answered_by c = grind arith

pub returns-else-is_answered_by : goal.returns-else-is_answered_by
unfolding uses_line_by
returns-else-is_answered_by c = grind arith

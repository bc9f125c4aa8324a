-- `queue_checks::request_wanted` meets its contract. By the register and the tests.
use Rattle.std.proofs.Common.{arith}
use Rattle.rules.specs.Shape.{line_of}
use Rattle.rules.specs.WellFormed.{request_wanted}
use Rattle.queue_checks.proofs.request_wanted.Goals as goal

pub returns-in_default : goal.returns-in_default
unfolding request_wanted
returns-in_default c = grind arith

pub returns-then-has_waiting_for : goal.returns-then-has_waiting_for
unfolding request_wanted
returns-then-has_waiting_for c = grind arith

pub returns-then-store_ready : goal.returns-then-store_ready
unfolding request_wanted line_of
returns-then-store_ready c = grind arith

pub returns-else-store_ready : goal.returns-else-store_ready
unfolding request_wanted
returns-else-store_ready c = grind arith

-- `queue_checks::is_waiting_for` meets its contract. By the tests.
use Rattle.std.proofs.Common.{arith}
use Rattle.std.proofs.lemmas.Bool.Decides.{nat_tests}
use Rattle.rules.specs.Shape.{line_of}
use Rattle.rules.specs.WellFormed.{waits_for}
use Rattle.queue_checks.proofs.is_waiting_for.Goals as goal

pub returns-then-l : goal.returns-then-l
unfolding waits_for line_of
returns-then-l c = grind (arith, nat_tests)

pub returns-else-l : goal.returns-else-l
unfolding waits_for
returns-else-l c = grind (arith, nat_tests)

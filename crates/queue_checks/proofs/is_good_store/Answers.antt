-- `queue_checks::is_good_store` meets its contract. By the tests.
use Rattle.std.proofs.Common.{arith}
use Rattle.std.proofs.lemmas.Bool.Decides.{nat_tests}
use Rattle.queue_checks.proofs.Good.{store-tests}
use Rattle.queue_checks.proofs.is_good_store.Goals as goal

pub returns-then-access_passes : goal.returns-then-access_passes
returns-then-access_passes c = rw store-tests (grind (arith, nat_tests))

pub returns-else-access_passes : goal.returns-else-access_passes
returns-else-access_passes c = rw store-tests (grind (arith, nat_tests))

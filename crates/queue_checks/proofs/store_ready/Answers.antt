-- `queue_checks::store_ready` meets its contract. By the tests.
use Rattle.std.proofs.Common.{arith}
use Rattle.rules.specs.Calls.{store_ready}
use Rattle.queue_checks.proofs.store_ready.Goals as goal

pub returns-then-is_committed_store : goal.returns-then-is_committed_store
unfolding store_ready
returns-then-is_committed_store c = grind arith

pub returns-else-is_committed_store : goal.returns-else-is_committed_store
unfolding store_ready
returns-else-is_committed_store c = grind arith

-- `store_queue::is_committed_store` meets its contract. By the tests.
use Rattle.lists.proofs.Loops.{tests}
use Rattle.rules.specs.Calls.{committed_store}
use Rattle.store_queue.proofs.is_committed_store.Goals as goal

pub returns-then-s-ne0 : goal.returns-then-s-ne0
unfolding committed_store
returns-then-s-ne0 c = search tests

pub returns-else-s-ne0 : goal.returns-else-s-ne0
unfolding committed_store
returns-else-s-ne0 c = search tests

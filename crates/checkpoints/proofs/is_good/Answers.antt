-- `checkpoints::is_good` meets its contract. By the tests.
use Rattle.std.proofs.Common.{arith}
use Rattle.lists.proofs.Loops.{tests}
use Rattle.checkpoints.specs.Good.{checkpoint_good}
use Rattle.checkpoints.proofs.is_good.Goals as goal

pub returns-then-c-last : goal.returns-then-c-last
unfolding checkpoint_good
returns-then-c-last c = grind (arith, tests)

pub returns-else-c-last : goal.returns-else-c-last
unfolding checkpoint_good
returns-else-c-last c = grind (arith, tests)

-- `store_queue::is_older_cover` meets its contract. By the tests; that the byte lies below the end is said by a difference.
use Rattle.std.proofs.Common.{arith}
use Rattle.std.proofs.lemmas.Bool.Decides.{nat_tests}
use Rattle.rules.specs.Forward.{older_covers}
use Rattle.store_queue.proofs.is_older_cover.Goals as goal

pub returns-then-s-a : goal.returns-then-s-a
unfolding older_covers
returns-then-s-a c = grind (arith, nat_tests)

pub returns-else-s-a : goal.returns-else-s-a
unfolding older_covers
returns-else-s-a c = grind (arith, nat_tests)

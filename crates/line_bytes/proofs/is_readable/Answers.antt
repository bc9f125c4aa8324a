-- `is_readable` meets its contract.
use Rattle.std.proofs.Common.{arith}
use Rattle.std.proofs.lemmas.Bool.Decides.{nat_tests}
use Rattle.line_bytes.specs.Reads.{readable}
use Rattle.line_bytes.proofs.is_readable.Goals as goal

pub returns-then-not-here : goal.returns-then-not-here
unfolding readable
returns-then-not-here c = grind (arith, nat_tests)

pub returns-else-not-here : goal.returns-else-not-here
unfolding readable
returns-else-not-here c = grind (arith, nat_tests)

pub returns-else-p-le-MAX_MEMORY : goal.returns-else-p-le-MAX_MEMORY
unfolding readable
returns-else-p-le-MAX_MEMORY c = grind (arith, nat_tests)

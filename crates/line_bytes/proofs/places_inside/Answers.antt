-- `places_inside` meets its contract.
use Rattle.std.proofs.Common.{arith}
use Rattle.std.proofs.lemmas.Bool.Decides.{nat_tests}
use Rattle.line_bytes.specs.Writes.{places_inside}
use Rattle.line_bytes.proofs.places_inside.Goals as goal

pub returns-then-n-length : goal.returns-then-n-length
unfolding places_inside
returns-then-n-length c = grind (arith, nat_tests)

pub returns-else-n-length : goal.returns-else-n-length
unfolding places_inside
returns-else-n-length c = grind (arith, nat_tests)

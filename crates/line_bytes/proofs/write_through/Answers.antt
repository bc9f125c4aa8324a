-- `write_through` meets its contract, under either write policy.
use Rattle.std.proofs.Common.{rules}
use Rattle.line_bytes.specs.Writes.{stored_through}
use Rattle.line_bytes.proofs.write_through.Goals as goal

pub returns-then-eq : goal.returns-then-eq
unfolding stored_through
returns-then-eq c = search rules

pub returns-else-eq : goal.returns-else-eq
unfolding stored_through
returns-else-eq c = search rules

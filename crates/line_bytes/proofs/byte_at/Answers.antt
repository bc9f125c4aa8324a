-- `byte_at` meets its contract.
use Rattle.std.proofs.Common.{sym, ◌∙◌}
use Rattle.line_bytes.proofs.Reading.{known-byte, line-byte, no_byte}
use Rattle.line_bytes.proofs.byte_at.Goals as goal

pub returns-in-Some : goal.returns-in-Some
returns-in-Some c = known-byte _ _ _ _ _ _ _ (sym c.forward.ensures ∙ c.in-Some.is)

pub returns-in-None : goal.returns-in-None
returns-in-None c = line-byte _ _ _ _ _ _ (sym c.forward.ensures ∙ c.in-None.is) c.if-here.true

pub returns-in-None-2 : goal.returns-in-None-2
returns-in-None-2 c = no_byte _ _ _ _ _ _ (sym c.forward.ensures ∙ c.in-None.is) c.if-here.false

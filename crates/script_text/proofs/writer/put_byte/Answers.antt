-- `put_byte` meets its contract.
use mathlib.Core.Path.{refl}
use Rattle.script_text.proofs.writer.put_byte.Goals as goal

pub returns : goal.returns
returns c = record { bytes = refl; next = refl }

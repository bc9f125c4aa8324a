-- `put_word` meets its contract.
use native.Mathlib.Omega.{arith}
use mathlib.Core.Path.{refl}
use Rattle.script_text.proofs.Writing.{word_copied}
use Rattle.script_text.proofs.writer.put_word.Goals as goal

pub returns : goal.returns
returns c = record { bytes = word_copied _ _ _ _ _ (omega arith) c.copy_from_slice.ensures.after c.requires; next = refl }

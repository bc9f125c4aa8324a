-- `say_none` meets its contract.
use Rattle.script.specs.Words.{said}
use Rattle.script_text.proofs.Writing.{wrote_then}
use Rattle.script_text.proofs.writer.say_none.Goals as goal

pub returns : goal.returns
unfolding said
returns c = wrote_then c.put_word-to.ensures c.put_byte.ensures

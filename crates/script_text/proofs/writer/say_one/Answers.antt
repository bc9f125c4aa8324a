-- `say_one` meets its contract.
use Rattle.script.specs.Words.{said}
use native.Mathlib.Omega.{arith}
use Rattle.script_text.proofs.Writing.{printed-short, wrote_then}
use Rattle.script_text.proofs.writer.say_one.Goals as goal

pub put_byte-requires : goal.put_byte-requires
put_byte-requires c = omega (arith, printed-short c.args.n)

pub returns : goal.returns
unfolding said
returns c = wrote_then (wrote_then c.put_word-to.ensures c.put_spaced-end.ensures) c.put_byte.ensures

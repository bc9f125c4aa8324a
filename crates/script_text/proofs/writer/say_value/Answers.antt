-- `say_value` meets its contract.
use Rattle.script.specs.Words.{said}
use native.Mathlib.Omega.{arith}
use Rattle.script_text.proofs.Writing.{printed-short, wrote_then}
use Rattle.script_text.proofs.writer.say_value.Goals as goal

pub put_spaced-end-requires : goal.put_spaced-end-requires
put_spaced-end-requires c = omega (arith, printed-short c.args.i)

pub put_byte-requires : goal.put_byte-requires
put_byte-requires c = omega (arith, printed-short c.args.i, printed-short c.args.v)

pub returns : goal.returns
unfolding said
returns c = wrote_then (wrote_then (wrote_then c.put_word-to.ensures c.put_spaced-next.ensures) c.put_spaced-end.ensures) c.put_byte.ensures

-- `put_spaced` meets its contract.
use native.Mathlib.Omega.{arith}
use Rattle.script_text.proofs.Writing.{printed-short, wrote_then}
use Rattle.script_text.proofs.writer.put_spaced.Goals as goal

pub put_number-requires : goal.put_number-requires
put_number-requires c = omega (arith, printed-short c.args.n)

pub returns : goal.returns
returns c = wrote_then c.put_byte-to.ensures c.put_number.ensures

-- `put_number` meets its contract: all digits but the last are written first.
use mathlib.Core.Path.{ap}
use native.Mathlib.Omega.{arith}
use lib.ListN.{length}
use Prim.Native.Nat.{◌^◌, ◌<◌}
use Rattle.script_text.proofs.Writing.{printed-one, printed-more, printed-longer, wrote_then}
use Rattle.script_text.proofs.writer.+put_number.Goals as goal

pub put_byte-requires : goal.put_byte-requires
put_byte-requires t c = omega (arith, ap length (printed-one c.args.n c.if-n-lt10.true))

pub returns-then-n-lt10 : goal.returns-then-n-lt10
returns-then-n-lt10 t c = rw (← printed-one c.args.n c.if-n-lt10.true) c.put_byte.ensures

pub put_number-to-requires : goal.put_number-to-requires
put_number-to-requires t c =
    let h : c.args.n < 2 ^ 32 = omega arith in
    (omega arith, omega (arith, printed-longer c.args.n c.if-n-lt10.false h))

pub put_byte-requires-2 : goal.put_byte-requires-2
put_byte-requires-2 t c =
    let h : c.args.n < 2 ^ 32 = omega arith in
    omega (arith, printed-longer c.args.n c.if-n-lt10.false h, c.put_number-to.ensures.next)

pub returns : goal.returns
returns t c =
    let h : c.args.n < 2 ^ 32 = omega arith in
    rw (← printed-more c.args.n c.if-n-lt10.false h) (wrote_then c.put_number-to.ensures c.put_byte-2.ensures)

-- `value_fits` meets its contract: a value of 32 bits fits four bytes and more.
use mathlib.Core.Path.{sym, ◌∙◌}
use native.Mathlib.Omega.{arith}
use borrow.Author.Tests.{lt-ltb, le-leb}
use Rattle.access.proofs.AccessChecks.{value-limit}
use Rattle.access.proofs.value_fits.Goals as goal

pub pow-requires : goal.pow-requires
pow-requires c = let w = c.args.width in omega (arith, value-limit w 3 (omega arith))

pub returns-then-width-ge4 : goal.returns-then-width-ge4
returns-then-width-ge4 c =
    let v = c.args.value in
    let more = value-limit 4 c.args.width c.if-width-ge4.true in
    le-leb _ _ c.if-width-ge4.true ∙ sym (lt-ltb v _ (omega (arith, more)))

-- `check_access` meets its contract: each return by the tests that led there.
use mathlib.Core.Path.{sym, ◌∙◌}
use native.Mathlib.Omega.{arith}
use Rattle.access.proofs.AccessChecks.{access-width, access-uneven, access-out, access-in}
use Rattle.access.proofs.check_access.Goals as goal
use Rattle.access.proofs.check_access.Goals.{then-size-width-via-then-size-width, then-size-width-via-else-size-width+then-size-width-2}

pub returns-then-not-width_allowed : goal.returns-then-not-width_allowed
returns-then-not-width_allowed c = access-width _ _ _ (sym c.width_allowed.ensures ∙ c.if-not-width_allowed.true)

pub returns-then-address-width-ne0 : goal.returns-then-address-width-ne0
returns-then-address-width-ne0 c = access-uneven _ _ _ (sym c.width_allowed.ensures ∙ c.if-not-width_allowed.false) c.if-address-width-ne0.true

pub returns-then-size-width : goal.returns-then-size-width
returns-then-size-width c =
    access-out _ _ _ (sym c.width_allowed.ensures ∙ c.if-not-width_allowed.false) c.if-address-width-ne0.false
    (elim c.then-size-width.branch [ then-size-width-via-then-size-width w ↦ omega arith | then-size-width-via-else-size-width+then-size-width-2 w ↦ omega arith ])

pub returns : goal.returns
returns c = access-in _ _ _ (sym c.width_allowed.ensures ∙ c.if-not-width_allowed.false) c.if-address-width-ne0.false (omega arith)

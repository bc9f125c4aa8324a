-- `State::store_formed` meets its contract.
use mathlib.Core.Path.{refl, sym, ◌∙◌, ap}
use Rattle.rules.specs.RefusalNumbers.{numbered}
use Rattle.model.proofs.Calls.{formed-opens, access-refuses, store_goes, passed-access}
use Rattle.model.proofs.State.store_formed.Goals as goal

pub returns-in_default : goal.returns-in_default
returns-in_default c =
    λ cache memory formed.
    rw c.refused.ensures
    (sym (access-refuses _ _ _ _ _ _ refl (formed-opens _ _ _ formed tt) _ (sym c.check_access-checked.ensures ∙ ap numbered c.unwrap_err.ensures)))

pub returns : goal.returns
returns c =
    λ cache memory formed.
    let e = sym c.check_access-checked.ensures ∙ ap numbered c.in-Ok.is in
    c.store_checked.ensures _ _ ∙ rw (passed-access _ _ _ _ e).1 (store_goes _ _ _ _ _ (formed-opens _ _ _ formed tt) _ e)

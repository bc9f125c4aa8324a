-- `State::preview_formed` meets its contract.
use mathlib.Core.Path.{refl, sym, ◌∙◌, ap}
use Rattle.rules.specs.Shape.{is_free}
use Rattle.model.proofs.Calls.{formed-opens, one-refuses, one-does}
use Rattle.model.proofs.Previews.{previewed-state}
use Rattle.model.proofs.State.preview_formed.Goals as goal

pub returns-in_default : goal.returns-in_default
returns-in_default c =
    λ cache memory formed.
    rw c.refused.ensures (sym (one-refuses _ _ _ (formed-opens _ _ _ formed tt) _ _ refl (ap is_free c.in_default.is)))

pub returns : goal.returns
returns c =
    λ cache memory formed.
    previewed-state c.args.self cache memory formed _ _ c.in-Line.is c.set_of-set.ensures.first _ c.set_of-set.ensures.ways c.preview_fill-told.result c.preview_fill-told.ensures
    ∙ sym (one-does _ _ _ (formed-opens _ _ _ formed tt) _ _ refl (ap is_free c.in-Line.is))

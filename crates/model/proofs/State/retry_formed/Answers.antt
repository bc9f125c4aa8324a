-- `State::retry_formed` meets its contract.
use mathlib.Core.Path.{refl, sym, ◌∙◌, ap}
use mathlib.Core.Bool.{not}
use Rattle.model.proofs.Calls.{formed-opens, one-refuses, one-does}
use Rattle.model.proofs.State.retry_formed.Goals as goal

pub returns : goal.returns
returns c = λ memory formed. c.retry_accepted.ensures _ ∙ sym (one-does _ _ _ (formed-opens _ _ _ formed tt) _ _ refl (ap not (sym c.has_waiting.ensures ∙ c.if-not-has_waiting.false)))

pub returns-then-not-has_waiting : goal.returns-then-not-has_waiting
returns-then-not-has_waiting c = λ memory formed. rw c.refused.ensures (sym (one-refuses _ _ _ (formed-opens _ _ _ formed tt) _ _ refl (ap not (sym c.has_waiting.ensures ∙ c.if-not-has_waiting.true))))

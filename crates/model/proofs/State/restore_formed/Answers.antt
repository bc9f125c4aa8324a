-- `State::restore_formed` meets its contract: checks 19 and 21, then the return.
use mathlib.Core.Path.{sym, ◌∙◌}
use Rattle.model.proofs.Calls.{formed-opens, return-misnamed, return-unused, return-does}
use Rattle.model.proofs.State.restore_formed.Goals as goal

pub returns-then-not-is_name : goal.returns-then-not-is_name
returns-then-not-is_name c = λ cache memory formed. rw c.refused.ensures (sym (return-misnamed _ _ _ (formed-opens _ _ _ formed tt) (sym c.is_name.ensures ∙ c.if-not-is_name.true)))

pub returns-then-not-in_use : goal.returns-then-not-in_use
returns-then-not-in_use c = λ cache memory formed. rw c.refused-then-not-in_use.ensures (sym (return-unused _ _ _ (formed-opens _ _ _ formed tt) (sym c.is_name.ensures ∙ c.if-not-is_name.false) (sym c.in_use.ensures ∙ c.if-not-in_use.true)))

pub returns : goal.returns
returns c = λ cache memory formed. c.restore_accepted.ensures _ _ ∙ sym (return-does _ _ _ (formed-opens _ _ _ formed tt) (sym c.is_name.ensures ∙ c.if-not-is_name.false) (sym c.in_use.ensures ∙ c.if-not-in_use.false))

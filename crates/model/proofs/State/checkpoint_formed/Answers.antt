-- `State::checkpoint_formed` meets its contract: checks 19, 20 and 21, then the setting.
use mathlib.Core.Path.{sym, ◌∙◌}
use Rattle.model.proofs.Calls.{formed-opens, set-misnamed, set-used, set-numbers, set_does}
use Rattle.model.proofs.State.checkpoint_formed.Goals as goal

pub returns-then-not-is_name : goal.returns-then-not-is_name
returns-then-not-is_name c = λ cache memory formed. rw c.refused.ensures (sym (set-misnamed _ _ _ (formed-opens _ _ _ formed tt) (sym c.is_name.ensures ∙ c.if-not-is_name.true)))

pub returns-then-in_use : goal.returns-then-in_use
returns-then-in_use c = λ cache memory formed. rw c.refused-then-in_use.ensures (sym (set-used _ _ _ (formed-opens _ _ _ formed tt) (sym c.is_name.ensures ∙ c.if-not-is_name.false) (sym c.in_use.ensures ∙ c.if-in_use.true)))

pub returns-then-self-eq-TOP_NUMBER : goal.returns-then-self-eq-TOP_NUMBER
returns-then-self-eq-TOP_NUMBER c = λ cache memory formed. rw c.refused-then-self-eq-TOP_NUMBER.ensures (sym (set-numbers _ _ _ (formed-opens _ _ _ formed tt) (sym c.is_name.ensures ∙ c.if-not-is_name.false) (sym c.in_use.ensures ∙ c.if-in_use.false) c.if-self-eq-TOP_NUMBER.true))

pub returns : goal.returns
returns c = λ cache memory formed. c.checkpoint_accepted.ensures _ _ ∙ sym (set_does _ _ _ (formed-opens _ _ _ formed tt) (sym c.is_name.ensures ∙ c.if-not-is_name.false) (sym c.in_use.ensures ∙ c.if-in_use.false) c.if-self-eq-TOP_NUMBER.false)

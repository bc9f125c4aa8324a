-- `State::store_checked` meets its contract.
use mathlib.Core.Path.{sym, ◌∙◌}
use Rattle.model.proofs.Calls.{rest-values, rest-numbers, rest-full, rest-does}
use Rattle.model.proofs.State.store_checked.Goals as goal

pub returns-then-not-value_fits : goal.returns-then-not-value_fits
returns-then-not-value_fits c = λ k m. rw c.refused.ensures (rest-values _ _ _ _ _ (sym c.value_fits.ensures ∙ c.if-not-value_fits.true))

pub returns-then-self-eq-TOP_NUMBER : goal.returns-then-self-eq-TOP_NUMBER
returns-then-self-eq-TOP_NUMBER c = λ k m. rw c.refused-then-self-eq-TOP_NUMBER.ensures (rest-numbers _ _ _ _ _ (sym c.value_fits.ensures ∙ c.if-not-value_fits.false) c.if-self-eq-TOP_NUMBER.true)

pub returns-then-not-has_free_store : goal.returns-then-not-has_free_store
returns-then-not-has_free_store c = λ k m. rw c.refused-then-not-has_free_store.ensures (rest-full _ _ _ _ _ (sym c.value_fits.ensures ∙ c.if-not-value_fits.false) c.if-self-eq-TOP_NUMBER.false (sym c.has_free_store.ensures ∙ c.if-not-has_free_store.true))

pub returns : goal.returns
returns c = λ k m. c.store_accepted.ensures k m ∙ rest-does _ _ _ _ _ (sym c.value_fits.ensures ∙ c.if-not-value_fits.false) c.if-self-eq-TOP_NUMBER.false (sym c.has_free_store.ensures ∙ c.if-not-has_free_store.false)

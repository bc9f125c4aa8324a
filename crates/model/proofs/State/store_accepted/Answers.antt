-- `State::store_accepted` meets its contract.
use Rattle.rules.specs.Calls.{store_rule}
use Rattle.model.proofs.State.store_accepted.Goals as goal

pub returns : goal.returns
unfolding store_rule
returns c = λ k m. rw c.place_store.ensures

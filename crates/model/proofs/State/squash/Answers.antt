-- `State::squash` meets its contract.
use Rattle.model.proofs.Accepted.{squashed-state}
use Rattle.model.proofs.State.squash.Goals as goal

pub returns : goal.returns
returns c = squashed-state _ _ _ _ _ c.squash_stores.ensures c.squash_loads.ensures

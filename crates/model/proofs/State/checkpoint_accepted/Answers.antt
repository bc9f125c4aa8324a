-- `State::checkpoint_accepted` meets its contract.
use Rattle.rules.specs.Calls.{checkpoint_rule}
use Rattle.model.proofs.State.checkpoint_accepted.Goals as goal

pub returns : goal.returns
unfolding checkpoint_rule
returns c cache memory = rw c.add-with_mark.ensures

-- `State::abort_accepted` meets its contract: an abort's change of the checkpoints.
use Rattle.rules.specs.Checkpoints.{forget_above}
use Rattle.rules.specs.Calls.{abort_rule}
use Rattle.model.proofs.State.abort_accepted.Goals as goal

pub returns : goal.returns
unfolding abort_rule
returns c cache memory = c.squash.ensures (forget_above c.args.n) cache memory c.forget_above-left.ensures

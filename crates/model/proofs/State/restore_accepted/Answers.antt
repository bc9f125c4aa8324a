-- `State::restore_accepted` meets its contract: a return's number and its change of the checkpoints.
use Rattle.rules.specs.Checkpoints.{forget_from}
use Rattle.rules.specs.Calls.{restore_rule}
use Rattle.model.proofs.Facts.{used-number}
use Rattle.model.proofs.State.restore_accepted.Goals as goal

pub squash-requires : goal.squash-requires
squash-requires c = rw c.number_of-number.ensures (used-number c.args.name c.args.self.checkpoints c.requires)

pub returns : goal.returns
unfolding restore_rule
returns c cache memory = rw (← c.number_of-number.ensures) (c.squash.ensures (forget_from c.args.name) cache memory c.forget_from-left.ensures)

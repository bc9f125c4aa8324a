-- `State::answer_load` meets its contract.
use Rattle.rules.specs.Shape.{line_of}
use Rattle.model.proofs.Facts.{shaped-room}
use Rattle.model.proofs.Accepted.{answered-leaves, answered-stays}
use Rattle.model.proofs.State.answer_load.Goals as goal

pub returns-then-i-self : goal.returns-then-i-self
unfolding line_of
returns-then-i-self c = λ v. answered-leaves _ _ v _ _ _ (shaped-room _ _ c.requires) c.if-i-self.true c.remove_waiting.ensures c.use_line.ensures

pub returns : goal.returns
returns c = λ v. answered-stays _ _ v _ _ c.if-i-self.false c.answer_waiting.ensures

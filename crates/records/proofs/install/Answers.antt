-- `install` meets its contract.
use Rattle.records.proofs.Answers.{installed}
use Rattle.records.proofs.install.Goals as goal

pub returns : goal.returns
returns c = installed _ _ _ _ _ _ _ c.if-not-has.ensures.test c.in-Ok.ensures c.use_slot.ensures

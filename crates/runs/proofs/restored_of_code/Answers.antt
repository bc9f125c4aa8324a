-- `restored_of_code` promises what is proved in Dropped.
use Rattle.runs.proofs.Dropped.{restored-of-code}
use Rattle.runs.proofs.restored_of_code.Goals as goal

pub returns : goal.returns
returns c = restored-of-code

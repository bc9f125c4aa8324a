-- `dropped_of_code` promises what is proved in Dropped.
use Rattle.runs.proofs.Dropped.{dropped-of-code}
use Rattle.runs.proofs.dropped_of_code.Goals as goal

pub returns : goal.returns
returns c = dropped-of-code

-- `kept_of_code` promises what is proved in Kept.
use Rattle.runs.proofs.Kept.{kept-of-code}
use Rattle.runs.proofs.kept_of_code.Goals as goal

pub returns : goal.returns
returns c = kept-of-code

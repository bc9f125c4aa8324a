-- `admitted_of_code` promises what is proved in Kept.
use Rattle.runs.proofs.Kept.{admitted-of-code}
use Rattle.runs.proofs.admitted_of_code.Goals as goal

pub returns : goal.returns
returns c = admitted-of-code

-- `refusals_of_code` promises what is proved in Refusals.
use Rattle.runs.proofs.Refusals.{refusals-of-code}
use Rattle.runs.proofs.refusals_of_code.Goals as goal

pub returns : goal.returns
returns c = refusals-of-code

-- `refused_of_code` promises what is proved in Refusals.
use Rattle.runs.proofs.Refusals.{refused-of-code}
use Rattle.runs.proofs.refused_of_code.Goals as goal

pub returns : goal.returns
returns c = refused-of-code

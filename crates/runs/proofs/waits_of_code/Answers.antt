-- `waits_of_code` promises what is proved in Values.
use Rattle.runs.proofs.Values.{waits-of-code}
use Rattle.runs.proofs.waits_of_code.Goals as goal

pub returns : goal.returns
returns c = waits-of-code

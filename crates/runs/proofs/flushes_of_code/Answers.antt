-- `flushes_of_code` promises what is proved in Values.
use Rattle.runs.proofs.Values.{flushes-of-code}
use Rattle.runs.proofs.flushes_of_code.Goals as goal

pub returns : goal.returns
returns c = flushes-of-code

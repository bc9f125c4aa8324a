-- `values_of_code` promises what is proved in Values.
use Rattle.runs.proofs.Values.{values-of-code}
use Rattle.runs.proofs.values_of_code.Goals as goal

pub returns : goal.returns
returns c = values-of-code

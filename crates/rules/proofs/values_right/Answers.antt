-- `values_right` promises what is proved in Values.
use Rattle.rules.proofs.Values.{values-after-start, values-from-state}
use Rattle.rules.proofs.values_right.Goals as goal

pub returns : goal.returns
returns c = record { after-start = values-after-start; from-state = values-from-state }

-- `rates_nearest` promises what is proved in Nearest.
use Rattle.study.proofs.Nearest.{rates-nearest}
use Rattle.study.proofs.rates_nearest.Goals as goal

pub returns : goal.returns
returns c = rates-nearest

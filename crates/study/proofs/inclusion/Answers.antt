-- `inclusion` promises what is proved in Distances.
use Rattle.study.proofs.Distances.{inclusion}
use Rattle.study.proofs.inclusion.Goals as goal

pub returns : goal.returns
returns c = inclusion

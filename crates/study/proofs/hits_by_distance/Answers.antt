-- `hits_by_distance` promises what is proved in Distances.
use Rattle.study.proofs.Distances.{hits-by-distance}
use Rattle.study.proofs.hits_by_distance.Goals as goal

pub returns : goal.returns
returns c = hits-by-distance

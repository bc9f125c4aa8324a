-- `examples` promises what is computed in ByComputing.
use Rattle.study.proofs.ByComputing.{examples}
use Rattle.study.proofs.examples.Goals as goal

pub returns : goal.returns
returns c = examples

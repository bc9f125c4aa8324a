-- `examples_played` promises what is computed in Examples.
use Rattle.script.proofs.Examples.{examples-played}
use Rattle.script.proofs.examples_played.Goals as goal

pub returns : goal.returns
returns c = examples-played

-- `refused_calls_keep` promises what is proved in Checks.
use Rattle.rules.proofs.Checks.{refused-keeps}
use Rattle.rules.proofs.refused_calls_keep.Goals as goal

pub returns : goal.returns
returns c = refused-keeps

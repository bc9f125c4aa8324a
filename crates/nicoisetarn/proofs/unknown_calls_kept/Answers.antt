-- `unknown_calls_kept` promises what is proved in Outcomes.
use Rattle.nicoisetarn.proofs.Outcomes.{unknown-kept}
use Rattle.nicoisetarn.proofs.unknown_calls_kept.Goals as goal

pub returns : goal.returns
returns c = unknown-kept

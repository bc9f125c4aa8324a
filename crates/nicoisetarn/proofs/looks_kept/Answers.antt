-- `looks_kept` promises what is proved in Outcomes.
use Rattle.nicoisetarn.proofs.Outcomes.{looks-kept}
use Rattle.nicoisetarn.proofs.looks_kept.Goals as goal

pub returns : goal.returns
returns c = looks-kept

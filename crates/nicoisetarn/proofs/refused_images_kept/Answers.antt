-- `refused_images_kept` promises what is proved in Outcomes.
use Rattle.nicoisetarn.proofs.Outcomes.{refused-kept}
use Rattle.nicoisetarn.proofs.refused_images_kept.Goals as goal

pub returns : goal.returns
returns c = refused-kept

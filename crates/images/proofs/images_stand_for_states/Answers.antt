-- `images_stand_for_states` promises what is proved in Standing.
use Rattle.images.proofs.Standing.{images-stand}
use Rattle.images.proofs.images_stand_for_states.Goals as goal

pub returns : goal.returns
returns c = images-stand

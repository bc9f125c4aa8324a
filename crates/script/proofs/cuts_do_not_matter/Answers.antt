-- `cuts_do_not_matter` promises what is proved in Play.
use Rattle.script.proofs.Play.{cuts}
use Rattle.script.proofs.cuts_do_not_matter.Goals as goal

pub returns : goal.returns
returns c = cuts

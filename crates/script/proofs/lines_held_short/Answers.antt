-- `lines_held_short` promises what is proved in Play.
use Rattle.script.proofs.Play.{held-short}
use Rattle.script.proofs.lines_held_short.Goals as goal

pub returns : goal.returns
returns c = held-short

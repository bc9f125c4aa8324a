-- `start_as_promised` promises what `start` does.
use Rattle.runs.proofs.start_as_promised.Goals as goal

pub returns : goal.returns
returns c = c.start.ensures

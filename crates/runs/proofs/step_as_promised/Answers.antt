-- `step_as_promised` promises what `step` does.
use Rattle.runs.proofs.step_as_promised.Goals as goal

pub returns : goal.returns
returns c = c.step.ensures

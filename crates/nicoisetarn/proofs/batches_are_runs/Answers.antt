-- `batches_are_runs` promises what is proved in BatchRuns.
use Rattle.nicoisetarn.proofs.BatchRuns.{batches-are-runs}
use Rattle.nicoisetarn.proofs.batches_are_runs.Goals as goal

pub returns : goal.returns
returns c = batches-are-runs

-- `dropped_stretches` promises what is proved in Dropped.
use Rattle.rules.proofs.Dropped.{dropped-stretch, dropped-after-start}
use Rattle.rules.proofs.dropped_stretches.Goals as goal

pub returns : goal.returns
returns c = (dropped-stretch, dropped-after-start)

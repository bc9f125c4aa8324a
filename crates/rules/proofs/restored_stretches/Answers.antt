-- `restored_stretches` promises what is proved in Restored.
use Rattle.rules.proofs.Restored.{restored-stretch, restored-after-start}
use Rattle.rules.proofs.restored_stretches.Goals as goal

pub returns : goal.returns
returns c = (restored-stretch, restored-after-start)

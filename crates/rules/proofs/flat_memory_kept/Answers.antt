-- `flat_memory_kept` promises what is proved in FlatCalls and Values.
use Rattle.rules.proofs.FlatCalls.{flat-call}
use Rattle.rules.proofs.Values.{flat-after-start, flat-from-state}
use Rattle.rules.proofs.flat_memory_kept.Goals as goal

pub returns : goal.returns
returns c = record { by_call = flat-call; after-start = flat-after-start; from-state = flat-from-state }

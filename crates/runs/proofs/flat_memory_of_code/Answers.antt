-- `flat_memory_of_code` promises what is proved in Values.
use Rattle.runs.proofs.Values.{flat-memory-of-code}
use Rattle.runs.proofs.flat_memory_of_code.Goals as goal

pub returns : goal.returns
returns c = flat-memory-of-code

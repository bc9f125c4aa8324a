-- `numbers_given` promises what is proved in Numbers.
use Rattle.rules.proofs.Numbers.{first-number, next-number}
use Rattle.rules.proofs.CheckpointClaims.{returns-exactly}
use Rattle.rules.proofs.numbers_given.Goals as goal

pub returns : goal.returns
returns c = (first-number, next-number, λ x w e. (returns-exactly x w e).number)

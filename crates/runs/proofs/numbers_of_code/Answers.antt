-- `numbers_of_code` promises what is proved in Numbers.
use Rattle.runs.proofs.Numbers.{numbers-of-code}
use Rattle.runs.proofs.numbers_of_code.Goals as goal

pub returns : goal.returns
returns c = numbers-of-code

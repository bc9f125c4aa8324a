-- `rate` meets its contract.
use Rattle.lists.proofs.Loops.{tests}
use Rattle.study.specs.Study.{rate_of}
use Rattle.study.proofs.rate.Goals as goal

pub returns-then-n-eq0 : goal.returns-then-n-eq0
unfolding rate_of
returns-then-n-eq0 c = search tests

pub returns : goal.returns
unfolding rate_of
returns c = search tests

-- `study_allowed` meets its contract: a test of the code for each part of the definition.
use Rattle.std.proofs.Common.{rules}
use Rattle.lists.proofs.Loops.{tests}
use Rattle.study.specs.Study.{study_allowed}
use Rattle.study.proofs.study_allowed.Goals as goal

pub returns-then-sets_allowed : goal.returns-then-sets_allowed
unfolding study_allowed
returns-then-sets_allowed c = search (rules, tests)

pub returns-else-sets_allowed : goal.returns-else-sets_allowed
unfolding study_allowed
returns-else-sets_allowed c = search (rules, tests)

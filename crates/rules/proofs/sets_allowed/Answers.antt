-- `sets_allowed` meets its contract. By the pattern's numbers.
use Rattle.std.proofs.Common.{rules}
use Rattle.rules.specs.Shape.{sets_allowed}
use Rattle.lists.proofs.Loops.{tests}
use Rattle.rules.proofs.sets_allowed.Goals as goal

pub returns-in_default : goal.returns-in_default
unfolding sets_allowed
returns-in_default c = search (rules, tests)

pub returns-in-1 : goal.returns-in-1
unfolding sets_allowed
returns-in-1 c = search (rules, tests)

pub returns-in_default-2 : goal.returns-in_default-2
unfolding sets_allowed
returns-in_default-2 c = search (rules, tests)

pub returns-in-1-2 : goal.returns-in-1-2
unfolding sets_allowed
returns-in-1-2 c = search (rules, tests)

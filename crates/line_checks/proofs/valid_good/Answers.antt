-- `valid_good` meets its contract.
use Rattle.std.proofs.Common.{rules}
use Rattle.lists.proofs.Loops.{tests}
use Rattle.line_checks.specs.SlotTests.{valid_good}
use Rattle.line_checks.proofs.valid_good.Goals as goal

pub returns-in_default : goal.returns-in_default
unfolding valid_good
returns-in_default c = search (rules, tests)

pub returns-then-from-figures : goal.returns-then-from-figures
unfolding valid_good
returns-then-from-figures c = search (rules, tests)

pub returns-then-t-eq0 : goal.returns-then-t-eq0
unfolding valid_good
returns-then-t-eq0 c = search (rules, tests)

pub returns-then-allows_dirty : goal.returns-then-allows_dirty
unfolding valid_good
returns-then-allows_dirty c = search (rules, tests)

pub returns-else-allows_dirty : goal.returns-else-allows_dirty
unfolding valid_good
returns-else-allows_dirty c = search (rules, tests)

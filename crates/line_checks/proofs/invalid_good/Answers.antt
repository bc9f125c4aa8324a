-- `invalid_good` meets its contract.
use Rattle.std.proofs.Common.{rules}
use Rattle.lists.proofs.Loops.{tests}
use Rattle.line_checks.specs.SlotTests.{invalid_good}
use Rattle.line_checks.proofs.invalid_good.Goals as goal

pub returns-then-t-eq0-2 : goal.returns-then-t-eq0-2
unfolding invalid_good
returns-then-t-eq0-2 c = search (rules, tests)

pub returns-else-t-eq0-2 : goal.returns-else-t-eq0-2
unfolding invalid_good
returns-else-t-eq0-2 c = search (rules, tests)

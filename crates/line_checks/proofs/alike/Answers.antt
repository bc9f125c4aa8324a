-- `alike` meets its contract.
use Rattle.std.proofs.Common.{rules}
use Rattle.lists.proofs.Loops.{tests}
use Rattle.rules.specs.Lines.{holds_line}
use Rattle.line_checks.specs.SlotTests.{same_age_or_line}
use Rattle.line_checks.proofs.alike.Goals as goal

pub returns-then-u-t : goal.returns-then-u-t
unfolding same_age_or_line holds_line
returns-then-u-t c = search (rules, tests)

pub returns-then-u : goal.returns-then-u
unfolding same_age_or_line holds_line
returns-then-u c = search (rules, tests)

pub returns-else-u : goal.returns-else-u
unfolding same_age_or_line holds_line
returns-else-u c = search (rules, tests)

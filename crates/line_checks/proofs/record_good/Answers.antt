-- `record_good` meets its contract.
use Rattle.std.proofs.Common.{rules}
use Rattle.lists.proofs.Loops.{tests}
use Rattle.line_checks.specs.SlotTests.{record_good}
use Rattle.line_checks.proofs.record_good.Goals as goal

pub returns-then-figures-from : goal.returns-then-figures-from
unfolding record_good
returns-then-figures-from c = search (rules, tests)

pub returns-then-t : goal.returns-then-t
unfolding record_good
returns-then-t c = search (rules, tests)

pub returns : goal.returns
unfolding record_good
returns c = search (rules, tests)

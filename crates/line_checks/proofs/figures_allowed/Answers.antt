-- `figures_allowed` meets its contract.
use Rattle.std.proofs.Common.{rules}
use Rattle.lists.proofs.Loops.{tests}
use Rattle.rules.specs.Shape.{figures_allowed}
use Rattle.line_checks.proofs.figures_allowed.Goals as goal

pub returns-then-size-eq0 : goal.returns-then-size-eq0
unfolding figures_allowed
returns-then-size-eq0 c = search (rules, tests)

pub returns-else-size-eq0 : goal.returns-else-size-eq0
unfolding figures_allowed
returns-else-size-eq0 c = search (rules, tests)

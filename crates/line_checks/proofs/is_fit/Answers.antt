-- `is_fit` meets its contract.
use Rattle.std.proofs.Common.{rules, sym, ◌∙◌}
use native.Mathlib.Omega.{arith}
use Rattle.lists.proofs.Loops.{tests}
use Rattle.rules.specs.Shape.{fits}
use Rattle.line_checks.proofs.Figures.{figures-tell}
use Rattle.line_checks.proofs.is_fit.Goals as goal

pub overflow_mul-result : goal.overflow_mul-result
overflow_mul-result c = let f = figures-tell _ _ (sym c.figures_allowed.ensures ∙ c.if-memory-bytes.true.0) in omega (arith, f.room)

pub overflow_mul-result-then-memory-bytes : goal.overflow_mul-result-then-memory-bytes
overflow_mul-result-then-memory-bytes c = let f = figures-tell _ _ (sym c.figures_allowed.ensures ∙ c.if-memory-bytes.true.0) in omega (arith, f.room)

pub returns-then-memory-bytes : goal.returns-then-memory-bytes
unfolding fits
returns-then-memory-bytes c = search (rules, tests)

pub returns-else-memory-bytes : goal.returns-else-memory-bytes
unfolding fits
returns-else-memory-bytes c = search (rules, tests)

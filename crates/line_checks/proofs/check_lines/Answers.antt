-- `check_lines` meets its contract.
use mathlib.Core.Path.{sym, ◌∙◌}
use Rattle.rules.specs.Shape.{fits}
use Rattle.line_checks.specs.Refusal.{checked_lines}
use Rattle.line_checks.proofs.check_lines.Goals as goal

pub returns-then-not-is_fit : goal.returns-then-not-is_fit
unfolding checked_lines fits
returns-then-not-is_fit c = rw (sym c.is_fit.ensures ∙ c.if-not-is_fit.true)

pub lines_good-requires : goal.lines_good-requires
unfolding fits
lines_good-requires c = sym c.is_fit.ensures ∙ c.if-not-is_fit.false

pub returns-then-not-lines_good : goal.returns-then-not-lines_good
unfolding checked_lines fits
returns-then-not-lines_good c =
    rw (sym c.is_fit.ensures ∙ c.if-not-is_fit.false, sym c.lines_good.ensures ∙ c.if-not-lines_good.true)

pub returns : goal.returns
unfolding checked_lines fits
returns c =
    rw (sym c.is_fit.ensures ∙ c.if-not-is_fit.false, sym c.lines_good.ensures ∙ c.if-not-lines_good.false)

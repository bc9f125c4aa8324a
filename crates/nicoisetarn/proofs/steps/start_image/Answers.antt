-- `steps::start_image` meets its contract: there is such a profile, or not.
use mathlib.Core.Path.{refl}
use Rattle.nicoisetarn.proofs.Outcomes.{start-known, start-unknown}
use Rattle.nicoisetarn.proofs.steps.start_image.Goals as goal

pub returns-then-is_profile : goal.returns-then-is_profile
returns-then-is_profile c = start-known _ _ _ _ _ _ _ c.is_profile.ensures c.if-is_profile.true _ c.figures_with-figures.ensures _ c.start_figures.ensures

pub returns : goal.returns
returns c = start-unknown _ _ _ _ _ _ _ c.is_profile.ensures c.if-is_profile.false _ refl refl

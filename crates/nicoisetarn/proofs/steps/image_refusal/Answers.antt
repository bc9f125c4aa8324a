-- `steps::image_refusal` meets its contract: 10 where figures and lengths fit, else 1.
use Prim.Native.Nat.{ℕ}
use mathlib.Core.Path.{◌≡◌, sym, ◌∙◌}
use mathlib.Core.Bool.{Bool, true, false}
use mathlib.Core.List.{List, []}
use Rattle.rules.specs.declared.Figures.{Figures}
use Rattle.rules.specs.Shape.{fits}
use Rattle.line_checks.specs.Refusal.{hierarchy}
use Rattle.images.specs.declared.Image.{Image}
use Rattle.images.specs.Images.{figures_of}
use Rattle.nicoisetarn.specs.Steps.{image_refusal}
use Rattle.nicoisetarn.proofs.steps.image_refusal.Goals as goal

module _ (i : Image) (cache memory : List ℕ) (f : Figures) (o : f ≡ figures_of i) (fit : Bool) (e : fit ≡ fits (hierarchy f i.size [] cache memory)) where
  fitting : fit ≡ true → 10 ≡ image_refusal i cache memory
  unfolding image_refusal
  fitting t = rw (← o, sym e ∙ t)

  unfitting : fit ≡ false → 1 ≡ image_refusal i cache memory
  unfolding image_refusal
  unfitting t = rw (← o, sym e ∙ t)

pub returns-then-is_fit : goal.returns-then-is_fit
returns-then-is_fit c = fitting _ _ _ _ c.figures_with-figures.ensures _ c.is_fit.ensures c.if-is_fit.true

pub returns-else-is_fit : goal.returns-else-is_fit
returns-else-is_fit c = unfitting _ _ _ _ c.figures_with-figures.ensures _ c.is_fit.ensures c.if-is_fit.false

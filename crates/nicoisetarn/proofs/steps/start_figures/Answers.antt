-- `steps::start_figures` meets its contract: ready, or refused.
use mathlib.Core.Path.{refl, ◌∙◌, ap}
use Prim.Native.Nat.{ℕ}
use Rattle.nicoisetarn.specs.Answers.{coded}
use Rattle.nicoisetarn.proofs.Outcomes.{start-ready, start-refused}
use Rattle.nicoisetarn.proofs.steps.start_figures.Goals as goal

pub returns-in-Ok : goal.returns-in-Ok
returns-in-Ok c = start-ready _ _ _ _ c.start-r.result _ c.start-r.ensures.0 c.start-r.ensures.1 _ _ c.in-Ok.is c.coded.ensures c.imaged.ensures

pub returns-in-Err : goal.returns-in-Err
returns-in-Err c =
    start-refused _ _ _ _ c.start-r.result _ c.start-r.ensures.0 c.start-r.ensures.1 _ _ c.in-Err.is
    (c.coded-in-Err.ensures ∙ ap (λ (k : ℕ). coded 0 k 0) c.number.ensures) refl

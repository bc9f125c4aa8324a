-- `steps::step_image` meets its contract: the image stands for a state, or for none, or the number for no call.
use mathlib.Core.Path.{refl, sym, ◌∙◌}
use Rattle.images.proofs.Standing.{used-stands}
use Rattle.nicoisetarn.proofs.Outcomes.{image-refused, known-stepped, unknown-stepped}
use Rattle.nicoisetarn.proofs.steps.step_image.Goals as goal

pub step_state-requires : goal.step_state-requires
step_state-requires c =
    let used = used-stands _ _ c.used_records-used.ensures in
    (sym used ∙ sym c.stands.ensures ∙ c.if-stands.true, c.used_records-used.ensures)

pub returns-then-stands : goal.returns-then-stands
returns-then-stands c = known-stepped _ _ _ _ _ _ _ _ c.call_numbered.ensures _ c.in-Some.is _ c.step_state.ensures

pub returns : goal.returns
returns c =
    let used = used-stands _ _ c.used_records-used.ensures in
    known-stepped _ _ _ _ _ _ _ _ c.call_numbered.ensures _ c.in-Some.is _
    (image-refused _ _ _ _ (sym used ∙ sym c.stands.ensures ∙ c.if-stands.false) _ c.image_refusal.ensures _ c.refused_with.ensures refl)

pub returns-in_default : goal.returns-in_default
returns-in_default c = unknown-stepped _ _ _ _ _ _ _ _ c.call_numbered.ensures c.in_default.is _ refl refl

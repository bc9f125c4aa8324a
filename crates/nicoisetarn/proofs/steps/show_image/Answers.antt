-- `steps::show_image` meets its contract: the image stands for a state, which is looked at, or for none.
use mathlib.Core.Path.{sym, ◌∙◌}
use Rattle.images.proofs.Standing.{used-stands, used-opened}
use Rattle.nicoisetarn.proofs.ShownPart.{step_small}
use Rattle.nicoisetarn.proofs.Outcomes.{state-shown, none-shown}
use Rattle.nicoisetarn.proofs.steps.show_image.Goals as goal

pub answer_image-requires : goal.answer_image-requires
answer_image-requires c = step_small _ _ _ c.show-r.result _ _ c.show-r.ensures

pub returns-then-not-stands : goal.returns-then-not-stands
returns-then-not-stands c =
    let used = used-stands _ _ c.used_records-used.ensures in
    c.coded.ensures ∙ none-shown _ _ _ _ (sym used ∙ sym c.stands.ensures ∙ c.if-not-stands.true)

pub returns : goal.returns
returns c =
    let used = used-stands _ _ c.used_records-used.ensures in
    let same = used-opened _ _ c.used_records-used.ensures in
    state-shown _ _ _ _ c.show-r.result _ c.show-r.ensures (c.opened.ensures ∙ same) (sym used ∙ sym c.stands.ensures ∙ c.if-not-stands.false) _ c.answer_image.ensures

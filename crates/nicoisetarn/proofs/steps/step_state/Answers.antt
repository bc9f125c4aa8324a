-- `steps::step_state` meets its contract: a step of the state that the image stands for.
use mathlib.Core.Path.{◌∙◌}
use Rattle.images.proofs.Standing.{used-opened}
use Rattle.nicoisetarn.proofs.ShownPart.{step_small}
use Rattle.nicoisetarn.proofs.Outcomes.{state-stepped}
use Rattle.nicoisetarn.proofs.steps.step_state.Goals as goal

pub answer_image-requires : goal.answer_image-requires
answer_image-requires c = step_small _ _ _ c.step-r.result _ _ c.step-r.ensures

pub returns : goal.returns
returns c =
    let same = c.opened-state.ensures ∙ used-opened _ _ c.requires.1 in
    state-stepped _ _ c.args.cache.now c.args.memory.now c.step-r.result _ _ c.opened-state.result c.step-r.ensures _ c.answer_image.ensures same c.requires.0 c.next_image.ensures

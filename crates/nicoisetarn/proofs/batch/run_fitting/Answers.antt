-- `batch::run_fitting` meets its contract: the image stands for a well-formed state, or is refused.
use mathlib.Core.Path.{◌≡◌, refl, sym, ◌∙◌}
use mathlib.Core.Bool.{true, false}
use borrow.Author.Rules.{rules}
use Rattle.images.proofs.Standing.{used-stands, used-opened}
use Rattle.nicoisetarn.specs.Claims.{formed_image}
use Rattle.nicoisetarn.proofs.BatchRuns.{fits-tell, batch-made, batch-refused, unformed, no-state-unformed}
use Rattle.nicoisetarn.proofs.batch.run_fitting.Goals as goal
use Rattle.nicoisetarn.proofs.batch.run_fitting.Goals.{then-stands+else-is_formed, else-stands}

pub make_calls-end-requires : goal.make_calls-end-requires
make_calls-end-requires c =
    let lengths = fits-tell c.args.calls.now c.args.answers.now c.requires in
    let formed : c.is_formed.result ≡ true = search rules in
    (lengths.0, lengths.1, sym c.is_formed.ensures ∙ formed)

pub returns-then-is_formed : goal.returns-then-is_formed
returns-then-is_formed c =
    let used = used-stands _ _ c.used_records-used.ensures in
    let stands-for = sym used ∙ sym c.stands.ensures ∙ c.if-stands.true in
    batch-made c.args.calls.now c.args.answers.now c.args.image c.args.cache.now c.args.memory.now c.requires stands-for c.opened-state.result c.make_calls-end.result _ _ _
    (c.opened-state.ensures ∙ used-opened _ _ c.used_records-used.ensures) c.make_calls-end.ensures _ c.coded.ensures c.imaged.ensures

pub refuse_calls-requires : goal.refuse_calls-requires
refuse_calls-requires c = fits-tell c.args.calls.now c.args.answers.now c.requires

pub returns : goal.returns
returns c =
    let used = used-stands _ _ c.used_records-used.ensures in
    let stands-is = sym used ∙ sym c.stands.ensures in
    let calls = c.args.calls.now in
    let answers = c.args.answers.now in
    let cache = c.args.cache.now in
    let memory = c.args.memory.now in
    let bad : formed_image c.args.image cache memory ≡ false =
    elim c.if-stands.branch [
      | then-stands+else-is_formed w ↦
          unformed c.args.image cache memory w.opened-state.result (w.opened-state.ensures ∙ used-opened _ _ c.used_records-used.ensures)
          (sym w.is_formed.ensures ∙ w.if-is_formed.false)
      | else-stands w ↦ no-state-unformed c.args.image cache memory (stands-is ∙ w.if-stands.false)
    ] in
    batch-refused calls answers c.args.image cache memory c.requires bad _ c.image_refusal-refusal.ensures _ c.refuse_calls.ensures _ c.coded-2.ensures refl

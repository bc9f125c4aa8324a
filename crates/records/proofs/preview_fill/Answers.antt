-- `preview_fill` meets its contract.
use Rattle.std.proofs.Common.{rules}
use mathlib.Core.Path.{◌≡◌, sym, ◌∙◌}
use native.Mathlib.Omega.{arith}
use lib.ListN.{length}
use Rattle.records.proofs.Places.{in-set}
use Rattle.records.proofs.Answers.{victim-at, previewed}
use Rattle.records.proofs.Sets.{ages-told}
use Rattle.records.proofs.preview_fill.Goals as goal

pub offset_bounds-tags-v : goal.offset_bounds-tags-v
offset_bounds-tags-v c =
    let at = victim-at _ _ _ _ (sym c.if-not-in_table.ensures.test) c.if-set-eq0.false c.victim-v.ensures in
    omega (arith, at.within, at.high)

pub bounds-tags-v : goal.bounds-tags-v
bounds-tags-v c =
    let at = victim-at _ _ _ _ (sym c.if-not-in_table.ensures.test) c.if-set-eq0.false c.victim-v.ensures in
    omega (arith, at.within, at.high)

pub overflow_sub-result : goal.overflow_sub-result
overflow_sub-result c = (victim-at _ _ _ _ (sym c.if-not-in_table.ensures.test) c.if-set-eq0.false c.victim-v.ensures).low

pub overflow_cast-result : goal.overflow_cast-result
overflow_cast-result c =
    let at = victim-at _ _ _ _ (sym c.if-not-in_table.ensures.test) c.if-set-eq0.false c.victim-v.ensures in
    omega (arith, at.within, at.high)

pub returns : goal.returns
returns c =
    let t = sym c.if-not-in_table.ensures.test in
    let at = victim-at _ _ _ _ t c.if-set-eq0.false c.victim-v.ensures in
    let long : length c.args.tags ≡ 256 = search rules in
    let inside = sym (in-set c.args.set.first c.args.set.ways c.victim-v.result at.within at.low at.high) in
    let ages = c.ages_of.ensures ∙ ages-told c.args.tags _ _ _ long inside at.within _ c.use_slot-used.ensures _ c.records.ensures.slots in
    previewed _ _ _ _ _ _ t c.if-set-eq0.false at.slot c.then_some.ensures ages

-- `use_line` meets its contract: the line is found in a way of its set, or is not there.
use mathlib.Core.Path.{sym, ◌∙◌}
use native.Mathlib.Omega.{arith}
use Rattle.lists.proofs.Cond.{cond-then}
use Rattle.records.proofs.Places.{room-bounds}
use Rattle.records.proofs.Answers.{no_hit, set-in-use, found-way, found-used, found-unused}
use Rattle.records.proofs.use_line.Goals as goal

pub returns-in_default : goal.returns-in_default
returns-in_default c =
    let t = sym c.if-not-has_room.ensures.test in
    let e = c.set_of-set.ensures in
    found-unused _ _ _ t e.first _ e.ways _ _ _ c.lookup.ensures (no_hit c.lookup.result c.in_default.not-Hit) ∙ cond-then _ _ t

pub overflow_add-set : goal.overflow_add-set
overflow_add-set c =
    let t = sym c.if-not-has_room.ensures.test in
    let e = c.set_of-set.ensures in
    omega (arith, set-in-use _ _ _ t e.first, (room-bounds _ t).in_all, found-way _ _ _ t e.first _ e.ways _ _ _ c.lookup.ensures _ c.in-Hit.is)

pub returns : goal.returns
returns c =
    let t = sym c.if-not-has_room.ensures.test in
    let e = c.set_of-set.ensures in
    found-used _ _ _ t e.first _ e.ways _ _ _ c.lookup.ensures _ c.in-Hit.is _ c.use_slot.ensures ∙ cond-then _ _ t

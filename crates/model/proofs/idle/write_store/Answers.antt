-- `write_store` meets its contract.
use mathlib.Core.Path.{refl}
use mathlib.Core.List.{[]}
use native.Mathlib.Omega.{arith}
use Rattle.rules.specs.Shape.{line_of}
use Rattle.lists.specs.Counted.{each_from}
use Rattle.rules.specs.Lines.{stored_memory}
use Rattle.line_checks.specs.Refusal.{hierarchy}
use Rattle.records.proofs.Places.{has_room_lem}
use Rattle.records.proofs.Answers.{no_hit}
use Rattle.model.proofs.Leaves.{located}
use Rattle.model.proofs.Moves.{unwritten, written-whole}
use Rattle.model.proofs.idle.write_store.Goals as goal

pub returns-in_default : goal.returns-in_default
unfolding line_of
returns-in_default c =
    let b = hierarchy c.args.figures 0 c.args.tags c.args.cache.now [] in
    let h = located b (has_room_lem c.args.figures c.requires.some-set c.requires.some-way c.requires.room) _ _ c.set_of-set.ensures.first _ c.set_of-set.ensures.ways _ _ c.lookup-found.ensures in
    unwritten _ b c.args.s _ _ h (no_hit c.lookup-found.result c.in_default.not-Hit) refl

pub overflow_add-slot : goal.overflow_add-slot
overflow_add-slot c =
    let b = hierarchy c.args.figures 0 c.args.tags c.args.cache.now [] in
    let h = located b (has_room_lem c.args.figures c.requires.some-set c.requires.some-way c.requires.room) _ _ c.set_of-set.ensures.first _ c.set_of-set.ensures.ways _ _ c.lookup-found.ensures in
    omega (arith, h.way _ c.in-Hit.is, h.within, h.room)

pub overflow_mul-at : goal.overflow_mul-at
overflow_mul-at c =
    let b = hierarchy c.args.figures 0 c.args.tags c.args.cache.now [] in
    let h = located b (has_room_lem c.args.figures c.requires.some-set c.requires.some-way c.requires.room) _ _ c.set_of-set.ensures.first _ c.set_of-set.ensures.ways _ _ c.lookup-found.ensures in
    omega (arith, h.way _ c.in-Hit.is, h.within, h.room)

pub overflow_add-at : goal.overflow_add-at
overflow_add-at c =
    let b = hierarchy c.args.figures 0 c.args.tags c.args.cache.now [] in
    let h = located b (has_room_lem c.args.figures c.requires.some-set c.requires.some-way c.requires.room) _ _ c.set_of-set.ensures.first _ c.set_of-set.ensures.ways _ _ c.lookup-found.ensures in
    omega (arith, h.way _ c.in-Hit.is, h.within, h.room)

pub returns : goal.returns
unfolding line_of stored_memory each_from
returns c =
    let b = hierarchy c.args.figures 0 c.args.tags c.args.cache.now [] in
    let h = located b (has_room_lem c.args.figures c.requires.some-set c.requires.some-way c.requires.room) _ _ c.set_of-set.ensures.first _ c.set_of-set.ensures.ways _ _ c.lookup-found.ensures in
    written-whole _ b c.args.s _ _ _ _ _ _ _ h c.set_of-set.ensures.ways c.in-Hit.is c.requires.narrow c.requires.one_line c.requires.cache-long c.put_store.ensures c.mark_written-marked.ensures c.use_slot.ensures

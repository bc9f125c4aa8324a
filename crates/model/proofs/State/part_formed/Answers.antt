-- `State::part_formed` meets its contract.
use mathlib.Core.Path.{refl, sym, ◌∙◌, ap}
use mathlib.Core.List.{[]}
use native.Mathlib.Omega.{arith}
use Rattle.rules.specs.Calls as rules
use Rattle.rules.specs.Shape.{line_of}
use Rattle.records.specs.Records.{is_hit}
use Rattle.records.proofs.Answers.{no_hit}
use Rattle.model.specs.State.{hierarchy_of}
use Rattle.model.proofs.Leaves.{located}
use Rattle.model.proofs.Moves.{show-outside, show-absent, show-present}
use Rattle.model.proofs.Calls.{formed-opens, none-does}
use Rattle.model.proofs.Facts.{fit-cache, shaped-room}
use Rattle.model.proofs.State.part_formed.Goals as goal

pub returns-then-self-address : goal.returns-then-self-address
returns-then-self-address c =
    λ cache memory formed.
    (show-outside _ _ _ _ (none-does _ _ _ (formed-opens (rules.show c.args.address) _ _ formed tt) refl) c.if-self-address.true, omega arith)

pub returns-in_default : goal.returns-in_default
unfolding line_of
returns-in_default c =
    λ cache memory formed.
    let s = c.args.self in
    let b = hierarchy_of s cache memory in
    let o = formed-opens (rules.show c.args.address) _ _ formed tt in
    let h = located b (shaped-room _ _ c.requires) _ _ c.set_of-set.ensures.first _ c.set_of-set.ensures.ways _ _ c.lookup-found.ensures in
    (show-absent _ _ _ _ (none-does _ _ _ o refl) c.if-self-address.false (sym h.here ∙ no_hit c.lookup-found.result c.in_default.not-Hit), omega arith)

pub overflow_add-result : goal.overflow_add-result
overflow_add-result c =
    let s = c.args.self in
    let b = hierarchy_of s [] [] in
    let h = located b (shaped-room _ _ c.requires) _ _ c.set_of-set.ensures.first _ c.set_of-set.ensures.ways _ _ c.lookup-found.ensures in
    omega (arith, h.way _ c.in-Hit.is, h.within, h.room)

pub overflow_mul-result : goal.overflow_mul-result
overflow_mul-result c =
    let s = c.args.self in
    let b = hierarchy_of s [] [] in
    let h = located b (shaped-room _ _ c.requires) _ _ c.set_of-set.ensures.first _ c.set_of-set.ensures.ways _ _ c.lookup-found.ensures in
    omega (arith, h.way _ c.in-Hit.is, h.within, h.room)

pub returns : goal.returns
unfolding line_of
returns c =
    λ cache memory formed.
    let s = c.args.self in
    let b = hierarchy_of s cache memory in
    let o = formed-opens (rules.show c.args.address) _ _ formed tt in
    let h = located b (shaped-room _ _ c.requires) _ _ c.set_of-set.ensures.first _ c.set_of-set.ensures.ways _ _ c.lookup-found.ensures in
    let hit = c.in-Hit.is in
    let bytes = fit-cache s cache memory o.fit in
    (show-present _ _ _ _ (none-does _ _ _ o refl) _ c.if-self-address.false (sym h.here ∙ ap is_hit hit) (h.slot _ hit) (omega (arith, bytes, h.within, h.way _ hit)), omega (arith, bytes, h.within, h.way _ hit))

-- `State::read` meets its contract.
use mathlib.Core.List.{[]}
use native.Mathlib.Omega.{arith}
use Rattle.rules.specs.Shape.{line_of}
use Rattle.model.specs.State.{queues_of, hierarchy_of}
use Rattle.model.proofs.Leaves.{located}
use Rattle.model.proofs.Facts.{shaped-room}
use Rattle.model.proofs.Reading.{read-located}
use Rattle.model.proofs.State.read.Goals as goal

pub place_of-place-requires : goal.place_of-place-requires
place_of-place-requires c w e =
    let b = hierarchy_of c.args.self c.args.cache.now [] in
    let h = located b (shaped-room _ _ c.requires.0) _ _ c.set_of-set.ensures.first _ c.set_of-set.ensures.ways _ _ c.lookup-found.ensures in
    omega (arith, h.way w e, h.within, h.room)

pub returns : goal.returns
unfolding line_of
returns c =
    let s = c.args.self in
    λ m.
    let b = hierarchy_of s c.args.cache.now m in
    let h = located b (shaped-room _ _ c.requires.0) _ _ c.set_of-set.ensures.first _ c.set_of-set.ensures.ways _ _ c.lookup-found.ensures in
    rw (c.read_bytes-read.ensures, c.place_of-place.ensures, c.is_hit-here.ensures)
    (read-located (queues_of s) b c.args.i c.args.address c.args.width c.requires.1 _ _ h c.requires.0.cache-long)

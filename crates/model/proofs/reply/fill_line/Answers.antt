-- `fill_line` meets its contract.
use native.Mathlib.Omega.{arith}
use Rattle.line_checks.specs.Refusal.{hierarchy}
use Rattle.model.proofs.Leaves.{chosen}
use Rattle.model.proofs.Moves.{filled-whole}
use Rattle.model.proofs.reply.fill_line.Goals as goal

pub offset_bounds-tags-v : goal.offset_bounds-tags-v
offset_bounds-tags-v c =
    let b = hierarchy c.args.figures 0 c.args.tags c.args.cache.now c.args.memory.now in
    let h = chosen b c.requires.room _ _ c.set_of-set.ensures.first _ c.set_of-set.ensures.ways _ c.victim-v.ensures in
    omega (arith, h.high, h.within, h.room)

pub bounds-tags-v : goal.bounds-tags-v
bounds-tags-v c =
    let b = hierarchy c.args.figures 0 c.args.tags c.args.cache.now c.args.memory.now in
    let h = chosen b c.requires.room _ _ c.set_of-set.ensures.first _ c.set_of-set.ensures.ways _ c.victim-v.ensures in
    omega (arith, h.high, h.within, h.room)

pub returns : goal.returns
returns c =
    let b = hierarchy c.args.figures 0 c.args.tags c.args.cache.now c.args.memory.now in
    let h = chosen b c.requires.room _ _ c.set_of-set.ensures.first _ c.set_of-set.ensures.ways _ c.victim-v.ensures in
    filled-whole b c.args.line _ _ _ _ _ _ c.requires h c.set_of-set.ensures.ways c.write_back.ensures c.fill_slot.ensures c.install.ensures

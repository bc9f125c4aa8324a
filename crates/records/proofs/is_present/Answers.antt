-- `is_present` meets its contract.
use mathlib.Core.Path.{sym, ◌∙◌}
use Rattle.records.proofs.Answers.{found-present, present-is}
use Rattle.records.proofs.is_present.Goals as goal

pub returns-then-has_room : goal.returns-then-has_room
returns-then-has_room c =
    let t = sym c.if-has_room.ensures.test in
    present-is _ _ _ _ t (c.is_hit.ensures ∙ found-present _ _ _ t c.set_of.ensures.first _ c.set_of.ensures.ways _ _ _ c.lookup.ensures)

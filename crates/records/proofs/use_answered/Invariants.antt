-- `use_answered` meets its contract: the rest of the loads have still to use their lines.
use mathlib.Core.Path.{◌≡◌}
use mathlib.Core.Bool.{true}
use lib.ListN.{drop}
use Rattle.lists.specs.Padded.{filter}
use Rattle.rules.specs.Calls.{uses_line_by, use_each}
use Rattle.records.specs.Records.{has_room, tabled}
use Rattle.records.proofs.use_answered.Given as goal

abbrev pub invariant-loop-load : goal.invariant-loop-load
invariant-loop-load l = (has_room l.figures ≡ true) × ((use_each (filter (uses_line_by l.k) l.load-items) (tabled l.figures l.initial.out)).tags ≡ (use_each (filter (uses_line_by l.k) (drop l.load-index l.load-items)) (tabled l.figures l.out)).tags)

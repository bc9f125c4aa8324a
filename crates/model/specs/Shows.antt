-- Show line: the part of the lent cache, by its place and length, and as a slice.
use Rattle.std.specs.Prelude.{ℕ, ◌+◌, ◌≡◌, List, length, take, drop}
use Rattle.std.specs.Borrow.{Bor}
use Rattle.rules.specs.Shape.{World}
use Rattle.rules.specs.Calls as rules
use Rattle.rules.specs.Runs.{answer}
use Rattle.model.specs.declared.show_line.Part.{Part}

-- the place and the length of the part that an answer shows
abbrev pub part_in : rules.Answer → Part
part_in (rules.refused k) = record { start = 0; length = 0 }
part_in (rules.stored i) = record { start = 0; length = 0 }
part_in (rules.value i v) = record { start = 0; length = 0 }
part_in (rules.waits i) = record { start = 0; length = 0 }
part_in (rules.waits_requested i) = record { start = 0; length = 0 }
part_in (rules.committed k) = record { start = 0; length = 0 }
part_in (rules.kept k) = record { start = 0; length = 0 }
part_in (rules.drained i) = record { start = 0; length = 0 }
part_in (rules.requested a) = record { start = 0; length = 0 }
part_in rules.idled = record { start = 0; length = 0 }
part_in (rules.filled a) = record { start = 0; length = 0 }
part_in (rules.flushed k) = record { start = 0; length = 0 }
part_in (rules.shown p bs) = record { start = p; length = length bs }
part_in (rules.checkpointed n) = record { start = 0; length = 0 }
part_in (rules.previewed p) = record { start = 0; length = 0 }

-- the part that show line gives at this world
unfoldable pub shown_part : ℕ → World → Part
shown_part a w = part_in (answer (rules.show a) w)

-- r is that part of the cache: its bytes, and where it begins
pub record PartOf (cache : Bor (List ℕ)) (p : Part) (r : Bor (List ℕ)) : Type 0 where
  pub bytes : r.now ≡ take p.length (drop p.start cache.now)
  pub place : r.ref_ptr ≡ (cache.ref_ptr.0, p.start + cache.ref_ptr.1)

-- What the functions of `records` and `line_bytes` answer where the figures leave room: where a line stands, a table and a memory
-- flushed, as the rules have it.
use Prim.Native.Nat.{ℕ, ◌+◌, ◌*◌, ◌%◌, ◌<◌, ◌≤◌}
use mathlib.Core.Path.{◌≡◌, refl, ◌∙◌, ap, ap₂}
use mathlib.Core.Bool.{true, cond, ◌&&◌}
use mathlib.Core.List.{List}
use native.Mathlib.Omega.{arith}
use lib.Dec.{ltb}
use lib.ListN.{length}
use Rattle.lists.specs.Counted.{steps_from}
use Rattle.rules.specs.declared.Tag.{Tag}
use Rattle.rules.specs.declared.Request.{Request}
use Rattle.rules.specs.declared.Lookup.{Lookup}
use Rattle.rules.specs.declared.Lookup.TheVariants.{Hit, Miss}
use Rattle.rules.specs.Shape.{Hierarchy, holding, slots, first_slot}
use Rattle.rules.specs.Lines.{slot_of, present, way_of, lookup, write_back_slot, victim}
use Rattle.rules.proofs.LineFacts.{Fits, Good, dirty-valid}
use Rattle.records.specs.Records.{has_room, in_table, in_set, is_hit, lookup_in, victim_in, flushed_tags}
use Rattle.records.proofs.Places.{room-bounds, in-set}
use Rattle.records.proofs.Answers.{at_first, set-in-use, set-in-table, found-lookup, found-present, found-way, found-slot, victim-inside, victim-known}
use Rattle.records.proofs.RecordLoops.{flushed-tags}
use Rattle.line_bytes.specs.Writes.{flushed_memory, DirtyInside}
use Rattle.line_bytes.proofs.Writing.{saves, flushed-memory}

-- ---- where a line stands

-- f is the first slot of the line's set, found what the lookup says of the line
pub record Located (r : Request) (b : Hierarchy) (l f : ℕ) (found : Lookup) : Type 0 where
  pub first : f ≡ first_slot b l
  pub within : f + b.figures.ways ≤ slots b
  pub room : slots b ≤ 256
  pub says : found ≡ lookup r b l
  pub here : is_hit found ≡ present b l
  -- where it is present: the way that has it, and the slot of that way
  pub way : (w : ℕ) → found ≡ Hit w → w < b.figures.ways
  pub slot : (w : ℕ) → found ≡ Hit w → f + w ≡ slot_of b l

-- v is the victim of the line's set
pub record Chosen (b : Hierarchy) (l f v : ℕ) : Type 0 where
  pub first : f ≡ first_slot b l
  pub within : f + b.figures.ways ≤ slots b
  pub room : slots b ≤ 256
  pub low : f ≤ v
  pub high : v < f + b.figures.ways
  pub slot : v ≡ victim b l

module _ (b : Hierarchy) (room : has_room b.figures ≡ true) (l f : ℕ)
    (first : f ≡ cond (has_room b.figures) ((l % b.figures.sets) * b.figures.ways) 0) (n : ℕ) (ways : n ≡ b.figures.ways) where
  pub located :
      (r : Request) (found : Lookup)
      → found ≡ cond (in_table f n) (lookup_in r b.tags f n l) Miss → Located r b l f found
  unfolding lookup way_of present slot_of
  located r found e =
      record {
        first = at_first b.figures l f room first;
        within = set-in-use b.figures l f room first;
        room = (room-bounds b.figures room).in_all;
        says = found-lookup b.figures l f room first n ways b.tags r found e;
        here = found-present b.figures l f room first n ways b.tags r found e;
        way = found-way b.figures l f room first n ways b.tags r found e;
        slot = found-slot b.figures l f room first n ways b.tags r found e;
      }

  pub chosen : (v : ℕ) → v ≡ cond (in_table f n && ltb 0 n) (victim_in b.tags f n) 0 → Chosen b l f v
  unfolding victim victim_in
  chosen v e =
      let r = room-bounds b.figures room in
      let found = victim-known b.tags f b.figures.ways v (set-in-table b.figures l f room first) r.some-way (rw ways at e) in
      let i = victim-inside b.tags f b.figures.ways r.some-way in
      record {
        first = at_first b.figures l f room first;
        within = set-in-use b.figures l f room first;
        room = r.in_all;
        low = omega (arith, i.0, found);
        high = omega (arith, i.1, found);
        slot = found ∙ ap (λ (f : ℕ). victim_in b.tags f b.figures.ways) (at_first b.figures l f room first);
      }

-- a slot of the set, named to a function of the table
pub slot-in-set : (b : Hierarchy) (f v : ℕ) → f + b.figures.ways ≤ slots b → slots b ≤ 256 → f ≤ v → v < f + b.figures.ways → in_set f b.figures.ways v ≡ true
slot-in-set b f v within room low high = in-set f b.figures.ways v (omega arith) low high

-- ---- flush

-- the dirty lines of a well-formed state lie in memory
pub dirty-inside : (b : Hierarchy) → Fits b → Good b → (n : ℕ) → DirtyInside b.tags n (length b.memory)
dirty-inside b fit g n k h d =
    omega (arith, g.lines.inside k (dirty-valid b g k d), fit.by_lines, fit.memory-long)

-- the records and the memory of a flush
pub flushed-all :
    (n : ℕ) (b : Hierarchy)
    → steps_from write_back_slot 0 n b
    ≡ holding b (flushed_tags n b.tags) b.cache (flushed_memory n b.tags b.cache b.memory)
flushed-all n b =
    saves n 0 b b.tags (λ k l. refl)
    ∙ ap₂ (λ (t : List Tag) (m : List ℕ). holding b t b.cache m) (flushed-tags n b.tags) (flushed-memory n b.tags b.cache b.memory)

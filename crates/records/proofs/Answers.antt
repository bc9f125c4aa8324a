-- What the answers are where the places lie in the table: the contracts without their tests, and the calls that are made one after the other.
use mathlib.Core.Path.{◌≡◌, refl, sym, ap, ap₂, ◌∙◌}
use mathlib.Core.Bool.{Bool, true, false, cond, not, ◌&&◌}
use mathlib.Core.List.{List, ◌∷◌}
use mathlib.Core.Option.{some, none}
use Rattle.std.specs.Bool.{then_some}
use Rattle.std.specs.Prelude as std
use Prim.Native.Nat.{ℕ, ◌+◌, ◌*◌, ◌-◌, ◌%◌, ◌<◌, ◌≤◌}
use native.Mathlib.Omega.{arith}
use lib.Dec.{ltb}
use lib.ListN.{set}
use borrow.Author.Tests.{ltb-true, lt-ltb}
use Rattle.lists.specs.Padded.{filter}
use Rattle.lists.specs.Counted.{first_from, each_from}
use Rattle.lists.proofs.Cond.{either, cond-then, cond-else, and_both}
use Rattle.lists.proofs.Counting.{first-low, greatest-in}
use Rattle.rules.specs.declared.Figures.{Figures}
use Rattle.rules.specs.declared.Tag.{Tag}
use Rattle.rules.specs.declared.LoadEntry.{LoadEntry}
use Rattle.rules.specs.declared.Request.{Request}
use Rattle.rules.specs.declared.Lookup.{Lookup}
use Rattle.rules.specs.declared.Lookup.TheVariants.{Hit, Pending, Miss}
use Rattle.rules.specs.Shape.{Hierarchy, names, holding, line_of, tag_at, set_of, first_slot}
use Rattle.rules.specs.Lines.{slot_of, present, way_of, lookup, aged_at, use_slot, use_line}
use Rattle.rules.specs.Calls.{uses_line_by, use_each}
use Rattle.rules.proofs.TagLookup.{hit-tells}
use Rattle.records.specs.Records.{eviction_given, has_room, in_table, in_set, is_hit, lookup_in, tabled, used_tags, victim_in, ages_in, preview_in, no_preview, installed_in}
use Rattle.records.proofs.Places.{room-bounds, slots-room, table-bound, in-table, in-set}

-- the records of a choice
tags-of : (t : Bool) (x y : Hierarchy) → (cond t x y).tags ≡ cond t x.tags y.tags
tags-of true x y = refl
tags-of false x y = refl

-- ---- first_slot and lookup, one after the other

-- what is no hit in any way is none
pub no_hit : (f : Lookup) → ((w : ℕ) → f ≡ Hit w → ⊥) → is_hit f ≡ false
no_hit (Hit w) h = absurd (h w refl)
no_hit Pending h = refl
no_hit Miss h = refl

-- the lookup says present exactly if the line is
pub hit-present : (r : Request) (b : Hierarchy) (l : ℕ) → is_hit (lookup r b l) ≡ present b l
unfolding lookup
hit-present r b l = go (present b l) (names r l)
  where
    go : (t u : Bool) → is_hit (cond t (Hit (way_of b l)) (cond u Pending Miss)) ≡ t
    go true u = refl
    go false true = refl
    go false false = refl

module _ (g : Figures) (l f : ℕ) (room : has_room g ≡ true) (first : f ≡ cond (has_room g) ((l % g.sets) * g.ways) 0) where
  pub at_first : f ≡ (l % g.sets) * g.ways
  at_first = first ∙ sym (cond-then _ _ room)

  -- the slots of the set lie among the slots in use, and those in the table
  pub set-in-use : f + g.ways ≤ g.sets * g.ways
  set-in-use = omega (arith, at_first, slots-room g l (room-bounds g room).some-set)

  pub set-in-table : in_table f g.ways ≡ true
  set-in-table = in-table f g.ways (omega (arith, set-in-use, (room-bounds g room).in_all))

  -- n is the ways
  module _ (n : ℕ) (ways : n ≡ g.ways) (tags : List Tag) (r : Request) (found : Lookup)
      (search : found ≡ cond (in_table f n) (lookup_in r tags f n l) Miss) where
    abbrev b : Hierarchy
    b = tabled g tags

    pub found-lookup : found ≡ lookup r b l
    unfolding lookup lookup_in way_of present slot_of
    found-lookup = (rw ways at search) ∙ sym (cond-then _ _ set-in-table) ∙ ap (λ (f : ℕ). lookup_in r tags f g.ways l) at_first

    pub found-present : is_hit found ≡ present b l
    found-present = ap is_hit found-lookup ∙ hit-present r b l

    -- the slot of the way that was found: it has the line, and lies in the set
    pub found-slot : (w : ℕ) → found ≡ Hit w → f + w ≡ slot_of b l
    found-slot w e = ap (λ (f : ℕ). f + w) at_first ∙ (hit-tells r b l w (sym found-lookup ∙ e)).1

    pub found-way : (w : ℕ) → found ≡ Hit w → w < g.ways
    unfolding present
    found-way w e =
        let here = hit-tells r b l w (sym found-lookup ∙ e) in
        let high : slot_of b l < first_slot b l + g.ways = ltb-true _ _ here.0 in
        omega (arith, here.1, high)

    -- ---- and use_slot: the line is used, if it is present

    abbrev aging : ℕ → ℕ → List Tag
    aging f v = each_from (aged_at f g.ways v (tag_at tags v).age) 0 tags

    used : used_tags g l tags ≡ cond (present b l) (aging (first_slot b l) (slot_of b l)) tags
    unfolding used_tags use_line use_slot
    used = tags-of (present b l) _ _

    pub found-used :
        (w : ℕ) → found ≡ Hit w → (t : List Tag) → t ≡ cond (in_set f n (f + w)) (each_from (aged_at f n (f + w) (tag_at tags (f + w)).age) 0 tags) tags → t ≡ used_tags g l tags
    found-used w e t made =
        let way = found-way w e in
        let h : f + g.ways ≤ 256 = omega (arith, set-in-use, (room-bounds g room).in_all) in
        let in-it = in-set f g.ways (f + w) h (omega arith) (omega arith) in
        (rw ways at made) ∙ sym (cond-then _ _ in-it) ∙ ap₂ aging at_first (found-slot w e)
        ∙ cond-then _ _ (sym found-present ∙ ap is_hit e) ∙ sym used

    pub found-unused : is_hit found ≡ false → tags ≡ used_tags g l tags
    found-unused e = cond-else _ _ (sym found-present ∙ e) ∙ sym used

-- ---- is_present

module _ (g : Figures) (tags : List Tag) (l : ℕ) (r : Bool) (room : has_room g ≡ true) where
  pub present-is : r ≡ present (tabled g tags) l → r ≡ (has_room g && present (tabled g tags) l)
  present-is e = e ∙ rw room

  pub present-known : r ≡ (has_room g && present (tabled g tags) l) → r ≡ present (tabled g tags) l
  present-known e = e ∙ rw room

-- ---- use_line

-- the use of a line changes the records only, as the code has it
pub used-line :
    (l : ℕ) (b : Hierarchy) → use_line l b ≡ holding b (used_tags b.figures l b.tags) b.cache b.memory
unfolding used_tags use_line present slot_of use_slot
used-line l b = go (present b l)
  where
    go :
        (t : Bool)
        → cond t (use_slot (set_of b l) (slot_of b l) b) b
        ≡ holding b (cond t (use_slot (set_of b l) (slot_of b l) (tabled b.figures b.tags)) (tabled b.figures b.tags)).tags b.cache b.memory
    go true = refl
    go false = refl

-- the lines of the answered loads, one load further: it uses its line, or it is not answered
module _ (g : Figures) (k : ℕ) (l : LoadEntry) (ls : List LoadEntry) (tags : List Tag) where
  pub answered-step :
      uses_line_by k l ≡ true
      → (use_each (filter (uses_line_by k) (l ∷ ls)) (tabled g tags)).tags
      ≡ (use_each (filter (uses_line_by k) ls) (tabled g (used_tags g (line_of l.address) tags))).tags
  unfolding filter use_each
  answered-step t = rw t (ap (λ (b : Hierarchy). (use_each (filter (uses_line_by k) ls) b).tags) (used-line (line_of l.address) (tabled g tags)))

  pub other_step :
      uses_line_by k l ≡ false
      → (use_each (filter (uses_line_by k) (l ∷ ls)) (tabled g tags)).tags ≡ (use_each (filter (uses_line_by k) ls) (tabled g tags)).tags
  unfolding filter
  other_step t = rw t

-- ---- victim

-- the victim is in the set
pub victim-inside : (tags : List Tag) (f ways : ℕ) → 0 < ways → (f ≤ victim_in tags f ways) × (victim_in tags f ways < f + ways)
unfolding victim_in
victim-inside tags f ways pos =
    let p : ℕ → Bool = λ k. not (tag_at tags k).valid in
    let g = greatest-in (λ k. (tag_at tags k).age) f (f + ways) ways f f (omega arith, omega arith) (omega arith) (omega arith) in
    either (λ (r : ℕ). (f ≤ r) × (r < f + ways)) (ltb (first_from p f ways) (f + ways))
    (λ e. (first-low p ways f, ltb-true _ _ e)) (λ e. (g.0, g.1))

-- what `victim` answers
pub victim-known :
    (tags : List Tag) (f ways r : ℕ) → in_table f ways ≡ true → 0 < ways
    → r ≡ cond (in_table f ways && ltb 0 ways) (victim_in tags f ways) 0 → r ≡ victim_in tags f ways
victim-known tags f ways r t pos e = e ∙ sym (cond-then _ _ (and_both (in_table f ways) (ltb 0 ways) t (lt-ltb 0 ways pos)))

-- where it stands
pub record VictimAt (tags : List Tag) (f ways v : ℕ) : Type 0 where
  pub within : f + ways ≤ 256
  pub low : f ≤ v
  pub high : v < f + ways
  pub slot : v ≡ victim_in tags f ways

pub victim-at :
    (tags : List Tag) (f ways v : ℕ) → in_table f ways ≡ true → (ways ≡ 0 → ⊥)
    → v ≡ cond (in_table f ways && ltb 0 ways) (victim_in tags f ways) 0 → VictimAt tags f ways v
victim-at tags f ways v t pos e =
    let is = victim-known tags f ways v t (omega arith) e in
    let i = victim-inside tags f ways (omega arith) in
    record { within = table-bound f ways t; low = omega (arith, i.0, is); high = omega (arith, i.1, is); slot = is }

-- ---- preview_fill

eviction-is : (b : Bool) (l : ℕ) → eviction_given (then_some b l) ≡ cond b (some l) none
eviction-is true l = refl
eviction-is false l = refl

module _ (tags : List Tag) (f ways : ℕ) where
  -- what the victim's record and the ages make
  pub previewed :
      (v : ℕ) (evicted : std.Option ℕ) (ages : List ℕ) → in_table f ways ≡ true → (ways ≡ 0 → ⊥) → v ≡ victim_in tags f ways
      → evicted ≡ then_some (tag_at tags v).valid (tag_at tags v).line → ages ≡ ages_in tags f ways v
      → record { way = v - f; evicted = eviction_given evicted; words = (tag_at tags v).dirty; ages = ages }
      ≡ cond (in_table f ways && ltb 0 ways) (preview_in tags f ways) no_preview
  unfolding preview_in
  previewed v evicted ages t pos slot gone aged = rw (gone, eviction-is, aged, slot, t, lt-ltb 0 ways (omega arith))

-- ---- install

-- what `use_slot` makes of the table with the line's record
pub installed :
    (f ways v l m : ℕ) (tags r : List Tag) → true ≡ in_set f ways v → (l < 65536) × (m ≡ l)
    → (let out = set tags v (record { valid = true; dirty = 0; line = m; age = (tag_at tags v).age }) in
    r ≡ cond (in_set f ways v) (each_from (aged_at f ways v (tag_at out v).age) 0 out) out)
    → r ≡ cond (in_set f ways v && ltb l 65536) (installed_in f ways v l tags) tags
unfolding installed_in
installed f ways v l m tags r t h e = e ∙ rw (← t, h.1, lt-ltb l 65536 h.0)

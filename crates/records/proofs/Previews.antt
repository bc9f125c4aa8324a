-- What the records of a set tell of a fill is what the rules' fill then does: the ages of a fill are those of a use of the victim, since the line
-- that comes takes the age of its place first.
use mathlib.Core.Path.{◌≡◌, refl, sym, ap, ◌∙◌}
use mathlib.Core.Bool.{◌&&◌}
use mathlib.Core.List.{List}
use Prim.Native.Nat.{ℕ, ◌+◌, ◌-◌, ◌<◌, ◌≤◌}
use native.Mathlib.Omega.{arith}
use lib.Dec.{ltb, leb, eqb}
use lib.ListN.{length, set, replicate, length-set}
use borrow.Author.Tests.{ltb-true}
use Rattle.lists.proofs.Cond.{cases}
use Rattle.lists.proofs.Counting.{each_at}
use Rattle.lists.proofs.CountedLoops.{each-ext}
use Rattle.rules.specs.declared.Tag.{Tag}
use Rattle.rules.specs.Shape.{Hierarchy, no_tag, most_ways, set_of, first_slot, tag_at}
use Rattle.rules.specs.Lines.{aged_at, use_slot, cleaned, write_back_slot, victim, install, fill_line, evicted_line, ages_of, preview_of}
use Rattle.rules.proofs.Records.{at_set}
use Rattle.rules.proofs.Recency.{victim-range}
use Rattle.records.specs.Records.{victim_in, age_in, ages_in, preview_in}

-- a use ages a record by its age alone
aged-alike : (f ways v a k : ℕ) (t u : Tag) → t.age ≡ u.age → (aged_at f ways v a k t).age ≡ (aged_at f ways v a k u).age
unfolding aged_at
aged-alike f ways v a k t u e =
    cases (eqb k v) (λ h. rw h)
    (λ h. rw (h, e) (cases (leb f k && (ltb k (f + ways) && ltb u.age a)) (λ m. rw m) (λ m. rw m)))

-- a record is written that has the age of the one before it
set-alike : (tags : List Tag) (v : ℕ) (t : Tag) → v < length tags → t.age ≡ (tag_at tags v).age → (k : ℕ) → (tag_at (set tags v t) k).age ≡ (tag_at tags k).age
set-alike tags v t h e = at_set tags v t h (λ k u. u.age ≡ (tag_at tags k).age) e (λ k d. refl)

module _ (b : Hierarchy) (l : ℕ) (some : 0 < b.figures.ways) (room : first_slot b l + b.figures.ways ≤ length b.tags) where
  abbrev v : ℕ
  v = victim b l

  -- the records with the line in the victim's place, before it is used
  abbrev placed : List Tag
  placed = (install v l (write_back_slot v b)).tags

  v-in : v < length b.tags
  v-in = let h = victim-range b l some in omega (arith, h.1)

  placed_alike : (k : ℕ) → (tag_at placed k).age ≡ (tag_at b.tags k).age
  unfolding install write_back_slot
  placed_alike k =
      let t = cleaned (tag_at b.tags v) in
      let saved = set-alike b.tags v t v-in refl in
      set-alike (set b.tags v t) v _ (omega (arith, v-in, length-set b.tags v t)) refl k ∙ saved k

  placed-long : length placed ≡ length b.tags
  unfolding install write_back_slot
  placed-long = length-set (set b.tags v (cleaned (tag_at b.tags v))) v _ ∙ length-set b.tags v _

  -- the age of a way after the fill
  filled-age :
      (k : ℕ) → k < b.figures.ways
      → (tag_at (fill_line l b).tags (first_slot b l + k)).age
      ≡ (aged_at (first_slot b l) b.figures.ways v (tag_at b.tags v).age (first_slot b l + k) (tag_at b.tags (first_slot b l + k))).age
  unfolding fill_line use_slot install write_back_slot
  filled-age k h =
      let j = first_slot b l + k in
      ap (λ (t : Tag). t.age) (each_at _ placed no_tag j (omega (arith, placed-long)))
      ∙ (ap (λ (a : ℕ). (aged_at (first_slot b l) b.figures.ways v a j (tag_at placed j)).age) (placed_alike v)
      ∙ aged-alike _ _ v _ j _ _ (placed_alike j))

  ages-same : ages_in b.tags (first_slot b l) b.figures.ways v ≡ ages_of (fill_line l b) (set_of b l)
  unfolding ages_in ages_of age_in fill_line use_slot install write_back_slot
  ages-same =
      each-ext _ _ (λ k x. cases (ltb k b.figures.ways) (λ e. rw e (sym (filled-age k (ltb-true k b.figures.ways e)))) (λ e. rw e))
      (replicate most_ways 0)

  -- all of it
  pub preview-is : preview_in b.tags (first_slot b l) b.figures.ways ≡ preview_of b l
  unfolding preview_in preview_of evicted_line victim_in victim
  preview-is = λ i. record {
    way = victim b l - first_slot b l;
    evicted = evicted_line b l;
    words = (tag_at b.tags (victim b l)).dirty;
    ages = ages-same i;
  }

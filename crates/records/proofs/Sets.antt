-- A set's records searched one after the other: the way that is found, and the slot that the rules find.
use mathlib.Core.Path.{◌≡◌, refl, sym, ap, ◌∙◌}
use mathlib.Core.Bool.{Bool, true, false, cond, not}
use mathlib.Core.List.{List}
use Prim.Native.Nat.{ℕ, zero, suc, ◌+◌, ◌-◌, ◌<◌, ◌≤◌}
use native.Mathlib.Omega.{arith}
use lib.Dec.{eqb, ltb}
use lib.ListN.{length, get_or, take, drop, replicate, length-take, length-drop}
use lib.Seq.{drop-cons}
use borrow.Author.Tests.{lt-ltb, le-ltb, eq-eqb, eqb-true, ltb-true}
use Rattle.std.proofs.lemmas.List.{get_or-take, get_or-drop}
use Rattle.std.specs.List.{position_from}
use Rattle.std.specs.Prelude.{Option, Some, None, unwrap_or}
use Rattle.lists.specs.Padded.{position}
use Rattle.lists.specs.Counted.{first_from, greatest_from, each_from}
use Rattle.lists.proofs.Cond.{cases, cond-then}
use Rattle.lists.proofs.Counting.{each-length, each_at}
use Rattle.lists.proofs.CountedLoops.{each-ext}
use Rattle.lists.proofs.Library.{position-list}
use Rattle.rules.specs.declared.Tag.{Tag}
use Rattle.rules.specs.declared.Request.{Request}
use Rattle.rules.specs.declared.Request.TheVariants.{Free, Line}
use Rattle.rules.specs.declared.Lookup.TheVariants.{Hit, Pending, Miss}
use Rattle.rules.specs.Shape.{no_tag, tag_at, names}
use Rattle.rules.specs.Lines.{holds_line, aged_at}
use Rattle.records.specs.Records.{in_set, lookup_in, victim_in, age_in, ages_in}

module _ {A : Type 0} (p : A → Bool) where
  -- the first slot that passes, by its way
  first-slot : (d : A) (l : List A) (n f : ℕ) → f + n ≤ length l → f + position p (take n (drop f l)) ≡ first_from (λ k. p (get_or l k d)) f n
  unfolding position first_from
  first-slot d l zero f h = omega arith
  first-slot d l (suc n) f h =
      rw (drop-cons l f d (omega arith))
      (cases (p (get_or l f d)) (λ e. rw e (omega arith)) (λ e. rw e (omega (arith, first-slot d l n (suc f) (omega arith)))))

-- the greatest of a part, and of the whole that it is a part of
greatest-shift :
    (g h : ℕ → ℕ) (f top : ℕ) → ((k : ℕ) → k < top → h k ≡ g (f + k))
    → (n b i : ℕ) → b < top → i + n ≤ top → greatest_from g (f + b) (f + i) n ≡ f + greatest_from h b i n
unfolding greatest_from
greatest-shift g h f top same zero b i p q = refl
greatest-shift g h f top same (suc n) b i p q =
    let s : suc (f + i) ≡ f + suc i = omega arith in
    rw (s, same b p, same i (omega arith))
    (cases (ltb (g (f + b)) (g (f + i)))
    (λ e. rw e (greatest-shift g h f top same n i (suc i) (omega arith) (omega arith)))
    (λ e. rw e (greatest-shift g h f top same n b (suc i) p (omega arith))))

-- ---- the register

pub names-line : (r : Request) (l : ℕ) → r ≡ Line l → names r l ≡ true
names-line r l e = rw e (eq-eqb l l refl)

pub names-other : (r : Request) (l : ℕ) → (r ≡ Line l → ⊥) → names r l ≡ false
names-other Free l h = refl
names-other (Line k) l h = cases (eqb k l) (λ e. absurd (h (ap Line (eqb-true k l e)))) (λ e. e)

-- part is the records of the set of n ways from slot f on
module _ (tags : List Tag) (f n : ℕ) (within : f + n ≤ length tags) (part : List Tag) (its : part ≡ take n (drop f tags)) where
  pub part-long : length part ≡ n
  part-long = rw its (omega (arith, length-take n (drop f tags), length-drop f tags))

  pub part-at : (k : ℕ) → k < n → tag_at part k ≡ tag_at tags (f + k)
  part-at k h = rw its (get_or-take n (drop f tags) k no_tag h ∙ get_or-drop f tags k no_tag)

  -- a search of them
  module _ (p : Tag → Bool) (r : Option ℕ) (searched : r ≡ position_from p 0 part) where
    abbrev slot : ℕ
    slot = first_from (λ k. p (tag_at tags k)) f n

    by-way : f + unwrap_or r n ≡ slot
    by-way = rw (searched, position-list p n part part-long, its) (first-slot p _ tags n f within)

    pub found-slot : (w : ℕ) → r ≡ Some w → slot ≡ f + w
    found-slot w e = let s : f + unwrap_or (Some w) n ≡ slot = rw e at by-way in sym s

    pub no-slot : r ≡ None → slot ≡ f + n
    no-slot e = let s : f + unwrap_or None n ≡ slot = rw e at by-way in sym s

  -- ---- lookup

  module _ (l : ℕ) (r : Option ℕ) (searched : r ≡ position_from (holds_line l) 0 part) (q : Request) where
    pub lookup-way : (w : ℕ) → r ≡ Some w → w < n → Hit w ≡ lookup_in q tags f n l
    unfolding lookup_in
    lookup-way w e k =
        let d : f + w - f ≡ w = omega arith in
        rw (found-slot (holds_line l) r searched w e, lt-ltb (f + w) (f + n) (omega arith), d)

    pub lookup-named : r ≡ None → names q l ≡ true → Pending ≡ lookup_in q tags f n l
    unfolding lookup_in
    lookup-named e m = rw (no-slot (holds_line l) r searched e, le-ltb (f + n) (f + n) (omega arith), m)

    pub lookup-misses : r ≡ None → names q l ≡ false → Miss ≡ lookup_in q tags f n l
    unfolding lookup_in
    lookup-misses e m = rw (no-slot (holds_line l) r searched e, le-ltb (f + n) (f + n) (omega arith), m)

  -- ---- the victim

  module _ (r : Option ℕ) (searched : r ≡ position_from (λ t. not t.valid) 0 part) where
    pub victim-invalid : (w : ℕ) → r ≡ Some w → w < n → f + w ≡ victim_in tags f n
    unfolding victim_in
    victim-invalid w e k =
        rw (found-slot _ r searched w e, lt-ltb (f + w) (f + n) (omega arith))

    pub victim-oldest : (w : ℕ) → 0 < n → w ≡ greatest_from (λ k. (tag_at part k).age) 0 0 (length part) → r ≡ None → f + w ≡ victim_in tags f n
    unfolding victim_in
    victim-oldest w pos g e =
        let z : f + 0 ≡ f = omega arith in
        let shifted = greatest-shift (λ k. (tag_at tags k).age) (λ k. (tag_at part k).age) f n (λ k h. ap (λ (t : Tag). t.age) (part-at k h)) n 0 0 pos (omega arith) in
        rw (no-slot _ r searched e, le-ltb (f + n) (f + n) (omega arith), g, part-long) (sym (rw z at shifted))

-- ---- the ages after a use

module _ (tags : List Tag) (f n v : ℕ) (long : length tags ≡ 256) (inside : true ≡ in_set f n v) (within : f + n ≤ 256) (used : List Tag)
    (made : used ≡ cond (in_set f n v) (each_from (aged_at f n v (tag_at tags v).age) 0 tags) tags)
    (part : List Tag) (its : part ≡ take n (drop f used)) where
  aged-all : used ≡ each_from (aged_at f n v (tag_at tags v).age) 0 tags
  aged-all = made ∙ sym (cond-then _ _ (sym inside))

  room : f + n ≤ length used
  room = let e : length used ≡ 256 = rw aged-all (each-length (aged_at f n v (tag_at tags v).age) 0 tags ∙ long) in omega arith

  age-told : (k : ℕ) → k < n → (tag_at part k).age ≡ (aged_at f n v (tag_at tags v).age (f + k) (tag_at tags (f + k))).age
  age-told k h =
      let aging = aged_at f n v (tag_at tags v).age in
      let at : tag_at part k ≡ aging (f + k) (tag_at tags (f + k)) =
      part-at used f n room part its k h ∙ rw aged-all (each_at aging tags no_tag (f + k) (omega arith)) in
      ap (λ (t : Tag). t.age) at

  pub ages-told : each_from (λ k x. cond (ltb k (length part)) (tag_at part k).age x) 0 (replicate 4 0) ≡ ages_in tags f n v
  unfolding ages_in age_in
  ages-told =
      rw (part-long used f n room part its)
      (each-ext _ _ (λ k x. cases (ltb k n) (λ e. rw e (age-told k (ltb-true k n e))) (λ e. rw e)) (replicate 4 0))

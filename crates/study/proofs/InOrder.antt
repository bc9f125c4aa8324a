-- A set of tag records that is the stack of its lines, cut to the ways: each record stands for what the stack has at the distance of its age.
-- A use keeps it so, and the lookup finds a line exactly where its distance is below the ways.
use Prim.Native.Nat.{ℕ, zero, suc, ◌+◌, ◌<◌, ◌≤◌}
use mathlib.Core.Path.{◌≡◌, sym, ap, ◌∙◌}
use mathlib.Core.Bool.{Bool, true, cond}
use mathlib.Core.List.{List}
use native.Mathlib.Omega.{arith}
use native.Mathlib.Decide.{dec_lt}
use lib.Dec.{ltb, eqb}
use lib.ListN.{get_or}
use borrow.Author.Tests.{ltb-true, ltb-false, eqb-true, lt-ltb, eq-eqb}
use Rattle.lists.proofs.Cond.{cases}
use Rattle.lists.proofs.Counting.{first-hits, first-least}
use Rattle.rules.specs.declared.Tag.{Tag}
use Rattle.rules.specs.Shape.{Hierarchy, tag_at, first_slot}
use Rattle.rules.specs.Lines.{holds_line, slot_of, present}
use Rattle.rules.proofs.Recency.{Ages, Aged, used, grown, kept}
use Rattle.rules.proofs.LineFacts.{holds-is, present-tells}
use Rattle.study.specs.Stack.{touch, distance}
use Rattle.study.proofs.Stack.{touch-above}

abbrev pub age_at : List Tag → ℕ → ℕ
age_at tags k = (tag_at tags k).age

-- what a record stands for in a stack: its line + 1 if it is valid
abbrev pub stands_for : Tag → ℕ
stands_for t = cond t.valid (suc t.line) 0

-- a slot of the set from slot f on whose age is d
pub record WayOf (tags : List Tag) (ways f d : ℕ) : Type 0 where
  pub slot : ℕ
  pub low : f ≤ slot
  pub high : slot < f + ways
  pub aged : age_at tags slot ≡ d

-- of the set from slot f on: each record is what the stack has at the distance of its age, and each distance below the ways is the age
-- of a record
pub record InOrder (tags : List Tag) (ways f : ℕ) (S : List ℕ) : Type 0 where
  pub way : (d : ℕ) → d < ways → WayOf tags ways f d
  pub held : (k : ℕ) → f ≤ k → k < f + ways → stands_for (tag_at tags k) ≡ get_or S (age_at tags k) 0

-- ---- a use, in its set

-- Slot v of the set from slot f on is used, and then stands for m: above its age m does not stand, and below it nothing moves.
module _ (ways f v m : ℕ) (S : List ℕ) (old new : List Tag) (g : InOrder old ways f S) (low : f ≤ v) (high : v < f + ways)
    (moved : (k : ℕ) → f ≤ k → k < f + ways → Aged v (age_at old v) k (age_at old k) (age_at new k))
    (there : stands_for (tag_at new v) ≡ m)
    (others : (k : ℕ) → (k ≡ v → ⊥) → stands_for (tag_at new k) ≡ stands_for (tag_at old k))
    (above : (d : ℕ) → d < age_at old v → get_or S d 0 ≡ m → ⊥)
    (below : (k : ℕ) → f ≤ k → k < f + ways → age_at old v < age_at old k → get_or (touch m S) (age_at old k) 0 ≡ get_or S (age_at old k) 0) where
  unlike : (k : ℕ) → (age_at old k ≡ age_at old v → ⊥) → k ≡ v → ⊥
  unlike k h e = h (ap (age_at old) e)

  -- what slot k stands for is in the new stack at the distance of its new age
  held_at : (k : ℕ) → f ≤ k → k < f + ways → (n : ℕ) → Aged v (age_at old v) k (age_at old k) n → stands_for (tag_at new k) ≡ get_or (touch m S) n 0
  unfolding touch
  held_at k p q n (used e z) = rw z (ap (λ (j : ℕ). stands_for (tag_at new j)) e ∙ there)
  held_at k p q n (grown l z) =
      let z' : n ≡ suc (age_at old k) = omega arith in
      rw z' (others k (unlike k (λ e. omega arith)) ∙ (g.held k p q ∙ sym (touch-above m S (age_at old k) (λ c a. above c (omega arith)))))
  held_at k p q n (kept l z) = rw z (others k (unlike k (λ e. omega arith)) ∙ (g.held k p q ∙ sym (below k p q l)))

  -- a slot whose age is d after the use
  now-at : (k : ℕ) → f ≤ k → k < f + ways → (d : ℕ) → ((n : ℕ) → Aged v (age_at old v) k (age_at old k) n → n ≡ d) → WayOf new ways f d
  now-at k p q d h = record { slot = k; low = p; high = q; aged = h (age_at new k) (moved k p q) }

  grows : (k n : ℕ) → age_at old k < age_at old v → Aged v (age_at old v) k (age_at old k) n → n ≡ suc (age_at old k)
  grows k n h (used e z) = absurd (unlike k (λ q. omega arith) e)
  grows k n h (grown l z) = omega arith
  grows k n h (kept l z) = omega arith

  keeps : (k n : ℕ) → age_at old v < age_at old k → Aged v (age_at old v) k (age_at old k) n → n ≡ age_at old k
  keeps k n h (used e z) = absurd (unlike k (λ q. omega arith) e)
  keeps k n h (grown l z) = omega arith
  keeps k n h (kept l z) = z

  zeroed : (n : ℕ) → Aged v (age_at old v) v (age_at old v) n → n ≡ 0
  zeroed n (used e z) = z
  zeroed n (grown l z) = omega arith
  zeroed n (kept l z) = omega arith

  way_at : (d : ℕ) → d < ways → WayOf new ways f d
  way_at zero h = now-at v low high 0 zeroed
  way_at (suc d) h =
      elim (dec_lt d (age_at old v)) [
        | yes l ↦ let w = g.way d (omega arith) in
            now-at w.slot w.low w.high (suc d) (λ n a. grows w.slot n (omega (arith, w.aged)) a ∙ ap suc w.aged)
        | no l ↦ let w = g.way (suc d) h in
            now-at w.slot w.low w.high (suc d) (λ n a. keeps w.slot n (omega (arith, w.aged)) a ∙ w.aged)
      ]

  pub use-in-order : InOrder new ways f (touch m S)
  use-in-order = record { way = way_at; held = λ k p q. held_at k p q (age_at new k) (moved k p q) }

-- the same ages and lines
pub in-order-same :
    (ways f : ℕ) (S : List ℕ) (old new : List Tag)
    → ((k : ℕ) → f ≤ k → k < f + ways → (age_at new k ≡ age_at old k) × (stands_for (tag_at new k) ≡ stands_for (tag_at old k)))
    → InOrder old ways f S → InOrder new ways f S
in-order-same ways f S old new h g =
    record {
      way = λ d l.
          let w = g.way d l in
          record { slot = w.slot; low = w.low; high = w.high; aged = (h w.slot w.low w.high).0 ∙ w.aged };
      held = λ k p q. (h k p q).1 ∙ (g.held k p q ∙ ap (λ (d : ℕ). get_or S d 0) (sym (h k p q).0));
    }

-- ---- the lookup

stands-holds : (l : ℕ) (t : Tag) → stands_for t ≡ suc l → holds_line l t ≡ true
stands-holds l t e =
    cases t.valid
    (λ v. let q : suc t.line ≡ suc l = rw v at e in holds-is l t v (omega arith))
    (λ v. let q : 0 ≡ suc l = rw v at e in let no : ⊥ = omega arith in absurd no)

module _ (b : Hierarchy) (l : ℕ) (S : List ℕ) (ages : Ages b.tags b.figures.ways (first_slot b l))
    (g : InOrder b.tags b.figures.ways (first_slot b l) S) (most : b.figures.ways ≤ 4) where
  abbrev ways : ℕ
  ways = b.figures.ways

  abbrev stands : ℕ → Bool
  stands d = eqb (get_or S d 0) (suc l)

  -- distances below the ways at which the line stands
  pub distance_least : (d : ℕ) → d < ways → get_or S d 0 ≡ suc l → distance (suc l) S ≤ d
  unfolding distance
  distance_least d h e = first-least stands 4 0 d (omega arith) (omega arith) (eq-eqb _ _ e)

  -- where a present line stands
  pub record Hit : Type 0 where
    pub low : first_slot b l ≤ slot_of b l
    pub high : slot_of b l < first_slot b l + ways
    pub stood : stands_for (tag_at b.tags (slot_of b l)) ≡ suc l
    pub at-age : get_or S (age_at b.tags (slot_of b l)) 0 ≡ suc l

  pub hit-tells : present b l ≡ true → Hit
  hit-tells e =
      let t = present-tells b l e in
      let m : stands_for (tag_at b.tags (slot_of b l)) ≡ suc l = rw t.valid (ap suc t.line) in
      record { low = t.low; high = t.high; stood = m; at-age = sym (g.held (slot_of b l) t.low t.high) ∙ m }

  pub present-distance : present b l ≡ ltb (distance (suc l) S) ways
  unfolding present slot_of distance
  present-distance =
      cases (ltb (distance (suc l) S) ways)
      (λ e.
      let h = ltb-true (distance (suc l) S) ways e in
      let w = g.way (distance (suc l) S) h in
      let s = eqb-true _ _ (first-hits stands 4 0 (omega arith)) in
      let m = g.held w.slot w.low w.high ∙ (ap (λ (d : ℕ). get_or S d 0) w.aged ∙ s) in
      let f = first-least (λ k. holds_line l (tag_at b.tags k)) ways (first_slot b l) w.slot w.low w.high (stands-holds l _ m) in
      lt-ltb (slot_of b l) (first_slot b l + ways) (omega (arith, f, w.high)) ∙ sym e)
      (λ e.
      let h = ltb-false (distance (suc l) S) ways e in
      cases (present b l)
      (λ t.
      let k = hit-tells t in
      let a = ages.small (slot_of b l) k.low k.high in
      let no : ⊥ = omega (arith, a, distance_least (age_at b.tags (slot_of b l)) a k.at-age) in
      absurd no)
      (λ t. t ∙ sym e))

-- The tag lookup: what it answers, by the records of the line's set and the register.
use Prim.Native.Nat.{ℕ, ◌+◌, ◌≤◌, ◌<◌}
use mathlib.Core.Path.{◌≡◌, refl, sym, ◌∙◌, ap, subst}
use mathlib.Core.Bool.{Bool, true, false}
use native.Mathlib.Omega.{arith}
use borrow.Author.Tests.{ltb-false, eqb-true, eq-eqb}
use Rattle.lists.proofs.Cond.{cases, wrong}
use Rattle.lists.proofs.Counting.{first-low, first-least}
use Rattle.rules.specs.declared.Request.{Request}
use Rattle.rules.specs.declared.Request.TheVariants.{Free, Line}
use Rattle.rules.specs.declared.Lookup.TheVariants.{Hit, Pending, Miss}
use Rattle.rules.specs.Shape.{Hierarchy, names, first_slot, tag_at}
use Rattle.rules.specs.Lines.{holds_line, slot_of, present, way_of, lookup}
use Rattle.rules.specs.TagLookup.{InWay, PresentIn, Absent, LookupExact}
use Rattle.rules.proofs.LineFacts.{holds-is, present-tells}

-- ---- the register

pub names-tells : (r : Request) (l : ℕ) → names r l ≡ true → r ≡ Line l
names-tells Free l e = wrong e refl
names-tells (Line k) l e = ap Line (eqb-true k l e)

pub names-is : (r : Request) (l : ℕ) → r ≡ Line l → names r l ≡ true
names-is r l e = rw e (eq-eqb l l refl)

names-not : (r : Request) (l : ℕ) → (r ≡ Line l → ⊥) → names r l ≡ false
names-not r l other = cases (names r l) (λ m. absurd (other (names-tells r l m))) (λ m. m)

-- ---- the records

module _ (b : Hierarchy) (l : ℕ) where
  abbrev test : ℕ → Bool
  test k = holds_line l (tag_at b.tags k)

  -- the slot that has the line is that of its way
  pub slot-way : first_slot b l + way_of b l ≡ slot_of b l
  unfolding way_of slot_of
  slot-way = let low : first_slot b l ≤ slot_of b l = first-low test b.figures.ways (first_slot b l) in omega arith

  -- no way below the slot has the line
  below_none : (w : ℕ) → w < b.figures.ways → first_slot b l + w < slot_of b l → InWay b l w → ⊥
  unfolding slot_of
  below_none w low before i =
      let here = holds-is l (tag_at b.tags (first_slot b l + w)) i.valid i.same in
      let least : slot_of b l ≤ first_slot b l + w = first-least test b.figures.ways (first_slot b l) (first_slot b l + w) (omega arith) (omega arith) here in
      omega arith

  pub present-in : present b l ≡ true → PresentIn b l (way_of b l)
  present-in e =
      let p = present-tells b l e in
      let high : slot_of b l < first_slot b l + b.figures.ways = p.high in
      let at = slot-way in
      record {
        a-way = omega arith;
        there = record { valid = rw at p.valid; same = rw at p.line };
        lowest = λ k low. below_none k (omega arith) (omega arith);
      }

  absent-in : present b l ≡ false → Absent b l
  unfolding present
  absent-in e w low = below_none w low (let high : first_slot b l + b.figures.ways ≤ slot_of b l = ltb-false _ _ e in omega arith)

  absent-is : Absent b l → present b l ≡ false
  absent-is none = cases (present b l) (λ p. let i = present-in p in absurd (none (way_of b l) i.a-way i.there)) (λ p. p)

  -- the lowest way that has the line is one
  way-is : (w : ℕ) → PresentIn b l w → (present b l ≡ true) × (way_of b l ≡ w)
  way-is w i = cases (present b l)
      (λ p.
      let j = present-in p in
      let not-above : w < way_of b l → ⊥ = λ h. j.lowest w h i.there in
      let not-below : way_of b l < w → ⊥ = λ h. i.lowest (way_of b l) h j.there in
      (p, omega arith))
      (λ p. absurd (absent-in p w i.a-way i.there))

-- ---- the lookup

module _ (r : Request) (b : Hierarchy) (l : ℕ) where
  lookup-hit : present b l ≡ true → lookup r b l ≡ Hit (way_of b l)
  unfolding lookup
  lookup-hit e = rw e

  lookup-pending : present b l ≡ false → names r l ≡ true → lookup r b l ≡ Pending
  unfolding lookup
  lookup-pending e m = rw (e, m)

  lookup-miss : present b l ≡ false → names r l ≡ false → lookup r b l ≡ Miss
  unfolding lookup
  lookup-miss e m = rw (e, m)

  -- what each answer tells of the line and the register
  hit-way : (w : ℕ) → lookup r b l ≡ Hit w → (present b l ≡ true) × (way_of b l ≡ w)
  hit-way w e = cases (present b l)
      (λ p. let h = lookup-hit p in (p, cc))
      (λ p. cases (names r l)
      (λ m. let h = lookup-pending p m in let z : ◌≡◌ {A = ℕ} 0 1 = cc in absurd (omega arith))
      (λ m. let h = lookup-miss p m in let z : ◌≡◌ {A = ℕ} 0 1 = cc in absurd (omega arith)))

  pub hit-tells : (w : ℕ) → lookup r b l ≡ Hit w → (present b l ≡ true) × (first_slot b l + w ≡ slot_of b l)
  hit-tells w e = let h = hit-way w e in (h.0, ap (λ (w : ℕ). first_slot b l + w) (sym h.1) ∙ slot-way b l)

  pending-tells : lookup r b l ≡ Pending → (present b l ≡ false) × (names r l ≡ true)
  pending-tells e = cases (present b l)
      (λ p. let h = lookup-hit p in let z : ◌≡◌ {A = ℕ} 0 1 = cc in absurd (omega arith))
      (λ p. cases (names r l)
      (λ m. (p, m))
      (λ m. let h = lookup-miss p m in let z : ◌≡◌ {A = ℕ} 0 1 = cc in absurd (omega arith)))

  miss-tells : lookup r b l ≡ Miss → (present b l ≡ false) × (names r l ≡ false)
  miss-tells e = cases (present b l)
      (λ p. let h = lookup-hit p in let z : ◌≡◌ {A = ℕ} 0 1 = cc in absurd (omega arith))
      (λ p. cases (names r l)
      (λ m. let h = lookup-pending p m in let z : ◌≡◌ {A = ℕ} 0 1 = cc in absurd (omega arith))
      (λ m. (p, m)))

  pub lookup-exact : LookupExact r b l
  lookup-exact = record {
    hit-only = λ w e. let h = hit-way w e in subst (PresentIn b l) h.1 (present-in b l h.0);
    hit-whenever = λ w i. let h = way-is b l w i in lookup-hit h.0 ∙ ap Hit h.1;
    pending-only = λ e. let h = pending-tells e in (absent-in b l h.0, names-tells r l h.1);
    pending-whenever = λ none is. lookup-pending (absent-is b l none) (names-is r l is);
    miss-only = λ e. let h = miss-tells e in (absent-in b l h.0, λ is. wrong (names-is r l is) h.1);
    miss-whenever = λ none other. lookup-miss (absent-is b l none) (names-not r l other);
    slot = λ w e. (hit-tells w e).1;
  }

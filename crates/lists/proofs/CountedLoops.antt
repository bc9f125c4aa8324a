-- Laws for the invariant of a loop that counts from k up to end, "the rest equals the whole": what one turn does, and what is left at the end.
use mathlib.Core.Path.{◌≡◌, refl, sym, ap, subst, fun_ext, ◌∙◌}
use mathlib.Core.Bool.{Bool, true, false, ◌&&◌}
use mathlib.Core.List.{List, [], ◌∷◌}
use mathlib.Core.Logic.{⊎_elim}
use Prim.Native.Nat.{ℕ, zero, suc, ◌+◌, ◌-◌, ◌<◌, ◌≤◌}
use native.Mathlib.Nat.{eq-or-lt_of_le}
use native.Mathlib.Numerals.{add-one}
use native.Mathlib.Decide.{dec_lt}
use native.Mathlib.Omega.{arith}
use lib.ListN.{length, get_or, set, length-set}
use lib.Seq.{get_or-set_same, get_or-set_other, ext_get_or}
use borrow.Author.Tests.{lt-ltb, le-ltb}
use Rattle.lists.specs.Counted.{first_from, all_from, greatest_from, steps_from, each_from}
use Rattle.lists.proofs.Counting.{each-length, each_at, each_same}

-- ---- the first, all

and-true : (t : Bool) → (t && true) ≡ t
and-true true = refl
and-true false = refl

and-false : (t : Bool) → (t && false) ≡ false
and-false true = refl
and-false false = refl

and_assoc : (a b c : Bool) → ((a && b) && c) ≡ (a && (b && c))
and_assoc true b c = refl
and_assoc false b c = refl

module _ (p : ℕ → Bool) (k end : ℕ) where
  pub first-hit : k < end → p k ≡ true → first_from p k (end - k) ≡ k
  unfolding first_from
  first-hit h t = let e : end - k ≡ suc (end - suc k) = omega arith in rw (e, t)

  pub first-miss : k < end → p k ≡ false → first_from p k (end - k) ≡ first_from p (k + 1) (end - (k + 1))
  unfolding first_from
  first-miss h t = let e : end - k ≡ suc (end - suc k) = omega arith in rw (e, t, add-one)

  pub first-end : end ≤ k → first_from p k (end - k) ≡ k
  unfolding first_from
  first-end h = let e : end - k ≡ 0 = omega arith in rw e

  pub all-fails : k < end → p k ≡ false → all_from p k (end - k) ≡ false
  unfolding all_from
  all-fails h t = let e : end - k ≡ suc (end - suc k) = omega arith in rw (e, t)

  pub all-next : k < end → p k ≡ true → all_from p k (end - k) ≡ all_from p (k + 1) (end - (k + 1))
  unfolding all_from
  all-next h t = let e : end - k ≡ suc (end - suc k) = omega arith in rw (e, t, add-one)

  pub all_end : end ≤ k → all_from p k (end - k) ≡ true
  unfolding all_from
  all_end h = let e : end - k ≡ 0 = omega arith in rw e

-- a loop that goes on to the end and keeps the answer so far
module _ (p : ℕ → Bool) where
  all-last : (n i : ℕ) → all_from p i (suc n) ≡ (all_from p i n && p (i + n))
  unfolding all_from
  all-last zero i = let e : i + 0 ≡ i = omega arith in rw e (and-true (p i))
  all-last (suc n) i =
      let e : suc i + n ≡ i + suc n = omega arith in
      ap (λ (t : Bool). p i && t) (all-last n (suc i) ∙ ap (λ (k : ℕ). all_from p (suc i) n && p k) e)
      ∙ sym (and_assoc (p i) (all_from p (suc i) n) (p (i + suc n)))

-- ---- the greatest

module _ (g : ℕ → ℕ) (best k end : ℕ) where
  pub greatest-more : k < end → g best < g k → greatest_from g best k (end - k) ≡ greatest_from g k (k + 1) (end - (k + 1))
  unfolding greatest_from
  greatest-more h t =
      let e : end - k ≡ suc (end - suc k) = omega arith in
      rw (e, add-one) (ap (λ (b : ℕ). greatest_from g b (suc k) (end - suc k)) (rw (lt-ltb (g best) (g k) t)))

  pub greatest-less : k < end → g k ≤ g best → greatest_from g best k (end - k) ≡ greatest_from g best (k + 1) (end - (k + 1))
  unfolding greatest_from
  greatest-less h t =
      let e : end - k ≡ suc (end - suc k) = omega arith in
      rw (e, add-one) (ap (λ (b : ℕ). greatest_from g b (suc k) (end - suc k)) (rw (le-ltb (g best) (g k) t)))

  pub greatest-end : end ≤ k → greatest_from g best k (end - k) ≡ best
  unfolding greatest_from
  greatest-end h = let e : end - k ≡ 0 = omega arith in rw e

-- ---- steps

module _ {A : Type 0} (f : ℕ → A → A) (k end : ℕ) (a : A) where
  pub steps_next : k < end → steps_from f k (end - k) a ≡ steps_from f (k + 1) (end - (k + 1)) (f k a)
  unfolding steps_from
  steps_next h = let e : end - k ≡ suc (end - suc k) = omega arith in rw (e, add-one)

  pub steps-end : end ≤ k → steps_from f k (end - k) a ≡ a
  unfolding steps_from
  steps-end h = let e : end - k ≡ 0 = omega arith in rw e

-- the same for a loop that counts from 0 over the places at, at + 1, ..
module _ {A : Type 0} (f : ℕ → A → A) (at i n : ℕ) (a : A) where
  pub steps_on : i < n → steps_from f (at + i) (n - i) a ≡ steps_from f (at + (i + 1)) (n - (i + 1)) (f (at + i) a)
  unfolding steps_from
  steps_on h =
      let e : n - i ≡ suc (n - (i + 1)) = omega arith in
      let s : at + (i + 1) ≡ suc (at + i) = omega arith in
      rw (e, s)

  pub steps-off : n ≤ i → steps_from f (at + i) (n - i) a ≡ a
  unfolding steps_from
  steps-off h = let e : n - i ≡ 0 = omega arith in rw e

-- ---- each

each_none : {A : Type 0} (i : ℕ) (l : List A) → each_from (λ k x. x) i l ≡ l
unfolding each_from
each_none i [] = refl
each_none {A} i (x ∷ l) = ap (λ (r : List A). x ∷ r) (each_none (suc i) l)

pub each-id : {A : Type 0} (l : List A) → each_from (λ k x. x) 0 l ≡ l
each-id l = each_none 0 l

pub each-ext : {A : Type 0} (f g : ℕ → A → A) → ((k : ℕ) (x : A) → f k x ≡ g k x) → (l : List A) → each_from f 0 l ≡ each_from g 0 l
each-ext {A} f g h l = ap (λ (e : ℕ → A → A). each_from e 0 l) (fun_ext (λ k. fun_ext (h k)))

-- ---- a loop that changes places lo to lo + n - 1, one after the other, is the change of each

module _ {A : Type 0} (f : ℕ → A → A) (d : A) where
  -- place k is changed
  abbrev pub change : ℕ → List A → List A
  change k l = set l k (f k (get_or l k d))

  changes-length : (n lo : ℕ) (l : List A) → length (steps_from change lo n l) ≡ length l
  unfolding steps_from
  changes-length zero lo l = refl
  changes-length (suc n) lo l = changes-length n (suc lo) (change lo l) ∙ length-set l lo (f lo (get_or l lo d))

  changes-below : (n lo : ℕ) (l : List A) (k : ℕ) → k < lo → get_or (steps_from change lo n l) k d ≡ get_or l k d
  unfolding steps_from
  changes-below zero lo l k h = refl
  changes-below (suc n) lo l k h =
      changes-below n (suc lo) (change lo l) k (omega arith) ∙ get_or-set_other l lo k (f lo (get_or l lo d)) d (λ e. omega arith)

  changes-above : (n lo : ℕ) (l : List A) (k : ℕ) → lo + n ≤ k → get_or (steps_from change lo n l) k d ≡ get_or l k d
  unfolding steps_from
  changes-above zero lo l k h = refl
  changes-above (suc n) lo l k h =
      changes-above n (suc lo) (change lo l) k (omega arith) ∙ get_or-set_other l lo k (f lo (get_or l lo d)) d (λ e. omega arith)

  changes-in : (n lo : ℕ) (l : List A) (k : ℕ) → lo ≤ k → k < lo + n → k < length l → get_or (steps_from change lo n l) k d ≡ f k (get_or l k d)
  unfolding steps_from
  changes-in zero lo l k a b h = let no : ⊥ = omega arith in absurd no
  changes-in (suc n) lo l k a b h =
      ⊎_elim
      (λ e. changes-below n (suc lo) (change lo l) k (omega arith)
      ∙ subst (λ (j : ℕ). get_or (change lo l) j d ≡ f j (get_or l j d)) e (get_or-set_same l lo (f lo (get_or l lo d)) d (omega arith)))
      (λ g. changes-in n (suc lo) (change lo l) k g (omega arith) (omega (arith, length-set l lo (f lo (get_or l lo d))))
      ∙ ap (f k) (get_or-set_other l lo k (f lo (get_or l lo d)) d (λ e. omega arith)))
      (eq-or-lt_of_le a)

  -- if f leaves the other places as they are
  pub changes-each : (lo n : ℕ) (l : List A) → ((k : ℕ) (x : A) → (lo ≤ k → k < lo + n → ⊥) → f k x ≡ x) → steps_from change lo n l ≡ each_from f 0 l
  changes-each lo n l h =
      ext_get_or d _ _ (changes-length n lo l ∙ sym (each-length f 0 l)) (λ k b.
      let b' : k < length l = omega (arith, changes-length n lo l) in
      elim (dec_lt k lo) [
        | yes p ↦ changes-below n lo l k p ∙ sym (each_same f l d k (λ x. h k x (λ a c. omega arith)))
        | no p ↦ elim (dec_lt k (lo + n)) [
          | yes q ↦ changes-in n lo l k (omega arith) q b' ∙ sym (each_at f l d k b')
          | no q ↦ changes-above n lo l k (omega arith) ∙ sym (each_same f l d k (λ x. h k x (λ a c. omega arith)))
        ]
      ])

  -- a loop that changes every place: its next turn, and the whole
  pub changes-next : (k end : ℕ) (l : List A) (u : A) → k < end → u ≡ f k (get_or l k d) → steps_from change k (end - k) l ≡ steps_from change (k + 1) (end - (k + 1)) (set l k u)
  changes-next k end l u h e = rw e (steps_next change k end l h)

  pub changes-all : (n : ℕ) (l : List A) → length l ≡ n → steps_from change 0 n l ≡ each_from f 0 l
  changes-all n l e =
      ext_get_or d _ _ (changes-length n 0 l ∙ sym (each-length f 0 l)) (λ k b.
      let b' : k < length l = omega (arith, changes-length n 0 l) in
      changes-in n 0 l k (omega arith) (omega arith) b' ∙ sym (each_at f l d k b'))

-- Laws of the access checks: an allowed width is one of three; what each check makes of an access; what the result of checks tells of
-- them; and the limit of a value by its width.
use Prim.Native.Nat.{ℕ, ◌+◌, ◌%◌, ◌^◌, ◌<◌, ◌≤◌}
use mathlib.Core.Path.{◌≡◌, refl, sym, subst}
use mathlib.Core.Bool.{true, false}
use mathlib.Core.List.{List, [], ◌∷◌}
use native.Mathlib.Nat.{pow-le-pow_right}
use native.Mathlib.Omega.{arith}
use lib.Dec.{eqb}
use borrow.Author.Tests.{eqb-true, eq-eqb, ne_eqb, lt-ltb, le-ltb}
use Rattle.std.proofs.Common.{Result, Ok, Err, is_ok}
use Rattle.lists.specs.Padded.{every}
use Rattle.lists.proofs.Cond.{cases}
use Rattle.rules.specs.Calls.{Check, width_allowed, guarded, passes}
use Rattle.rules.specs.declared.Refusal.{Refusal}
use Rattle.rules.specs.RefusalNumbers.{numbered, found_by}
use Rattle.access.specs.AccessChecks.{checked_access}

-- ---- widths

-- what holds of 1, 2 and 4 holds of an allowed width
pub width-cases : (P : ℕ → Type 0) → P 1 → P 2 → P 4 → (w : ℕ) → width_allowed w ≡ true → P w
width-cases P one two four w e =
    cases (eqb w 1) (λ h. subst P (sym (eqb-true w 1 h)) one) λ h₁.
    cases (eqb w 2) (λ h. subst P (sym (eqb-true w 2 h)) two) λ h₂.
    subst P (sym (eqb-true w 4 (rw (h₁, h₂) at e))) four

-- ---- the checked access, check by check

pub access-width : (size a w : ℕ) → width_allowed w ≡ false → Err 2 ≡ checked_access size a w
unfolding checked_access guarded
access-width size a w e = rw e

module _ (size a w : ℕ) (e : width_allowed w ≡ true) where
  pub access-uneven : (a % w ≡ 0 → ⊥) → Err 3 ≡ checked_access size a w
  unfolding checked_access guarded
  access-uneven m = rw (e, ne_eqb (a % w) 0 m)

  pub access-out : a % w ≡ 0 → size < a + w → Err 4 ≡ checked_access size a w
  unfolding checked_access guarded
  access-out m o = rw (e, eq-eqb (a % w) 0 m, lt-ltb size (a + w) o)

  pub access-in : a % w ≡ 0 → a + w ≤ size → Ok (record { address = a; width = w }) ≡ checked_access size a w
  unfolding checked_access guarded
  access-in m i = rw (e, eq-eqb (a % w) 0 m, le-ltb size (a + w) i)

-- ---- what the result of checks tells of them

module _ {X : Type 0} where
  -- whether it is good
  pub numbered-ok : (r : Result X Refusal) → is_ok r ≡ is_ok (numbered r)
  numbered-ok (Ok x) = refl
  numbered-ok (Err e) = refl

  pub checks-ok : (ks : List Check) (x : X) → is_ok (found_by ks x) ≡ passes ks
  unfolding guarded every
  checks-ok [] x = refl
  checks-ok (c ∷ ks) x = cases c.applies (λ t. rw t) (λ t. rw t (checks-ok ks x))

  -- an error's number is the refusal's
  pub checks-refuse :
      {A : Type 0} (refuse : ℕ → A) (done : A) (ks : List Check) (x : X) (k : ℕ)
      → found_by ks x ≡ Err k → guarded ks refuse done ≡ refuse k
  unfolding guarded
  checks-refuse refuse done [] x k e = cc
  checks-refuse refuse done (c ∷ ks) x k e = cases c.applies
      (λ t. let z : ◌≡◌ {A = Result X ℕ} (Err c.number) (Err k) = rw t at e in let y : c.number ≡ k = cc in rw (t, y))
      (λ t. rw t (checks-refuse refuse done ks x k (rw t at e)))

  -- where there is none no check applies, and the value is the one that was given
  pub checks-pass : (ks : List Check) (x y : X) → found_by ks x ≡ Ok y → (passes ks ≡ true) × (x ≡ y)
  unfolding guarded every
  checks-pass [] x y e = (refl, cc)
  checks-pass (c ∷ ks) x y e = cases c.applies
      (λ t. let z : ◌≡◌ {A = Result X ℕ} (Err c.number) (Ok y) = rw t at e in cc)
      (λ t. rw t (checks-pass ks x y (rw t at e)))

-- ---- values

-- what a byte for each place can hold is no more than what more bytes can hold
pub value-limit : (w k : ℕ) → w ≤ k → 256 ^ w ≤ 256 ^ k
value-limit w k h = pow-le-pow_right (omega arith) h

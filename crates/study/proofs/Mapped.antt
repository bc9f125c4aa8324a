-- `map` of an array of four, by a closure that stays as it is: what its calls may ask, and what they give.
use Prim.Native.Nat.{ℕ, zero, suc, ◌+◌, ◌<◌}
use mathlib.Core.Path.{◌≡◌, refl, subst, ◌∙◌}
use mathlib.Core.List.{List, [], ◌∷◌}
use native.Mathlib.Omega.{arith}
use lib.ListN.{length, get_or}
use denote.Param.Members.{Mut, Called}
use Rattle.std.specs.Prelude.{Some}
use Rattle.std.specs.List.{FoldsTo}
use Rattle.std.specs.Array.{list_steps, MapsFrom, IsMapOf}
use Rattle.std.specs.Iterator.{Yields, CallableAtEachTurn}

-- ---- what is asked of each call

module _ {F : Type 0} (R : F → ℕ → F → Type 0) (Q : F → ℕ → Type 0) (f : F) (stays : (x : ℕ) (q : F) → R f x q → q ≡ f) where
  asked :
      (xs hs t : List ℕ) (q : F) (x : ℕ) (u : List ℕ) → Yields list_steps hs xs t → FoldsTo R f xs q → list_steps t (Some x) u
      → ((k : ℕ) → Q f (get_or hs k 0)) → Q q x
  asked [] hs t q x u y z s h = subst (λ (q : F). Q q x) z (subst (λ (l : List ℕ). Q f (get_or l 0 0)) (y ∙ s) (h 0))
  asked (w ∷ xs) hs t q x u y z s h =
      asked xs y.0 t q x u y.2 (subst (λ (j : F). FoldsTo R j xs q) (stays w z.0 z.1) z.2) s
      (λ k. subst (λ (l : List ℕ). Q f (get_or l (suc k) 0)) y.1 (h (suc k)))

  pub all-asked : (hs : List ℕ) → ((k : ℕ) → Q f (get_or hs k 0)) → CallableAtEachTurn list_steps R Q hs f
  all-asked hs h = record { at = λ xs t q x u y z s. asked xs hs t q x u y z s h }

-- ---- what the calls give

by_place : (ys : List ℕ) → length ys ≡ 4 → ys ≡ get_or ys 0 0 ∷ get_or ys 1 0 ∷ get_or ys 2 0 ∷ get_or ys 3 0 ∷ []
by_place [] e = absurd (omega arith)
by_place (a ∷ []) e = absurd (omega arith)
by_place (a ∷ b ∷ []) e = absurd (omega arith)
by_place (a ∷ b ∷ c ∷ []) e = absurd (omega arith)
by_place (a ∷ b ∷ c ∷ d ∷ []) e = refl
by_place (a ∷ b ∷ c ∷ d ∷ x ∷ ys) e = absurd (omega arith)

module _ {F : Type 0} (g : Mut F (ℕ × Unit {0}) ℕ) (f : F) (r : ℕ → ℕ) (told : (x y : ℕ) (q : F) → Called g f (x, tt) y q → (q ≡ f) × (y ≡ r x)) where
  given : (n i : ℕ) (xs ys : List ℕ) → MapsFrom g f xs ys i n → (k : ℕ) → k < n → get_or ys (i + k) 0 ≡ r (get_or xs (i + k) 0)
  given zero i xs ys m k h = absurd (omega arith)
  given (suc n) i xs ys m zero h =
      let z : i + 0 ≡ i = omega arith in
      rw (z, m.3.1 0, m.4.1 0) (told _ _ _ m.5).1
  given (suc n) i xs ys m (suc k) h =
      let z : i + suc k ≡ i + 1 + k = omega arith in
      rw z (given n (i + 1) xs ys (subst (λ (q : F). MapsFrom g q xs ys (i + 1) n) (told _ _ _ m.5).0 m.6) k (omega arith))

  pub mapped : (xs ys : List ℕ) → IsMapOf g f xs ys 4 → ys ≡ r (get_or xs 0 0) ∷ r (get_or xs 1 0) ∷ r (get_or xs 2 0) ∷ r (get_or xs 3 0) ∷ []
  mapped xs ys m =
      by_place ys m.long
      ∙ rw (given 4 0 xs ys m.each 0 (omega arith), given 4 0 xs ys m.each 1 (omega arith), given 4 0 xs ys m.each 2 (omega arith), given 4 0 xs ys m.each 3 (omega arith))

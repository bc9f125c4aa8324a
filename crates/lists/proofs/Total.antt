-- What `total` says: of two lists, of numbers that are all zero, and of what is left to add from place k on.
use Prim.Native.Nat.{ℕ, suc, ◌+◌, ◌<◌}
use mathlib.Core.Path.{◌≡◌, refl}
use mathlib.Core.List.{List, [], ◌∷◌, ◌++◌}
use native.Mathlib.Omega.{arith}
use lib.ListN.{length, get_or}
use Rattle.lists.specs.Padded.{total}

module _ {A : Type 0} (f : A → ℕ) where
  pub total-append : (xs ys : List A) → total f (xs ++ ys) ≡ total f xs + total f ys
  unfolding total
  total-append [] ys = omega arith
  total-append (x ∷ xs) ys = omega (arith, total-append xs ys)

  pub total-zero : (d : A) (l : List A) → ((k : ℕ) → k < length l → f (get_or l k d) ≡ 0) → total f l ≡ 0
  unfolding total
  total-zero d [] h = refl
  total-zero d (x ∷ l) h = omega (arith, h 0 (omega arith), total-zero d l (λ k lt. h (suc k) (omega arith)))

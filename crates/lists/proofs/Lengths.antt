-- The changes of a queue keep its length.
use Prim.Native.Nat.{suc}
use mathlib.Core.Path.{◌≡◌, refl, ◌∙◌, ap}
use mathlib.Core.Bool.{Bool}
use mathlib.Core.List.{List, [], ◌∷◌, ◌++◌}
use native.Mathlib.Omega.{arith}
use lib.ListN.{length, length-append}
use Rattle.lists.specs.Padded.{without, shifted, placed, changed}
use Rattle.lists.proofs.Cond.{either}

module _ {A : Type 0} where
  pub length-snoc : (xs : List A) (x : A) → length (xs ++ x ∷ []) ≡ suc (length xs)
  length-snoc xs x = omega (arith, length-append xs (x ∷ []))

  pub length-changed : (p : A → Bool) (g : A → A) (xs : List A) → length (changed p g xs) ≡ length xs
  unfolding changed
  length-changed p g [] = refl
  length-changed p g (x ∷ xs) = ap suc (length-changed p g xs)

  pub length-placed : (p : A → Bool) (e : A) (xs : List A) → length (placed p e xs) ≡ length xs
  unfolding placed
  length-placed p e [] = refl
  length-placed p e (x ∷ xs) =
      either (λ (r : List A). length r ≡ suc (length xs)) (p x) (λ t. refl) (λ t. ap suc (length-placed p e xs))

  pub length-shifted : (free : A) (xs : List A) → length (shifted free xs) ≡ length xs
  unfolding shifted
  length-shifted free [] = refl
  length-shifted free (x ∷ xs) = length-snoc xs free

  pub length_without : (p : A → Bool) (free : A) (xs : List A) → length (without p free xs) ≡ length xs
  unfolding without
  length_without p free [] = refl
  length_without p free (x ∷ xs) =
      either (λ (r : List A). length r ≡ suc (length xs)) (p x)
      (λ t. length-snoc (without p free xs) free ∙ ap suc (length_without p free xs))
      (λ t. ap suc (length_without p free xs))

-- A loop over a list that changes, in place, each entry that passes a test: what one turn does, and what is left at the end.
use Prim.Native.Nat.{ℕ, zero, suc, ◌+◌, ◌≤◌}
use mathlib.Core.Path.{◌≡◌, refl, ap}
use mathlib.Core.Bool.{Bool, cond}
use mathlib.Core.List.{List, [], ◌∷◌, ◌++◌}
use native.Mathlib.Nat.{not-suc-le-zero, le_of_suc-le-suc}
use native.Mathlib.Numerals.{add-one}
use lib.ListN.{length, take, drop, get_or, set}
use Rattle.lists.specs.Padded.{changed}

module _ {A : Type 0} (p : A → Bool) (g : A → A) where
  -- the entries from place i on are left to change
  abbrev pub changed_from : ℕ → List A → List A
  changed_from i l = take i l ++ changed p g (drop i l)

  from-next : (d : A) (i : ℕ) (l : List A) → changed_from i l ≡ changed_from (suc i) (set l i (cond (p (get_or l i d)) (g (get_or l i d)) (get_or l i d)))
  unfolding changed
  from-next d zero [] = refl
  from-next d (suc i) [] = refl
  from-next d zero (x ∷ l) = refl
  from-next d (suc i) (x ∷ l) = ap (λ (r : List A). x ∷ r) (from-next d i l)

  pub changed-next : (d : A) (i : ℕ) (l : List A) (u : A) → u ≡ cond (p (get_or l i d)) (g (get_or l i d)) (get_or l i d) → changed_from i l ≡ changed_from (i + 1) (set l i u)
  changed-next d i l u e = rw (add-one i, e) (from-next d i l)

  pub changed-end : (i : ℕ) (l : List A) → length l ≤ i → changed_from i l ≡ l
  unfolding changed
  changed-end zero [] h = refl
  changed-end (suc i) [] h = refl
  changed-end zero (x ∷ l) h = absurd (not-suc-le-zero h)
  changed-end (suc i) (x ∷ l) h = ap (λ (r : List A). x ∷ r) (changed-end i l (le_of_suc-le-suc h))

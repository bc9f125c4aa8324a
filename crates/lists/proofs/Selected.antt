-- Selections: what `filter`, `any` and `final` say of one another, of two lists, and of the changes of a queue.
use Prim.Native.Nat.{ℕ, suc, ◌≤◌}
use mathlib.Core.Path.{◌≡◌, refl, sym, ◌∙◌, ap}
use mathlib.Core.Bool.{Bool, true, false, cond, not, ◌&&◌, ◌||◌, false≢true, and-false, and-true}
use mathlib.Core.List.{List, [], ◌∷◌, ◌++◌, append-nil}
use lib.Dec.{ltb, eqb}
use native.Mathlib.Omega.{arith}
use lib.ListN.{length, get_or}
use Rattle.lists.specs.Padded.{any, every, rising, final, filter, without, shifted, placed, changed}
use Rattle.lists.proofs.Cond.{both, either, cases, and_left, and_right, or_left, or_right}

module _ {A : Type 0} where
  -- ---- filter

  pub filter-append : (p : A → Bool) (xs ys : List A) → filter p (xs ++ ys) ≡ filter p xs ++ filter p ys
  unfolding filter
  filter-append p [] ys = refl
  filter-append p (x ∷ xs) ys =
      both (λ (r : List A). r ++ filter p ys) {s = p x} {t = p x} refl (λ _. ap (λ (r : List A). x ∷ r) (filter-append p xs ys)) (λ _. filter-append p xs ys)

  -- it is no longer than the list
  pub filter-most : (p : A → Bool) (xs : List A) → length (filter p xs) ≤ length xs
  unfolding filter
  filter-most p [] = omega arith
  filter-most p (x ∷ xs) =
      either (λ (r : List A). length r ≤ suc (length xs)) (p x) (λ _. omega (arith, filter-most p xs)) (λ _. omega (arith, filter-most p xs))

  pub filter-all : (p : A → Bool) (xs : List A) → every p xs ≡ true → filter p xs ≡ xs
  unfolding filter every
  filter-all p [] e = refl
  filter-all p (x ∷ xs) e = rw (and_left (p x) _ e) (ap (λ (r : List A). x ∷ r) (filter-all p xs (and_right (p x) _ e)))

  pub filter_none : (p : A → Bool) (xs : List A) → any p xs ≡ false → filter p xs ≡ []
  unfolding filter any
  filter_none p [] e = refl
  filter_none p (x ∷ xs) e = rw (or_left (p x) _ e) (filter_none p xs (or_right (p x) _ e))

  -- one selection of another
  pub filter-filter : (p q r : A → Bool) → ((x : A) → r x ≡ (p x && q x)) → (xs : List A) → filter q (filter p xs) ≡ filter r xs
  unfolding filter
  filter-filter p q r h [] = refl
  filter-filter p q r h (x ∷ xs) = cases (p x)
      (λ e. rw (h x, e) (both (λ (l : List A). l) {s = q x} refl (λ _. ap (λ (l : List A). x ∷ l) (filter-filter p q r h xs)) (λ _. filter-filter p q r h xs)))
      (λ e. rw (h x, e) (filter-filter p q r h xs))

  -- what is chosen of the entries that stay
  pub filter-without : (p t r : A → Bool) (free : A) → p free ≡ false → ((x : A) → r x ≡ (p x && not (t x))) → (l : List A) → filter p (without t free l) ≡ filter r l
  unfolding filter without
  filter-without p t r free f h [] = refl
  filter-without p t r free f h (x ∷ l) = cases (t x)
      (λ e. rw (h x, e, and-false (p x)) (filter-append p (without t free l) (free ∷ []) ∙ rw f (append-nil _ ∙ filter-without p t r free f h l)))
      (λ e. rw (h x, e, and-true (p x), filter-without p t r free f h l))

  pub any-filter : (p q r : A → Bool) → ((x : A) → r x ≡ (p x && q x)) → (xs : List A) → any q (filter p xs) ≡ any r xs
  unfolding filter any
  any-filter p q r h [] = refl
  any-filter p q r h (x ∷ xs) = cases (p x)
      (λ e. rw (h x, e) (ap (λ (t : Bool). q x || t) (any-filter p q r h xs)))
      (λ e. rw (h x, e) (any-filter p q r h xs))

  pub final-filter : (p q r : A → Bool) → ((x : A) → r x ≡ (p x && q x)) → (d : A) (xs : List A) → final q d (filter p xs) ≡ final r d xs
  unfolding filter final
  final-filter p q r h d [] = refl
  final-filter p q r h d (x ∷ xs) = cases (p x)
      (λ e. rw (h x, e) (final-filter p q r h (cond (q x) x d) xs))
      (λ e. rw (h x, e) (final-filter p q r h d xs))

  -- ---- final

  pub final-none : (p : A → Bool) (d : A) (xs : List A) → any p xs ≡ false → final p d xs ≡ d
  unfolding any final
  final-none p d [] e = refl
  final-none p d (x ∷ xs) e = rw (or_left (p x) _ e) (final-none p d xs (or_right (p x) _ e))

  pub final-some : (p : A → Bool) (d c : A) (xs : List A) → any p xs ≡ true → final p d xs ≡ final p c xs
  unfolding any final
  final-some p d c [] e = absurd (false≢true e)
  final-some p d c (x ∷ xs) e = cases (p x)
      (λ t. rw t)
      (λ t. rw t (final-some p d c xs (rw t at e)))

  -- ---- the entries that are not free

  module _ (number : A → ℕ) where
    abbrev pub in_use : A → Bool
    in_use x = not (eqb (number x) 0)

    pub none-used : (xs : List A) → every (λ y. eqb (number y) 0) xs ≡ true → filter in_use xs ≡ []
    unfolding every filter
    none-used [] e = refl
    none-used (x ∷ xs) e = rw (and_left (eqb (number x) 0) _ e) (none-used xs (and_right (eqb (number x) 0) _ e))

    -- a new entry comes last
    pub used-placed :
        (y : A) → in_use y ≡ true → (m : ℕ) (xs : List A) → rising number m xs ≡ true → any (λ x. eqb (number x) 0) xs ≡ true
        → filter in_use (placed (λ x. eqb (number x) 0) y xs) ≡ filter in_use xs ++ y ∷ []
    unfolding rising any placed filter
    used-placed y u m [] g f = absurd (false≢true f)
    used-placed y u m (x ∷ xs) g f = cases (eqb (number x) 0)
        (λ e.
        let n : filter in_use xs ≡ [] = none-used xs (rw e at g) in
        rw (e, u, n))
        (λ e.
        let g' : (ltb m (number x) && rising number (number x) xs) ≡ true = rw e at g in
        rw e (rw e (ap (λ (r : List A). x ∷ r) (used-placed y u (number x) xs (and_right (ltb m (number x)) _ g') (rw e at f)))))

    -- the first entry leaves
    pub used-shifted : (free : A) → in_use free ≡ false → (x : A) (xs : List A) → filter in_use (shifted free (x ∷ xs)) ≡ filter in_use xs
    unfolding shifted filter
    used-shifted free e x xs = filter-append in_use xs (free ∷ []) ∙ rw e (append-nil (filter in_use xs))

    -- entries leave where they stand
    pub used-swept :
        (c : A → Bool) (free : A) → in_use free ≡ false → (xs : List A)
        → filter in_use (changed c (λ x. free) xs) ≡ filter (λ x. not (c x)) (filter in_use xs)
    unfolding changed filter
    used-swept c free e [] = refl
    used-swept c free e (x ∷ xs) = cases (c x)
        (λ t. cases (in_use x)
        (λ u. rw (t, e, u) (rw t (used-swept c free e xs)))
        (λ u. rw (t, e, u) (used-swept c free e xs)))
        (λ t. cases (in_use x)
        (λ u. rw (t, u) (rw t (ap (λ (r : List A). x ∷ r) (used-swept c free e xs))))
        (λ u. rw (t, u) (used-swept c free e xs)))

    -- the first entry leaves, if it is not free
    pub used-first :
        (free : A) → in_use free ≡ false → (xs : List A) → in_use (get_or xs 0 free) ≡ true
        → filter in_use xs ≡ get_or xs 0 free ∷ filter in_use (shifted free xs)
    unfolding filter
    used-first free e [] u = absurd (false≢true (sym e ∙ u))
    used-first free e (x ∷ xs) u = rw (u, used-shifted free e x xs)

  pub filter_same : (p r : A → Bool) → ((x : A) → p x ≡ r x) → (xs : List A) → filter p xs ≡ filter r xs
  unfolding filter
  filter_same p r h [] = refl
  filter_same p r h (x ∷ xs) = rw (h x, filter_same p r h xs)

  -- ---- the first place

  -- a new entry goes to a later place
  pub head-placed : (t : A → Bool) (e d : A) (l : List A) → t (get_or l 0 d) ≡ false → get_or (placed t e l) 0 d ≡ get_or l 0 d
  unfolding placed
  head-placed t e d [] f = refl
  head-placed t e d (x ∷ l) f = rw f

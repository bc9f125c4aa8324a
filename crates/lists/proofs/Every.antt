-- Tests that every entry of a list passes: what follows from them, and which changes of a queue keep them.
use Prim.Native.Nat.{ℕ, zero, suc}
use mathlib.Core.Path.{◌≡◌, refl}
use mathlib.Core.Bool.{Bool, true, false, ◌&&◌}
use mathlib.Core.List.{List, [], ◌∷◌, ◌++◌}
use lib.ListN.{get_or, replicate}
use Rattle.lists.specs.Padded.{every, first, filter, without, shifted, placed, changed}
use Rattle.lists.proofs.Cond.{either, and_left, and_right, and_both}

module _ {A : Type 0} where
  pub every-imp : (p r : A → Bool) → ((x : A) → p x ≡ true → r x ≡ true) → (l : List A) → every p l ≡ true → every r l ≡ true
  unfolding every
  every-imp p r h [] g = refl
  every-imp p r h (x ∷ l) g = and_both (r x) _ (h x (and_left _ _ g)) (every-imp p r h l (and_right (p x) _ g))

  -- a test that all entries pass
  pub every-all : (p : A → Bool) → ((x : A) → p x ≡ true) → (l : List A) → every p l ≡ true
  unfolding every
  every-all p h [] = refl
  every-all p h (x ∷ l) = and_both (p x) _ (h x) (every-all p h l)

  pub every-imp₂ : (p o r : A → Bool) → ((x : A) → p x ≡ true → o x ≡ true → r x ≡ true) → (l : List A) → every p l ≡ true → every o l ≡ true → every r l ≡ true
  unfolding every
  every-imp₂ p o r h [] g f = refl
  every-imp₂ p o r h (x ∷ l) g f =
      and_both (r x) _ (h x (and_left _ _ g) (and_left _ _ f)) (every-imp₂ p o r h l (and_right (p x) _ g) (and_right (o x) _ f))

  pub every-both : (p g : A → Bool) (xs : List A) → every p xs ≡ true → every g xs ≡ true → every (λ x. p x && g x) xs ≡ true
  every-both p g xs e f = every-imp₂ p g (λ x. p x && g x) (λ x a b. and_both (p x) (g x) a b) xs e f

  pub every_append : (p : A → Bool) (xs ys : List A) → every p xs ≡ true → every p ys ≡ true → every p (xs ++ ys) ≡ true
  unfolding every
  every_append p [] ys e f = f
  every_append p (x ∷ xs) ys e f = and_both (p x) _ (and_left _ _ e) (every_append p xs ys (and_right (p x) _ e) f)

  pub every-split : (p : A → Bool) (xs ys : List A) → every p (xs ++ ys) ≡ true → (every p xs ≡ true) × (every p ys ≡ true)
  unfolding every
  every-split p [] ys e = (refl, e)
  every-split p (x ∷ xs) ys e =
      let r = every-split p xs ys (and_right (p x) _ e) in (and_both (p x) _ (and_left _ _ e) r.0, r.1)

  pub every-snoc : (p : A → Bool) (x : A) (l : List A) → p x ≡ true → every p l ≡ true → every p (l ++ x ∷ []) ≡ true
  unfolding every
  every-snoc p x [] e g = rw e
  every-snoc p x (y ∷ l) e g = and_both (p y) _ (and_left _ _ g) (every-snoc p x l e (and_right (p y) _ g))

  pub every-replicate : (p : A → Bool) (x : A) → p x ≡ true → (n : ℕ) → every p (replicate n x) ≡ true
  unfolding every
  every-replicate p x e zero = refl
  every-replicate p x e (suc n) = and_both (p x) _ e (every-replicate p x e n)

  pub every_first : (p t : A → Bool) (d : A) (l : List A) → p d ≡ true → every p l ≡ true → p (first t d l) ≡ true
  unfolding every first
  every_first p t d [] e g = e
  every_first p t d (x ∷ l) e g = either (λ y. p y ≡ true) (t x) (λ _. and_left _ _ g) (λ _. every_first p t d l e (and_right (p x) _ g))

  -- of any place, where the default passes too
  pub every-at : (p : A → Bool) (d : A) → p d ≡ true → (l : List A) → every p l ≡ true → (k : ℕ) → p (get_or l k d) ≡ true
  unfolding every
  every-at p d e [] g k = e
  every-at p d e (x ∷ l) g zero = and_left _ _ g
  every-at p d e (x ∷ l) g (suc k) = every-at p d e l (and_right (p x) _ g) k

  pub every-head : (p : A → Bool) (d : A) (l : List A) → p d ≡ true → every p l ≡ true → p (get_or l 0 d) ≡ true
  every-head p d l e g = every-at p d e l g 0

  pub every-placed : (p t : A → Bool) (e : A) (l : List A) → p e ≡ true → every p l ≡ true → every p (placed t e l) ≡ true
  unfolding every placed
  every-placed p t e [] h g = refl
  every-placed p t e (x ∷ l) h g =
      either (λ r. every p r ≡ true) (t x) (λ _. and_both (p e) _ h (and_right (p x) _ g))
      (λ _. and_both (p x) _ (and_left _ _ g) (every-placed p t e l h (and_right (p x) _ g)))

  pub every-without : (p r t : A → Bool) (free : A) → r free ≡ true → ((x : A) → p x ≡ true → t x ≡ false → r x ≡ true)
      → (l : List A) → every p l ≡ true → every r (without t free l) ≡ true
  unfolding every without
  every-without p r t free f h [] g = refl
  every-without p r t free f h (x ∷ l) g =
      either (λ k. every r k ≡ true) (t x) (λ _. every-snoc r free (without t free l) f (every-without p r t free f h l (and_right (p x) _ g)))
      (λ e. and_both (r x) _ (h x (and_left _ _ g) e) (every-without p r t free f h l (and_right (p x) _ g)))

  pub every-changed : (p r t : A → Bool) (g : A → A) → ((x : A) → p x ≡ true → t x ≡ true → r (g x) ≡ true) → ((x : A) → p x ≡ true → t x ≡ false → r x ≡ true)
      → (l : List A) → every p l ≡ true → every r (changed t g l) ≡ true
  unfolding every changed
  every-changed p r t g h k [] f = refl
  every-changed p r t g h k (x ∷ l) f =
      and_both _ _ (either (λ y. r y ≡ true) (t x) (h x (and_left _ _ f)) (k x (and_left _ _ f))) (every-changed p r t g h k l (and_right (p x) _ f))

  pub every-shifted : (p : A → Bool) (free : A) (l : List A) → p free ≡ true → every p l ≡ true → every p (shifted free l) ≡ true
  unfolding every shifted
  every-shifted p free [] f g = refl
  every-shifted p free (x ∷ l) f g = every-snoc p free l f (and_right (p x) _ g)

  pub every-filter : (p r : A → Bool) → ((x : A) → p x ≡ true → r x ≡ true) → (xs : List A) → every r (filter p xs) ≡ true
  unfolding filter every
  every-filter p r h [] = refl
  every-filter p r h (x ∷ xs) = either (λ (l : List A). every r l ≡ true) (p x) (λ e. and_both (r x) _ (h x e) (every-filter p r h xs)) (λ e. every-filter p r h xs)

  -- some of the entries
  pub every-chosen : (p r : A → Bool) (xs : List A) → every r xs ≡ true → every r (filter p xs) ≡ true
  unfolding filter every
  every-chosen p r [] e = refl
  every-chosen p r (x ∷ xs) e =
      either (λ (l : List A). every r l ≡ true) (p x) (λ t. and_both (r x) _ (and_left _ _ e) (every-chosen p r xs (and_right (r x) _ e)))
      (λ t. every-chosen p r xs (and_right (r x) _ e))

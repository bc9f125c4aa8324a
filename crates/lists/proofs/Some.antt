-- Tests that some entry of a list passes, or none: what follows from them, and which changes of a queue keep them.
use mathlib.Core.Path.{◌≡◌, refl, ap}
use mathlib.Core.Bool.{Bool, true, false, cond, not}
use mathlib.Core.List.{List, [], ◌∷◌, ◌++◌}
use Rattle.lists.specs.Padded.{any, every, first, without, shifted, placed, changed}
use Rattle.lists.proofs.Cond.{either, cases, and_left, and_right, and_both, or_left, or_right, or-one, or-two, none_or, wrong}

module _ {A : Type 0} where
  pub any-first : (p : A → Bool) (d : A) (l : List A) → any p l ≡ true → p (first p d l) ≡ true
  unfolding any first
  any-first p d [] g = wrong g refl
  any-first p d (x ∷ l) g = either (λ y. p y ≡ true) (p x) (λ e. e) (λ e. any-first p d l (rw e at g))

  -- the first that passes p passes q
  pub first_any : (p q : A → Bool) (d : A) (l : List A) → any p l ≡ true → q (first p d l) ≡ true → any q l ≡ true
  unfolding any first
  first_any p q d [] g h = wrong g refl
  first_any p q d (x ∷ l) g h =
      cases (p x) (λ e. or-one (q x) _ (rw e at h)) (λ e. or-two (q x) _ (first_any p q d l (rw e at g) (rw e at h)))

  pub any-imp : (p r : A → Bool) → ((x : A) → p x ≡ true → r x ≡ true) → (l : List A) → any p l ≡ true → any r l ≡ true
  unfolding any
  any-imp p r h [] g = g
  any-imp p r h (x ∷ l) g = cases (p x) (λ e. or-one (r x) _ (h x e)) (λ e. or-two (r x) _ (any-imp p r h l (rw e at g)))

  pub any_snoc : (p : A → Bool) (x : A) (l : List A) → any p l ≡ true → any p (l ++ x ∷ []) ≡ true
  unfolding any
  any_snoc p x [] g = wrong g refl
  any_snoc p x (y ∷ l) g = cases (p y) (λ e. or-one (p y) _ e) (λ e. or-two (p y) _ (any_snoc p x l (rw e at g)))

  pub any-placed : (p t : A → Bool) (e : A) → ((x : A) → t x ≡ true → p x ≡ false) → (l : List A) → any p l ≡ true → any p (placed t e l) ≡ true
  unfolding any placed
  any-placed p t e h [] g = g
  any-placed p t e h (x ∷ l) g =
      either (λ r. any p r ≡ true) (t x) (λ k. or-two (p e) _ (rw (h x k) at g))
      (λ k. cases (p x) (λ f. or-one (p x) _ f) (λ f. or-two (p x) _ (any-placed p t e h l (rw f at g))))

  -- an entry that passes p takes the first free place of entries that do not: it is the first that passes
  pub first-placed :
      (p t ok : A → Bool) (e d : A) → p e ≡ true → ((x : A) → ok x ≡ true → p x ≡ false) → (l : List A)
      → every ok l ≡ true → any t l ≡ true → first p d (placed t e l) ≡ e
  unfolding any every first placed
  first-placed p t ok e d y h [] g f = wrong f refl
  first-placed p t ok e d y h (x ∷ l) g f =
      cases (t x) (λ k. rw k (rw y))
      (λ k. rw k (rw (h x (and_left _ _ g)) (first-placed p t ok e d y h l (and_right (ok x) _ g) (rw k at f))))

  pub any-changed : (p t : A → Bool) (g : A → A) → ((x : A) → p x ≡ true → t x ≡ false) → (l : List A) → any p l ≡ true → any p (changed t g l) ≡ true
  unfolding any changed
  any-changed p t g h [] f = f
  any-changed p t g h (x ∷ l) f =
      cases (p x) (λ e. or-one (p (cond (t x) (g x) x)) _ (rw (h x e) e)) (λ e. or-two (p (cond (t x) (g x) x)) _ (any-changed p t g h l (rw e at f)))

  -- a change that the test does not see
  pub changed-any : (p t : A → Bool) (g : A → A) → ((x : A) → p (g x) ≡ p x) → (l : List A) → any p (changed t g l) ≡ any p l
  unfolding any changed
  changed-any p t g h [] = refl
  changed-any p t g h (x ∷ l) = cases (t x) (λ e. rw (e, h x, changed-any p t g h l)) (λ e. rw (e, changed-any p t g h l))

  pub any-without : (p t : A → Bool) (free : A) → ((x : A) → p x ≡ true → t x ≡ false) → (l : List A) → any p l ≡ true → any p (without t free l) ≡ true
  unfolding any without
  any-without p t free h [] f = f
  any-without p t free h (x ∷ l) f =
      cases (p x) (λ e. rw (h x e) (or-one (p x) _ e))
      (λ e. either (λ r. any p r ≡ true) (t x) (λ k. any_snoc p free (without t free l) (any-without p t free h l (rw e at f)))
      (λ k. or-two (p x) _ (any-without p t free h l (rw e at f))))

  pub none-snoc : (p : A → Bool) (x : A) (l : List A) → p x ≡ false → any p l ≡ false → any p (l ++ x ∷ []) ≡ false
  unfolding any
  none-snoc p x [] e g = rw e
  none-snoc p x (y ∷ l) e g = none_or (p y) _ (or_left _ _ g) (none-snoc p x l e (or_right (p y) _ g))

  pub none-placed : (p t : A → Bool) (e : A) (l : List A) → p e ≡ false → any p l ≡ false → any p (placed t e l) ≡ false
  unfolding any placed
  none-placed p t e [] h g = refl
  none-placed p t e (x ∷ l) h g =
      either (λ r. any p r ≡ false) (t x) (λ _. none_or (p e) _ h (or_right (p x) _ g))
      (λ _. none_or (p x) _ (or_left _ _ g) (none-placed p t e l h (or_right (p x) _ g)))

  pub none-without : (p t : A → Bool) (free : A) → p free ≡ false → (l : List A) → any p l ≡ false → any p (without t free l) ≡ false
  unfolding any without
  none-without p t free h [] g = refl
  none-without p t free h (x ∷ l) g =
      either (λ r. any p r ≡ false) (t x) (λ _. none-snoc p free (without t free l) h (none-without p t free h l (or_right (p x) _ g)))
      (λ _. none_or (p x) _ (or_left _ _ g) (none-without p t free h l (or_right (p x) _ g)))

  pub none-changed : (p t : A → Bool) (g : A → A) → ((x : A) → p x ≡ false → p (g x) ≡ false) → (l : List A) → any p l ≡ false → any p (changed t g l) ≡ false
  unfolding any changed
  none-changed p t g h [] f = refl
  none-changed p t g h (x ∷ l) f =
      none_or _ _ (either (λ y. p y ≡ false) (t x) (λ _. h x (or_left _ _ f)) (λ _. or_left _ _ f)) (none-changed p t g h l (or_right (p x) _ f))

  pub none-shifted : (p : A → Bool) (free : A) → p free ≡ false → (l : List A) → any p l ≡ false → any p (shifted free l) ≡ false
  unfolding any shifted
  none-shifted p free h [] g = refl
  none-shifted p free h (x ∷ l) g = none-snoc p free l h (or_right (p x) _ g)

  pub none-every : (o t : A → Bool) → ((x : A) → o x ≡ true → t x ≡ false) → (l : List A) → every o l ≡ true → any t l ≡ false
  unfolding any every
  none-every o t h [] g = refl
  none-every o t h (x ∷ l) g = none_or (t x) _ (h x (and_left _ _ g)) (none-every o t h l (and_right (o x) _ g))

  pub any-every : (r : A → Bool) (xs : List A) → any r xs ≡ false → every (λ x. not (r x)) xs ≡ true
  unfolding every any
  any-every r [] e = refl
  any-every r (x ∷ xs) e = and_both (not (r x)) _ (rw (or_left (r x) _ e)) (any-every r xs (or_right (r x) _ e))

  -- tests that agree on the entries take off the same ones
  pub without-same : (ok t u : A → Bool) (free : A) → ((x : A) → ok x ≡ true → t x ≡ u x) → (l : List A) → every ok l ≡ true → without t free l ≡ without u free l
  unfolding every without
  without-same ok t u free h [] g = refl
  without-same ok t u free h (x ∷ l) g =
      let rest = without-same ok t u free h l (and_right (ok x) _ g) in rw (h x (and_left _ _ g), rest)

  pub without-none : (t : A → Bool) (free : A) (l : List A) → any t l ≡ false → without t free l ≡ l
  unfolding any without
  without-none t free [] g = refl
  without-none t free (x ∷ l) g = rw (or_left (t x) _ g) (ap (λ (r : List A). x ∷ r) (without-none t free l (or_right (t x) _ g)))

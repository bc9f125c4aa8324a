-- Entries that pass a test c give up their places: what every other operation on the list sees of that.
use mathlib.Core.Path.{◌≡◌, refl, sym, ◌∙◌, ap, ap₂}
use mathlib.Core.Bool.{Bool, true, false, cond, ◌||◌}
use mathlib.Core.List.{List, [], ◌∷◌, ◌++◌}
use lib.ListN.{get_or}
use Rattle.lists.specs.Padded.{any, every, first, final, filter, without, shifted, placed, changed}
use Rattle.lists.proofs.Cond.{both, either, cases, and_left, and_right, and_both}

-- the test p is passed by no free place and by no entry that c takes out
pub record Untouched {A : Type 0} (c : A → Bool) (free : A) (p : A → Bool) : Type 0 where
  pub hollow : p free ≡ false
  pub apart : (x : A) → p x ≡ true → c x ≡ false

module _ {A : Type 0} (c : A → Bool) (free : A) where
  abbrev pub swept : A → A
  swept x = cond (c x) free x

  abbrev pub sweep : List A → List A
  sweep l = changed c (λ x. free) l

  sweep-snoc : (l : List A) → c free ≡ false → sweep (l ++ free ∷ []) ≡ sweep l ++ free ∷ []
  unfolding changed
  sweep-snoc [] e = rw e
  sweep-snoc (x ∷ xs) e = ap (λ (r : List A). swept x ∷ r) (sweep-snoc xs e)

  pub sweep-shifted : (l : List A) → c free ≡ false → shifted free (sweep l) ≡ sweep (shifted free l)
  unfolding changed shifted
  sweep-shifted [] e = refl
  sweep-shifted (x ∷ xs) e = sym (sweep-snoc xs e)

  pub sweep-head : (l : List A) → c free ≡ false → get_or (sweep l) 0 free ≡ swept (get_or l 0 free)
  unfolding changed
  sweep-head [] e = rw e
  sweep-head (x ∷ xs) e = refl

  -- a change that the sweep hides
  pub sweep-hides : (p : A → Bool) (g : A → A) → ((x : A) → p x ≡ true → swept (g x) ≡ swept x) → (l : List A) → sweep (changed p g l) ≡ sweep l
  unfolding changed
  sweep-hides p g h [] = refl
  sweep-hides p g h (x ∷ xs) =
      ap₂ ◌∷◌ (either (λ (r : A). swept r ≡ swept x) (p x) (h x) (λ e. refl)) (sweep-hides p g h xs)

  -- an entry that is swept takes a free place
  pub sweep-placed : (ok p : A → Bool) (e : A) → c e ≡ true → ((x : A) → ok x ≡ true → p x ≡ true → swept x ≡ free) → (l : List A) → every ok l ≡ true → sweep (placed p e l) ≡ sweep l
  unfolding changed placed every
  sweep-placed ok p e h k [] g = refl
  sweep-placed ok p e h k (x ∷ xs) g =
      either (λ (r : List A). sweep r ≡ sweep (x ∷ xs)) (p x)
      (λ t. ap (λ (r : A). r ∷ sweep xs) (rw h (sym (k x (and_left _ _ g) t))))
      (λ t. ap (λ (r : List A). swept x ∷ r) (sweep-placed ok p e h k xs (and_right (ok x) _ g)))

  -- nothing is swept
  pub sweep-none : (ok : A → Bool) → ((x : A) → ok x ≡ true → c x ≡ false) → (l : List A) → every ok l ≡ true → sweep l ≡ l
  unfolding changed every
  sweep-none ok h [] g = refl
  sweep-none ok h (x ∷ xs) g = ap₂ ◌∷◌ (rw (h x (and_left _ _ g))) (sweep-none ok h xs (and_right (ok x) _ g))

  -- a property of each entry, after the sweep
  pub sweep-every : (p r : A → Bool) → ((x : A) → p x ≡ true → r (swept x) ≡ true) → (l : List A) → every p l ≡ true → every r (sweep l) ≡ true
  unfolding every changed
  sweep-every p r h [] g = refl
  sweep-every p r h (x ∷ l) g = and_both (r (swept x)) _ (h x (and_left _ _ g)) (sweep-every p r h l (and_right (p x) _ g))

module _ {A : Type 0} {c : A → Bool} {free : A} {p : A → Bool} (bl : Untouched c free p) where
  pub stays : (x : A) → p x ≡ true → swept c free x ≡ x
  stays x e = rw (bl.apart x e)

  pub agrees : (x : A) → p (swept c free x) ≡ p x
  agrees x = cases (p x) (λ e. rw (stays x e)) (λ e. go (c x) e)
    where
      go : (t : Bool) → p x ≡ false → p (cond t free x) ≡ p x
      go true e = bl.hollow ∙ sym e
      go false e = refl

  pub sweep-any : (l : List A) → any p (sweep c free l) ≡ any p l
  unfolding changed any
  sweep-any [] = refl
  sweep-any (x ∷ xs) = ap₂ ◌||◌ (agrees x) (sweep-any xs)

  pub sweep-first : (l : List A) → first p free (sweep c free l) ≡ first p free l
  unfolding changed first
  sweep-first [] = refl
  sweep-first (x ∷ xs) = both (λ (r : A). r) (agrees x) (stays x) (λ e. sweep-first xs)

  pub sweep-final : (d : A) (l : List A) → final p d (sweep c free l) ≡ final p d l
  unfolding changed final
  sweep-final d [] = refl
  sweep-final d (x ∷ xs) =
      sweep-final (cond (p (swept c free x)) (swept c free x) d) xs
      ∙ ap (λ (r : A). final p r xs) (both (λ (r : A). r) {u = x} {v = d} (agrees x) (stays x) (λ e. refl))

  pub sweep-filter : (l : List A) → filter p (sweep c free l) ≡ filter p l
  unfolding changed filter
  sweep-filter [] = refl
  sweep-filter (x ∷ xs) =
      both (λ (r : List A). r) (agrees x) (λ e. ap₂ ◌∷◌ (stays x e) (sweep-filter xs)) (λ e. sweep-filter xs)

  pub sweep-without : (l : List A) → c free ≡ false → without p free (sweep c free l) ≡ sweep c free (without p free l)
  unfolding changed without
  sweep-without [] k = refl
  sweep-without (x ∷ xs) k =
      both (sweep c free) (agrees x) (λ e. ap (λ (r : List A). r ++ free ∷ []) (sweep-without xs k) ∙ sym (sweep-snoc c free (without p free xs) k))
      (λ e. ap (λ (r : List A). swept c free x ∷ r) (sweep-without xs k))

  pub sweep-changed : (g : A → A) → ((x : A) → p x ≡ true → c (g x) ≡ false) → (l : List A) → changed p g (sweep c free l) ≡ sweep c free (changed p g l)
  unfolding changed
  sweep-changed g h [] = refl
  sweep-changed g h (x ∷ xs) =
      ap₂ ◌∷◌ (both (swept c free) (agrees x) (λ e. ap g (stays x e) ∙ rw (h x e)) (λ e. refl)) (sweep-changed g h xs)

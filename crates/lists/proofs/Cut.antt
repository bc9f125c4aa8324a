-- The first entry that passes a test, and all after it, give up their places: what the other operations on the list see of that. And a
-- change of each entry by its place that no test sees.
use Prim.Native.Nat.{ℕ, zero, suc}
use mathlib.Core.Path.{◌≡◌, refl, sym, ◌∙◌, ap, ap₂}
use mathlib.Core.Bool.{Bool, true, false, not, ◌&&◌, ◌||◌}
use mathlib.Core.List.{List, [], ◌∷◌, ◌++◌}
use lib.Dec.{eqb}
use lib.ListN.{length, replicate, length-replicate}
use borrow.Author.Tests.{not-true}
use Rattle.lists.specs.Padded.{any, every, free_last, without, placed, changed, cut}
use Rattle.lists.specs.Counted.{each_from}
use Rattle.lists.proofs.Cond.{either, cases, and_left, and_right, and_both, or_left, or_right, none_or, wrong}
use Rattle.lists.proofs.Every.{every-replicate}
use Rattle.lists.proofs.Some.{none-every, without-none}
use Rattle.lists.proofs.Lengths.{length-snoc, length-changed, length-placed, length_without}
use Rattle.lists.proofs.Counting.{each-length}
use Rattle.lists.proofs.Sweep.{sweep}

-- ---- free places alone

module _ {A : Type 0} (free : A) where
  -- n free places
  abbrev pub blanks : ℕ → List A
  blanks n = replicate n free

  blanks-snoc : (n : ℕ) → blanks (suc n) ≡ blanks n ++ free ∷ []
  blanks-snoc zero = refl
  blanks-snoc (suc n) = ap (λ (r : List A). free ∷ r) (blanks-snoc n)

  pub none-blanks : (p : A → Bool) → p free ≡ false → (n : ℕ) → any p (blanks n) ≡ false
  unfolding any
  none-blanks p f zero = refl
  none-blanks p f (suc n) = none_or (p free) _ f (none-blanks p f n)

  -- places that are free, and so zero
  pub blanks-are : (ok blank : A → Bool) → ((x : A) → ok x ≡ true → blank x ≡ true → x ≡ free) → (l : List A) → every ok l ≡ true → every blank l ≡ true → blanks (length l) ≡ l
  unfolding every
  blanks-are ok blank z [] g b = refl
  blanks-are ok blank z (x ∷ l) g b =
      ap₂ ◌∷◌ (sym (z x (and_left _ _ g) (and_left _ _ b))) (blanks-are ok blank z l (and_right (ok x) _ g) (and_right (blank x) _ b))

-- ---- the cut

pub length_cut : {A : Type 0} (p : A → Bool) (free : A) (l : List A) → length (cut p free l) ≡ length l
unfolding cut
length_cut p free [] = refl
length_cut {A} p free (x ∷ l) =
    either (λ (r : List A). length r ≡ suc (length l)) (p x) (λ t. ap suc (length-replicate (length l) free)) (λ t. ap suc (length_cut p free l))

module _ {A : Type 0} (p : A → Bool) (free : A) where
  pub every-cut : (r : A → Bool) → r free ≡ true → (l : List A) → every r l ≡ true → every r (cut p free l) ≡ true
  unfolding every cut
  every-cut r f [] g = refl
  every-cut r f (x ∷ l) g =
      either (λ (k : List A). every r k ≡ true) (p x) (λ t. and_both (r free) _ f (every-replicate r free f (length l)))
      (λ t. and_both (r x) _ (and_left _ _ g) (every-cut r f l (and_right (r x) _ g)))

  pub none_left : (r : A → Bool) → r free ≡ false → (l : List A) → any r l ≡ false → any r (cut p free l) ≡ false
  unfolding any cut
  none_left r f [] g = refl
  none_left r f (x ∷ l) g =
      either (λ (k : List A). any r k ≡ false) (p x) (λ t. none_or (r free) _ f (none-blanks free r f (length l)))
      (λ t. none_or (r x) _ (or_left _ _ g) (none_left r f l (or_right (r x) _ g)))

  -- nothing is cut off
  pub cut-none : (l : List A) → any p l ≡ false → cut p free l ≡ l
  unfolding any cut
  cut-none [] g = refl
  cut-none (x ∷ l) g = rw (or_left (p x) _ g) (ap (λ (r : List A). x ∷ r) (cut-none l (or_right (p x) _ g)))

  -- a sweep that takes out none of those that are left, nor the one at the cut
  pub cut-sweep :
      (c ok : A → Bool) → ((x : A) → ok x ≡ true → p x ≡ true → c x ≡ false) → (l : List A) → every ok l ≡ true
      → every (λ x. not (c x)) (cut p free l) ≡ true → cut p free (sweep c free l) ≡ cut p free l
  unfolding changed every cut
  cut-sweep c ok h [] g k = refl
  cut-sweep c ok h (x ∷ l) g k = cases (p x)
      (λ t. rw (h x (and_left _ _ g) t, t) (ap (λ (n : ℕ). free ∷ blanks free n) (length-changed c (λ y. free) l)))
      (λ t.
      let k' : (not (c x) && every (λ y. not (c y)) (cut p free l)) ≡ true = rw t at k in
      rw (not-true (c x) (and_left _ _ k'), t)
      (ap (λ (r : List A). x ∷ r) (cut-sweep c ok h l (and_right (ok x) _ g) (and_right (not (c x)) _ k'))))

  module _ (hollow : p free ≡ false) where
    -- the entry at the cut is gone
    pub none-cut : (l : List A) → any p (cut p free l) ≡ false
    unfolding any cut
    none-cut [] = refl
    none-cut (x ∷ l) =
        either (λ (r : List A). any p r ≡ false) (p x) (λ t. none_or (p free) _ hollow (none-blanks free p hollow (length l)))
        (λ t. none_or (p x) _ t (none-cut l))

    pub cut_again : (l : List A) → cut p free (cut p free l) ≡ cut p free l
    cut_again l = cut-none (cut p free l) (none-cut l)

    cut-snoc : (l : List A) → cut p free (l ++ free ∷ []) ≡ cut p free l ++ free ∷ []
    unfolding cut
    cut-snoc [] = rw hollow
    cut-snoc (x ∷ l) = cases (p x)
        (λ e. rw (e, length-snoc l free) (ap (λ (r : List A). free ∷ r) (blanks-snoc free (length l))))
        (λ e. rw e (ap (λ (r : List A). x ∷ r) (cut-snoc l)))

    -- entries leave, not the one at the cut
    pub cut-without :
        (t ok : A → Bool) → t free ≡ false → ((x : A) → ok x ≡ true → p x ≡ true → t x ≡ false) → (l : List A) → every ok l ≡ true
        → cut p free (without t free l) ≡ without t free (cut p free l)
    unfolding cut without every
    cut-without t ok e h [] g = refl
    cut-without t ok e h (x ∷ l) g = cases (p x)
        (λ k.
        rw (h x (and_left _ _ g) k, k)
        (ap (λ (n : ℕ). free ∷ blanks free n) (length_without t free l)
        ∙ sym (without-none t free (blanks free (suc (length l))) (none-blanks free t e (suc (length l))))))
        (λ k.
        let rest : cut p free (without t free l) ≡ without t free (cut p free l) = cut-without t ok e h l (and_right (ok x) _ g) in
        cases (t x) (λ j. rw (k, j) (cut-snoc (without t free l) ∙ ap (λ (r : List A). r ++ free ∷ []) rest))
        (λ j. rw (k, j, k) (ap (λ (r : List A). x ∷ r) rest)))

    -- an earlier cut, after the entry at this one
    pub cut-cut : (c : A → Bool) → ((x : A) → p x ≡ true → c x ≡ false) → (l : List A) → any p (cut c free l) ≡ true → cut p free (cut c free l) ≡ cut p free l
    unfolding cut any
    cut-cut c h [] g = refl
    cut-cut c h (x ∷ l) g = cases (c x)
        (λ k. wrong (rw k at g) (none-blanks free p hollow (suc (length l))))
        (λ k. rw k (cases (p x) (λ j. rw j (ap (λ (n : ℕ). free ∷ blanks free n) (length_cut c free l)))
        (λ j. rw j (ap (λ (r : List A). x ∷ r) (cut-cut c h l (rw (k, j) at g))))))

  -- ---- a new entry, in the first free place

  module _ (number : A → ℕ) (e : A) where
    abbrev empty : A → Bool
    empty x = eqb (number x) 0

    -- behind the entry at the cut
    pub cut-placed : ((x : A) → empty x ≡ true → p x ≡ false) → (l : List A) → free_last number l ≡ true → any p l ≡ true → cut p free (placed empty e l) ≡ cut p free l
    unfolding cut placed free_last any
    cut-placed h [] f g = refl
    cut-placed h (x ∷ l) f g = cases (empty x)
        (λ b. wrong g (none_or (p x) _ (h x b) (none-every empty p h l (rw b at f))))
        (λ b. rw b (cases (p x) (λ k. rw k (ap (λ (n : ℕ). free ∷ blanks free n) (length-placed empty e l)))
        (λ k. rw k (ap (λ (r : List A). x ∷ r) (cut-placed h l (rw b at f) (rw k at g))))))

    -- it is the one at the cut
    pub cut-set :
        (ok : A → Bool) → ((x : A) → ok x ≡ true → empty x ≡ true → x ≡ free) → p e ≡ true → (l : List A) → every ok l ≡ true
        → free_last number l ≡ true → any p l ≡ false → cut p free (placed empty e l) ≡ l
    unfolding cut placed free_last any every
    cut-set ok z h [] g f n = refl
    cut-set ok z h (x ∷ l) g f n = cases (empty x)
        (λ b. rw (b, h) (ap₂ ◌∷◌ (sym (z x (and_left _ _ g) b)) (blanks-are free ok empty z l (and_right (ok x) _ g) (rw b at f))))
        (λ b. rw (b, or_left (p x) _ n) (ap (λ (r : List A). x ∷ r) (cut-set ok z h l (and_right (ok x) _ g) (rw b at f) (or_right (p x) _ n))))

-- ---- a change of each entry by its place

module _ {A : Type 0} (f : ℕ → A → A) where
  pub every-each : (p r : A → Bool) → ((i : ℕ) (x : A) → p x ≡ true → r (f i x) ≡ true) → (i : ℕ) (l : List A) → every p l ≡ true → every r (each_from f i l) ≡ true
  unfolding each_from every
  every-each p r h i [] g = refl
  every-each p r h i (x ∷ l) g = and_both (r (f i x)) _ (h i x (and_left _ _ g)) (every-each p r h (suc i) l (and_right (p x) _ g))

  -- tests that do not see it
  module _ (p : A → Bool) (unseen : (i : ℕ) (x : A) → p (f i x) ≡ p x) where
    pub any-each : (i : ℕ) (l : List A) → any p (each_from f i l) ≡ any p l
    unfolding each_from any
    any-each i [] = refl
    any-each i (x ∷ l) = ap₂ ◌||◌ (unseen i x) (any-each (suc i) l)

    every-same : (i : ℕ) (l : List A) → every p (each_from f i l) ≡ every p l
    unfolding each_from every
    every-same i [] = refl
    every-same i (x ∷ l) = ap₂ ◌&&◌ (unseen i x) (every-same (suc i) l)

    -- free places stay
    module _ (free : A) (still : (i : ℕ) → f i free ≡ free) where
      each-blanks : (i n : ℕ) → each_from f i (blanks free n) ≡ blanks free n
      unfolding each_from
      each-blanks i zero = refl
      each-blanks i (suc n) = ap₂ ◌∷◌ (still i) (each-blanks (suc i) n)

      pub cut-each : (i : ℕ) (l : List A) → cut p free (each_from f i l) ≡ each_from f i (cut p free l)
      unfolding each_from cut
      cut-each i [] = refl
      cut-each i (x ∷ l) = rw (unseen i x) (cases (p x)
          (λ k. rw k (ap₂ ◌∷◌ (sym (still i)) (ap (blanks free) (each-length f (suc i) l) ∙ sym (each-blanks (suc i) (length l)))))
          (λ k. rw k (ap (λ (r : List A). f i x ∷ r) (cut-each (suc i) l))))

      pub sweep-each : (i : ℕ) (l : List A) → sweep p free (each_from f i l) ≡ each_from f i (sweep p free l)
      unfolding each_from changed
      sweep-each i [] = refl
      sweep-each i (x ∷ l) =
          ap₂ ◌∷◌ (rw (unseen i x) (cases (p x) (λ k. rw k (sym (still i))) (λ k. rw k))) (sweep-each (suc i) l)

  pub last-each : (number : A → ℕ) → ((i : ℕ) (x : A) → number (f i x) ≡ number x) → (i : ℕ) (l : List A) → free_last number (each_from f i l) ≡ free_last number l
  unfolding each_from free_last
  last-each number h i [] = refl
  last-each number h i (x ∷ l) =
      rw (h i x) (cases (eqb (number x) 0)
      (λ b. rw b (every-same (λ y. eqb (number y) 0) (λ j y. ap (λ (n : ℕ). eqb n 0) (h j y)) (suc i) l))
      (λ b. rw b (last-each number h (suc i) l)))

-- Numbers that never fall along a list, and free places that stand last: the changes that keep them.
use Prim.Native.Nat.{ℕ, suc, ◌<◌, ◌≤◌}
use mathlib.Core.Path.{◌≡◌, refl, ap, ap₂}
use mathlib.Core.Bool.{Bool, true, false, ◌&&◌}
use mathlib.Core.List.{List, [], ◌∷◌, ◌++◌}
use native.Mathlib.Omega.{arith}
use lib.Dec.{ltb, leb, eqb}
use lib.ListN.{length, replicate}
use borrow.Author.Tests.{leb-true, ltb-true, eqb-true, lt-ltb, le-ltb, le-leb, eq-eqb}
use Rattle.lists.specs.Padded.{any, every, climbing, free_last, without, placed, cut, changed}
use Rattle.lists.specs.Counted.{each_from}
use Rattle.lists.proofs.Cond.{either, cases, and_left, and_right, and_both, wrong}
use Rattle.lists.proofs.Every.{every-replicate, every-snoc, every-without}
use Rattle.lists.proofs.Sweep.{sweep}
use Rattle.lists.proofs.Cut.{blanks, every-cut}

pub climb-each : {A : Type 0} (f : ℕ → A → A) (number : A → ℕ) → ((i : ℕ) (x : A) → number (f i x) ≡ number x) → (i m : ℕ) (l : List A) → climbing number m (each_from f i l) ≡ climbing number m l
unfolding each_from climbing
climb-each f number h i m [] = refl
climb-each f number h i m (x ∷ l) =
    rw (h i x) (cases (eqb (number x) 0) (λ b. rw b (climb-each f number h (suc i) m l))
    (λ b. rw b (ap (λ (t : Bool). leb m (number x) && t) (climb-each f number h (suc i) (number x) l))))

module _ {A : Type 0} (number : A → ℕ) (free : A) (zero-free : number free ≡ 0) where
  abbrev blank : A → Bool
  blank x = eqb (number x) 0

  blank-free : blank free ≡ true
  blank-free = eq-eqb (number free) 0 zero-free

  -- ---- free places last

  last-blanks : (l : List A) → every blank l ≡ true → free_last number l ≡ true
  unfolding every free_last
  last-blanks [] g = refl
  last-blanks (x ∷ l) g = rw (and_left (blank x) _ g) (and_right (blank x) _ g)

  last_snoc : (l : List A) → free_last number l ≡ true → free_last number (l ++ free ∷ []) ≡ true
  unfolding free_last every
  last_snoc [] g = rw blank-free
  last_snoc (x ∷ l) g =
      cases (blank x) (λ b. rw b (every-snoc blank free l blank-free (rw b at g))) (λ b. rw b (last_snoc l (rw b at g)))

  pub last-cut : (p : A → Bool) (l : List A) → free_last number l ≡ true → free_last number (cut p free l) ≡ true
  unfolding free_last cut
  last-cut p [] g = refl
  last-cut p (x ∷ l) g =
      either (λ (r : List A). free_last number r ≡ true) (p x)
      (λ t. rw blank-free (every-replicate blank free blank-free (length l)))
      (λ t. cases (blank x) (λ b. rw b (every-cut p free blank blank-free l (rw b at g))) (λ b. rw b (last-cut p l (rw b at g))))

  pub last-without : (t : A → Bool) (l : List A) → free_last number l ≡ true → free_last number (without t free l) ≡ true
  unfolding free_last without
  last-without t [] g = refl
  last-without t (x ∷ l) g = cases (blank x)
      (λ b.
      let rest : every blank (without t free l) ≡ true = every-without blank blank t free blank-free (λ y k n. k) l (rw b at g) in
      either (λ (r : List A). free_last number r ≡ true) (t x) (λ k. last_snoc (without t free l) (last-blanks (without t free l) rest)) (λ k. rw b rest))
      (λ b.
      let rest : free_last number (without t free l) ≡ true = last-without t l (rw b at g) in
      either (λ (r : List A). free_last number r ≡ true) (t x) (λ k. last_snoc (without t free l) rest) (λ k. rw b rest))

  pub last-placed : (e : A) → blank e ≡ false → (l : List A) → free_last number l ≡ true → free_last number (placed blank e l) ≡ true
  unfolding free_last placed
  last-placed e h [] g = refl
  last-placed e h (x ∷ l) g =
      cases (blank x) (λ b. rw (b, h) (last-blanks l (rw b at g))) (λ b. rw (b, b) (last-placed e h l (rw b at g)))

  -- ---- numbers that never fall

  climb-blanks : (m : ℕ) (l : List A) → every blank l ≡ true → climbing number m l ≡ true
  unfolding every climbing
  climb-blanks m [] g = refl
  climb-blanks m (x ∷ l) g = rw (and_left (blank x) _ g) (climb-blanks m l (and_right (blank x) _ g))

  -- what the number of an entry in front tells
  climb-step : (m : ℕ) (x : A) (l : List A) → blank x ≡ false → climbing number m (x ∷ l) ≡ true → (m ≤ number x) × (climbing number (number x) l ≡ true)
  unfolding climbing
  climb-step m x l b g =
      let g' : (leb m (number x) && climbing number (number x) l) ≡ true = rw b at g in
      (leb-true m (number x) (and_left _ _ g'), and_right (leb m (number x)) _ g')

  climb-cons : (m : ℕ) (x : A) (l : List A) → blank x ≡ false → m ≤ number x → climbing number (number x) l ≡ true → climbing number m (x ∷ l) ≡ true
  unfolding climbing
  climb-cons m x l b h g = rw b (and_both (leb m (number x)) _ (le-leb m (number x) h) g)

  climb-lower : (m n : ℕ) (l : List A) → m ≤ n → climbing number n l ≡ true → climbing number m l ≡ true
  unfolding climbing
  climb-lower m n [] h g = refl
  climb-lower m n (x ∷ l) h g =
      cases (blank x) (λ b. rw b (climb-lower m n l h (rw b at g)))
      (λ b. let s = climb-step n x l b g in climb-cons m x l b (omega (arith, s.0)) s.1)

  climb-snoc : (m : ℕ) (l : List A) → climbing number m l ≡ true → climbing number m (l ++ free ∷ []) ≡ true
  unfolding climbing
  climb-snoc m [] g = rw blank-free
  climb-snoc m (x ∷ l) g =
      cases (blank x) (λ b. rw b (climb-snoc m l (rw b at g)))
      (λ b. let s = climb-step m x l b g in climb-cons m x (l ++ free ∷ []) b s.0 (climb-snoc (number x) l s.1))

  pub climb-cut : (p : A → Bool) (m : ℕ) (l : List A) → climbing number m l ≡ true → climbing number m (cut p free l) ≡ true
  unfolding climbing cut
  climb-cut p m [] g = refl
  climb-cut p m (x ∷ l) g =
      either (λ (r : List A). climbing number m r ≡ true) (p x)
      (λ t. climb-blanks m (free ∷ replicate (length l) free) (unfold every in (and_both (blank free) _ blank-free (every-replicate blank free blank-free (length l)))))
      (λ t. cases (blank x) (λ b. rw b (climb-cut p m l (rw b at g)))
      (λ b. let s = climb-step m x l b g in climb-cons m x (cut p free l) b s.0 (climb-cut p (number x) l s.1)))

  pub climb-without : (t : A → Bool) (m : ℕ) (l : List A) → climbing number m l ≡ true → climbing number m (without t free l) ≡ true
  unfolding climbing without
  climb-without t m [] g = refl
  climb-without t m (x ∷ l) g = cases (blank x)
      (λ b.
      let rest : climbing number m (without t free l) ≡ true = climb-without t m l (rw b at g) in
      either (λ (r : List A). climbing number m r ≡ true) (t x) (λ k. climb-snoc m (without t free l) rest) (λ k. rw b rest))
      (λ b.
      let s = climb-step m x l b g in
      let rest : climbing number (number x) (without t free l) ≡ true = climb-without t (number x) l s.1 in
      either (λ (r : List A). climbing number m r ≡ true) (t x) (λ k. climb-snoc m (without t free l) (climb-lower m (number x) (without t free l) s.0 rest))
      (λ k. climb-cons m x (without t free l) b s.0 rest))

  -- a new entry whose number is that of none before it
  pub climb-placed :
      (e : A) → blank e ≡ false → (m : ℕ) (l : List A) → m ≤ number e → every (λ x. leb (number x) (number e)) l ≡ true → free_last number l ≡ true
      → climbing number m l ≡ true → climbing number m (placed blank e l) ≡ true
  unfolding climbing placed free_last every
  climb-placed e h m [] k f v g = refl
  climb-placed e h m (x ∷ l) k f v g = cases (blank x)
      (λ b. rw b (climb-cons m e l h k (climb-blanks (number e) l (rw b at v))))
      (λ b. let s = climb-step m x l b g in
      rw b (climb-cons m x (placed blank e l) b s.0 (climb-placed e h (number x) l (leb-true _ _ (and_left _ _ f)) (and_right (leb (number x) (number e)) _ f) (rw b at v) s.1)))

  -- ---- what stands before an entry

  module _ (p : A → Bool) (n : ℕ) (ok : A → Bool) (at : (x : A) → ok x ≡ true → p x ≡ true → number x ≡ n) where
    below-it : (m : ℕ) (l : List A) → 0 < n → climbing number m l ≡ true → every ok l ≡ true → any p l ≡ true → m ≤ n
    unfolding climbing every any
    below-it m [] pos g o a = wrong a refl
    below-it m (x ∷ l) pos g o a = cases (p x)
        (λ k. cases (blank x)
        (λ b. let no : ⊥ = omega (arith, at x (and_left _ _ o) k, eqb-true (number x) 0 b) in absurd no)
        (λ b. omega (arith, at x (and_left _ _ o) k, (climb-step m x l b g).0)))
        (λ k. cases (blank x) (λ b. below-it m l pos (rw b at g) (and_right (ok x) _ o) (rw k at a))
        (λ b. let s = climb-step m x l b g in omega (arith, s.0, below-it (number x) l pos s.1 (and_right (ok x) _ o) (rw k at a))))

    -- no number before it is above its own
    pub before-it : (m : ℕ) (l : List A) → 0 < n → climbing number m l ≡ true → every ok l ≡ true → any p l ≡ true → every (λ x. leb (number x) n) (cut p free l) ≡ true
    unfolding climbing every any cut
    before-it m [] pos g o a = refl
    before-it m (x ∷ l) pos g o a = cases (p x)
        (λ k. rw k (and_both (leb (number free) n) _ low (every-replicate (λ x. leb (number x) n) free low (length l))))
        (λ k. cases (blank x)
        (λ b. rw k (and_both (leb (number x) n) _ (le-leb (number x) n (omega (arith, eqb-true (number x) 0 b))) (before-it m l pos (rw b at g) (and_right (ok x) _ o) (rw k at a))))
        (λ b. let s = climb-step m x l b g in
        rw k (and_both (leb (number x) n) _ (le-leb (number x) n (below-it (number x) l pos s.1 (and_right (ok x) _ o) (rw k at a)))
        (before-it (number x) l pos s.1 (and_right (ok x) _ o) (rw k at a)))))
      where
        low : leb (number free) n ≡ true
        low = le-leb (number free) n (omega (arith, zero-free))

  -- ---- what is swept off by its number is the end

  module _ (ok : A → Bool) (zero : (x : A) → ok x ≡ true → blank x ≡ true → x ≡ free) (n : ℕ) where
    abbrev over : A → Bool
    over x = ltb n (number x)

    sweep-over : (m : ℕ) (l : List A) → n < m → climbing number m l ≡ true → every ok l ≡ true → sweep over free l ≡ blanks free (length l)
    unfolding climbing every changed
    sweep-over m [] h g o = refl
    sweep-over m (x ∷ l) h g o = cases (blank x)
        (λ b.
        ap₂ ◌∷◌ (either (λ (r : A). r ≡ free) (over x) (λ k. refl) (λ k. zero x (and_left _ _ o) b)) (sweep-over m l h (rw b at g) (and_right (ok x) _ o)))
        (λ b. let s = climb-step m x l b g in
        ap₂ ◌∷◌ (rw (lt-ltb n (number x) (omega (arith, s.0)))) (sweep-over (number x) l (omega (arith, s.0)) s.1 (and_right (ok x) _ o)))

    pub sweep-cut : (m : ℕ) (l : List A) → climbing number m l ≡ true → every ok l ≡ true → sweep over free l ≡ cut over free l
    unfolding climbing every changed cut
    sweep-cut m [] g o = refl
    sweep-cut m (x ∷ l) g o = cases (blank x)
        (λ b.
        let k : over x ≡ false = le-ltb n (number x) (omega (arith, eqb-true (number x) 0 b)) in
        rw k (ap (λ (r : List A). x ∷ r) (sweep-cut m l (rw b at g) (and_right (ok x) _ o))))
        (λ b. let s = climb-step m x l b g in
        cases (over x)
        (λ k. rw k (ap (λ (r : List A). free ∷ r) (sweep-over (number x) l (ltb-true n (number x) k) s.1 (and_right (ok x) _ o))))
        (λ k. rw k (ap (λ (r : List A). x ∷ r) (sweep-cut (number x) l s.1 (and_right (ok x) _ o)))))

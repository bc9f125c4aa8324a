-- Laws of the loops that count.
use mathlib.Core.Path.{◌≡◌, refl, sym, ap, subst, ◌∙◌}
use mathlib.Core.Bool.{Bool, true, false, cond, ◌&&◌}
use mathlib.Core.List.{List, [], ◌∷◌}
use mathlib.Core.Logic.{⊎_elim}
use Prim.Native.Nat.{ℕ, zero, suc, ◌+◌, ◌-◌, ◌<◌, ◌≤◌}
use native.Mathlib.Nat.{le_trans, eq-or-lt_of_le, le_of_suc-le-suc, not-suc-le-zero}
use native.Mathlib.Omega.{arith}
use lib.Dec.{ltb}
use lib.ListN.{length, get_or, drop, drop_of_length-le}
use lib.Seq.{drop-cons}
use borrow.Author.Tests.{ltb-true, ltb-false}
use Rattle.lists.specs.Padded.{every}
use Rattle.lists.specs.Counted.{first_from, all_from, some_from, greatest_from, steps_from, each_from}
use Rattle.lists.proofs.Cond.{either, and_left, and_right, and_both}

-- ---- the first

module _ (p : ℕ → Bool) where
  pub first-low : (n i : ℕ) → i ≤ first_from p i n
  unfolding first_from
  first-low zero i = omega arith
  first-low (suc n) i = either (λ r. i ≤ r) (p i) (λ e. omega arith) (λ e. omega (arith, first-low n (suc i)))

  pub first-hits : (n i : ℕ) → first_from p i n < i + n → p (first_from p i n) ≡ true
  unfolding first_from
  first-hits zero i h = let no : ⊥ = omega arith in absurd no
  first-hits (suc n) i h =
      either (λ r. r < i + suc n → p r ≡ true) (p i) (λ e l. e) (λ e l. first-hits n (suc i) (omega arith)) h

  pub first-least : (n i k : ℕ) → i ≤ k → k < i + n → p k ≡ true → first_from p i n ≤ k
  unfolding first_from
  first-least zero i k a b e = let no : ⊥ = omega arith in absurd no
  first-least (suc n) i k a b e =
      either (λ r. r ≤ k) (p i) (λ t. a)
      (λ t. ⊎_elim
      (λ q. let z : true ≡ false = sym e ∙ (ap p (sym q) ∙ t) in let y : ◌≡◌ {A = ℕ} 0 1 = cc in omega arith)
      (λ l. first-least n (suc i) k l (omega arith) e)
      (eq-or-lt_of_le a))

  -- ---- all

  pub all-at : (n i : ℕ) → all_from p i n ≡ true → (k : ℕ) → i ≤ k → k < i + n → p k ≡ true
  unfolding all_from
  all-at zero i e k a b = let no : ⊥ = omega arith in absurd no
  all-at (suc n) i e k a b =
      ⊎_elim
      (λ q. subst (λ (j : ℕ). p j ≡ true) q (and_left (p i) _ e))
      (λ l. all-at n (suc i) (and_right (p i) _ e) k l (omega arith))
      (eq-or-lt_of_le a)

  pub all-by : (n i : ℕ) → ((k : ℕ) → i ≤ k → k < i + n → p k ≡ true) → all_from p i n ≡ true
  unfolding all_from
  all-by zero i h = refl
  all-by (suc n) i h =
      and_both (p i) _ (h i (omega arith) (omega arith)) (all-by n (suc i) (λ k a b. h k (omega arith) (omega arith)))

  -- ---- none

  pub some-none : (n i : ℕ) → ((k : ℕ) → i ≤ k → k < i + n → p k ≡ false) → some_from p i n ≡ false
  unfolding some_from
  some-none zero i h = refl
  some-none (suc n) i h = rw (h i (omega arith) (omega arith)) (some-none n (suc i) (λ k a b. h k (omega arith) (omega arith)))

-- two tests that agree on the numbers looked at
pub first-same : (p r : ℕ → Bool) (n i : ℕ) → ((k : ℕ) → i ≤ k → k < i + n → p k ≡ r k) → first_from p i n ≡ first_from r i n
unfolding first_from
first-same p r zero i h = refl
first-same p r (suc n) i h =
    rw (h i (omega arith) (omega arith), first-same p r n (suc i) (λ k a b. h k (omega arith) (omega arith)))

-- ---- the greatest

pub greatest-in : (g : ℕ → ℕ) (lo hi n best i : ℕ) → (lo ≤ best) × (best < hi) → lo ≤ i → i + n ≤ hi
    → (lo ≤ greatest_from g best i n) × (greatest_from g best i n < hi)
unfolding greatest_from
greatest-in g lo hi zero best i h a b = h
greatest-in g lo hi (suc n) best i h a b =
    greatest-in g lo hi n (cond (ltb (g best) (g i)) i best) (suc i)
    (either (λ r. (lo ≤ r) × (r < hi)) (ltb (g best) (g i)) (λ e. (a, omega arith)) (λ e. h))
    (omega arith) (omega arith)

-- none of them exceeds it
pub greatest-most : (g : ℕ → ℕ) (n best i : ℕ)
    → (g best ≤ g (greatest_from g best i n)) × ((k : ℕ) → i ≤ k → k < i + n → g k ≤ g (greatest_from g best i n))
unfolding greatest_from
greatest-most g zero best i = (omega arith, λ k a b. let no : ⊥ = omega arith in absurd no)
greatest-most g (suc n) best i =
    let next = cond (ltb (g best) (g i)) i best in
    let r = greatest-most g n next (suc i) in
    let both : (g best ≤ g next) × (g i ≤ g next) =
    either (λ r. (g best ≤ g r) × (g i ≤ g r)) (ltb (g best) (g i))
    (λ e. let l = ltb-true (g best) (g i) e in (omega arith, omega arith))
    (λ e. let l = ltb-false (g best) (g i) e in (omega arith, omega arith)) in (
      le_trans both.0 r.0,
      λ k a b.
          ⊎_elim
          (λ q. subst (λ (j : ℕ). g j ≤ g (greatest_from g next (suc i) n)) q (le_trans both.1 r.0))
          (λ l. r.1 k l (omega arith))
          (eq-or-lt_of_le a),
    )

-- ---- steps

pub steps-keep : {A : Type 0} (P : A → Type 0) (f : ℕ → A → A) (n i : ℕ) → ((j : ℕ) (a : A) → i ≤ j → j < i + n → P a → P (f j a)) → (a : A) → P a → P (steps_from f i n a)
unfolding steps_from
steps-keep P f zero i h a x = x
steps-keep P f (suc n) i h a x =
    steps-keep P f n (suc i) (λ j a p q y. h j a (omega arith) (omega arith) y) (f i a) (h i a (omega arith) (omega arith) x)

-- ---- each

module _ {A : Type 0} (f : ℕ → A → A) where
  pub each-length : (i : ℕ) (xs : List A) → length (each_from f i xs) ≡ length xs
  unfolding each_from
  each-length i [] = refl
  each-length i (x ∷ xs) = ap suc (each-length (suc i) xs)

  each_from_lem : (i : ℕ) (xs : List A) (d : A) (k : ℕ) → k < length xs → get_or (each_from f i xs) k d ≡ f (i + k) (get_or xs k d)
  unfolding each_from
  each_from_lem i [] d k h = absurd (not-suc-le-zero h)
  each_from_lem i (x ∷ xs) d zero h = let e : i ≡ i + 0 = omega arith in ap (λ (j : ℕ). f j x) e
  each_from_lem i (x ∷ xs) d (suc k) h =
      let e : suc i + k ≡ i + suc k = omega arith in
      each_from_lem (suc i) xs d k (le_of_suc-le-suc h) ∙ ap (λ (j : ℕ). f j (get_or xs k d)) e

  pub each_at : (xs : List A) (d : A) (k : ℕ) → k < length xs → get_or (each_from f 0 xs) k d ≡ f k (get_or xs k d)
  each_at xs d k h = let e : 0 + k ≡ k = omega arith in each_from_lem 0 xs d k h ∙ ap (λ (j : ℕ). f j (get_or xs k d)) e

  pub each-past : (i : ℕ) (xs : List A) (d : A) (k : ℕ) → length xs ≤ k → get_or (each_from f i xs) k d ≡ d
  unfolding each_from
  each-past i [] d k h = refl
  each-past i (x ∷ xs) d zero h = absurd (not-suc-le-zero h)
  each-past i (x ∷ xs) d (suc k) h = each-past (suc i) xs d k (le_of_suc-le-suc h)

  -- an entry that its change leaves as it is
  pub each_keep : (i : ℕ) (xs : List A) (d : A) (k : ℕ) → ((x : A) → f (i + k) x ≡ x) → get_or (each_from f i xs) k d ≡ get_or xs k d
  unfolding each_from
  each_keep i [] d k h = refl
  each_keep i (x ∷ xs) d zero h = let e : i ≡ i + 0 = omega arith in ap (λ (j : ℕ). f j x) e ∙ h x
  each_keep i (x ∷ xs) d (suc k) h =
      let e : suc i + k ≡ i + suc k = omega arith in
      each_keep (suc i) xs d k (λ y. ap (λ (j : ℕ). f j y) e ∙ h y)

  pub each_same : (xs : List A) (d : A) (k : ℕ) → ((x : A) → f k x ≡ x) → get_or (each_from f 0 xs) k d ≡ get_or xs k d
  each_same xs d k h = let e : 0 + k ≡ k = omega arith in each_keep 0 xs d k (λ y. ap (λ (j : ℕ). f j y) e ∙ h y)

-- ---- every entry from a place on

pub every_drop : {A : Type 0} (p : A → Bool) (d : A) (i : ℕ) (l : List A) → every p (drop i l) ≡ all_from (λ k. p (get_or l k d)) i (length l - i)
unfolding every all_from
every_drop {A} p d i l = go (length l - i) i refl
  where
    go : (n i : ℕ) → length l - i ≡ n → every p (drop i l) ≡ all_from (λ k. p (get_or l k d)) i n
    go zero i e = let past : length l ≤ i = omega arith in rw (drop_of_length-le l past)
    go (suc n) i e = rw (drop-cons l i d (omega arith)) (ap (λ (t : Bool). p (get_or l i d) && t) (go n (suc i) (omega arith)))

-- Loops that count, as definitions: a search, tests of all and of some, how many pass, a greatest, a repeated step, and a change of each entry by its place.
use Rattle.std.specs.Prelude.{Bool, true, false, cond, ◌&&◌, ◌||◌, List, [], ◌∷◌, ℕ, zero, suc, ◌+◌, ltb}

-- the first of the numbers i, i + 1, .. (n of them) that passes the test, else i + n
unfoldable pub first_from : (ℕ → Bool) → ℕ → ℕ → ℕ
first_from p i zero = i
first_from p i (suc n) = cond (p i) i (first_from p (suc i) n)

-- each of the numbers i, i + 1, .. (n of them) passes the test
unfoldable pub all_from : (ℕ → Bool) → ℕ → ℕ → Bool
all_from p i zero = true
all_from p i (suc n) = p i && all_from p (suc i) n

-- some of the numbers i, i + 1, .. (n of them) passes the test
unfoldable pub some_from : (ℕ → Bool) → ℕ → ℕ → Bool
some_from p i zero = false
some_from p i (suc n) = p i || some_from p (suc i) n

-- how many of the numbers i, i + 1, .. (n of them) pass the test
unfoldable pub count_from : (ℕ → Bool) → ℕ → ℕ → ℕ
count_from p i zero = 0
count_from p i (suc n) = cond (p i) 1 0 + count_from p (suc i) n

-- of best, i, i + 1, .. (n of them) the one of greatest measure, the earliest of several
unfoldable pub greatest_from : (ℕ → ℕ) → ℕ → ℕ → ℕ → ℕ
greatest_from g best i zero = best
greatest_from g best i (suc n) = greatest_from g (cond (ltb (g best) (g i)) i best) (suc i) n

-- the steps f i, f (i + 1), .. (n of them), one after the other
unfoldable pub steps_from : {A : Type 0} → (ℕ → A → A) → ℕ → ℕ → A → A
steps_from f i zero a = a
steps_from f i (suc n) a = steps_from f (suc i) n (f i a)

-- each entry changed by its place: the first stands at place i
unfoldable pub each_from : {A : Type 0} → (ℕ → A → A) → ℕ → List A → List A
each_from f i [] = []
each_from f i (x ∷ xs) = f i x ∷ each_from f (suc i) xs

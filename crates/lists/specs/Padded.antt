-- Lists of fixed length whose unused places, at the end, hold one value, `free`: tests, selections, a sum, and the changes of a queue.
-- No definition here looks at what an entry is; each change keeps the length.
use Rattle.std.specs.Prelude.{◌≡◌, Bool, true, false, cond, ◌||◌, ◌&&◌, List, [], ◌∷◌, ◌++◌, ℕ, suc, ◌+◌, eqb, ltb, leb, length, replicate}

module _ {A : Type 0} where
  -- ---- tests

  -- an answer to an entry (the first place: what may be answered to what) is what the test says of it
  abbrev pub AnswersAs : (A → Bool → Type 0) → (A → Bool) → Type 0
  AnswersAs answers p = (x : A) (r : Bool) → answers x r → r ≡ p x

  -- some entry passes the test
  unfoldable pub any : (A → Bool) → List A → Bool
  any p [] = false
  any p (x ∷ xs) = p x || any p xs

  -- every entry passes the test
  unfoldable pub every : (A → Bool) → List A → Bool
  every p [] = true
  every p (x ∷ xs) = p x && every p xs

  -- the numbers of the entries are above m and strictly rise; number 0 marks a free place
  unfoldable pub ascending : (A → ℕ) → ℕ → List A → Bool
  ascending number m [] = true
  ascending number m (x ∷ xs) =
      cond (eqb (number x) 0) (ascending number m xs) (ltb m (number x) && ascending number (number x) xs)

  -- the numbers of the entries are m or more and never fall; number 0 marks a free place
  unfoldable pub climbing : (A → ℕ) → ℕ → List A → Bool
  climbing number m [] = true
  climbing number m (x ∷ xs) =
      cond (eqb (number x) 0) (climbing number m xs) (leb m (number x) && climbing number (number x) xs)

  -- only free places follow a free place
  unfoldable pub free_last : (A → ℕ) → List A → Bool
  free_last number [] = true
  free_last number (x ∷ xs) = cond (eqb (number x) 0) (every (λ y. eqb (number y) 0) xs) (free_last number xs)

  -- both: the numbers are above m and strictly rise up to the free places
  unfoldable pub rising : (A → ℕ) → ℕ → List A → Bool
  rising number m [] = true
  rising number m (x ∷ xs) =
      cond (eqb (number x) 0) (every (λ y. eqb (number y) 0) xs) (ltb m (number x) && rising number (number x) xs)

  -- there is no free place, and the numbers are above m and strictly rise
  unfoldable pub increasing : (A → ℕ) → ℕ → List A → Bool
  increasing number m [] = true
  increasing number m (x ∷ xs) = ltb m (number x) && increasing number (number x) xs

  -- ---- selections

  -- the first entry that passes the test, or d
  unfoldable pub first : (A → Bool) → A → List A → A
  first p d [] = d
  first p d (x ∷ xs) = cond (p x) x (first p d xs)

  -- the place of the first entry that passes the test, or the length
  unfoldable pub position : (A → Bool) → List A → ℕ
  position p [] = 0
  position p (x ∷ xs) = cond (p x) 0 (suc (position p xs))

  -- the last entry that passes the test, or d
  unfoldable pub final : (A → Bool) → A → List A → A
  final p d [] = d
  final p d (x ∷ xs) = final p (cond (p x) x d) xs

  -- the entries that pass the test, in order
  unfoldable pub filter : (A → Bool) → List A → List A
  filter p [] = []
  filter p (x ∷ xs) = cond (p x) (x ∷ filter p xs) (filter p xs)

  -- a number of each entry, added up
  unfoldable pub total : (A → ℕ) → List A → ℕ
  total f [] = 0
  total f (x ∷ xs) = f x + total f xs

  -- what stands at the places whose mark is true
  unfoldable pub select : List Bool → List A → List A
  select [] xs = []
  select (m ∷ ms) [] = []
  select (m ∷ ms) (x ∷ xs) = cond m (x ∷ select ms xs) (select ms xs)

  -- ---- changes of a queue

  -- the entries that pass the test are taken out, and a free place is added at the end for each
  unfoldable pub without : (A → Bool) → A → List A → List A
  without p free [] = []
  without p free (x ∷ xs) = cond (p x) (without p free xs ++ free ∷ []) (x ∷ without p free xs)

  -- the first entry is taken out, and a free place is added at the end
  unfoldable pub shifted : A → List A → List A
  shifted free [] = []
  shifted free (x ∷ xs) = xs ++ free ∷ []

  -- e stands in the first place that passes the test
  unfoldable pub placed : (A → Bool) → A → List A → List A
  placed p e [] = []
  placed p e (x ∷ xs) = cond (p x) (e ∷ xs) (x ∷ placed p e xs)

  -- the first entry that passes the test, and every one after it, gives up its place
  unfoldable pub cut : (A → Bool) → A → List A → List A
  cut p free [] = []
  cut p free (x ∷ xs) = cond (p x) (free ∷ replicate (length xs) free) (x ∷ cut p free xs)

  -- each entry that passes the test is changed
  unfoldable pub changed : (A → Bool) → (A → A) → List A → List A
  changed p g [] = []
  changed p g (x ∷ xs) = cond (p x) (g x) x ∷ changed p g xs

-- What is claimed of the study: closed statements.
use Rattle.std.specs.Prelude.{ℕ, ◌+◌, ◌*◌, ◌<◌, ◌≤◌, ◌≡◌, true, false, List, map, ltb, get_or}
use Rattle.rules.specs.Shape.{sets_allowed, ways_allowed}
use Rattle.study.specs.Study.{hits, per_thousand, rate_of}
use Rattle.study.specs.Stack.{distances}

-- "Every item that hits with some ways also hits with more.": item k, from 0
unfoldable pub Inclusion : Type 0
Inclusion =
    (sets v w : ℕ) (items : List ℕ) → sets_allowed sets ≡ true → ways_allowed v ≡ true → ways_allowed w ≡ true → v ≤ w → (k : ℕ)
    → get_or (hits sets v items) k false ≡ true → get_or (hits sets w items) k false ≡ true

-- an item hits exactly with the ways above the stack distance of its line
unfoldable pub HitsByDistance : Type 0
HitsByDistance =
    (sets ways : ℕ) (items : List ℕ) → sets_allowed sets ≡ true → ways_allowed ways ≡ true
    → hits sets ways items ≡ map (λ d. ltb d ways) (distances sets items)

-- "rounded half up", by inequalities: h hits of n items lie at 1000 h / n, and r - 1/2 ≤ 1000 h / n < r + 1/2 (here times 2 n)
pub record HalfUp (h n r : ℕ) : Type 0 where
  pub low : 2 * n * r ≤ 2 * (per_thousand * h) + n
  pub high : 2 * (per_thousand * h) < 2 * n * r + n

-- the rate is so rounded, and no other number is; "an empty list gives zeros"
unfoldable pub RatesNearest : Type 0
RatesNearest =
    ((h n : ℕ) → 0 < n → HalfUp h n (rate_of h n) × ((r : ℕ) → HalfUp h n r → r ≡ rate_of h n))
    × ((h : ℕ) → rate_of h 0 ≡ 0)

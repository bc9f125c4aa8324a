-- A list in parts of the same length, as `as_chunks` gives it, and lists that are the same byte by byte.
use Prim.Native.Nat.{ℕ, zero, suc, ◌+◌, ◌*◌, ◌<◌, ◌≤◌}
use mathlib.Core.Path.{◌≡◌, refl, ap, ◌∙◌}
use mathlib.Core.List.{List, []}
use native.Mathlib.Omega.{arith}
use native.Mathlib.Nat.{mul-suc}
use lib.ListN.{length, get_or, drop, length-drop}
use lib.Seq.{length-take-le}
use Rattle.std.proofs.Common.{rules}
use Rattle.std.specs.Simd.{first_chunks}
use Rattle.std.proofs.lemmas.List.{places}

module _ (n : ℕ) where
  pub chunks-long : (k : ℕ) (xs : List ℕ) → length (first_chunks n k xs) ≡ k
  chunks-long zero xs = refl
  chunks-long (suc k) xs = ap suc (chunks-long k (drop n xs))

  -- part i
  pub chunk-long : (k : ℕ) (xs : List ℕ) (i : ℕ) → i < k → n * k ≤ length xs → length (get_or (first_chunks n k xs) i []) ≡ n
  chunk-long zero xs i h l = absurd (omega arith)
  chunk-long (suc k) xs zero h l = length-take-le n xs (omega (arith, mul-suc n k))
  chunk-long (suc k) xs (suc i) h l = chunk-long k (drop n xs) i (omega arith) (omega (arith, mul-suc n k, length-drop n xs))

  -- its element j
  pub chunk-at :
      (k : ℕ) (xs : List ℕ) (i j : ℕ) → i < k → j < n → get_or (get_or (first_chunks n k xs) i []) j 0 ≡ get_or xs (n * i + j) 0
  chunk-at zero xs i j h l = absurd (omega arith)
  chunk-at (suc k) xs zero j h l = let z : n * 0 + j ≡ j = omega arith in rw z (search (rules, places))
  chunk-at (suc k) xs (suc i) j h l =
      let z : n * suc i + j ≡ n + (n * i + j) = omega (arith, mul-suc n i) in
      rw z (chunk-at k (drop n xs) i j (omega arith) l ∙ search (rules, places))

-- The rate by its inequalities: the formula meets them, and no other number does.
use Prim.Native.Nat.{ℕ, ◌+◌, ◌*◌, ◌/◌, ◌%◌, ◌<◌, ◌≤◌}
use mathlib.Core.Path.{◌≡◌, refl}
use native.Mathlib.Nat.{mul-suc, mul-le-mul_left, mod-lt, div-add-mod}
use native.Mathlib.Omega.{arith}
use borrow.Author.Tests.{ne_eqb}
use Rattle.study.specs.Study.{per_thousand, rate_of}
use Rattle.study.specs.Claims.{HalfUp, RatesNearest}

-- a multiple of b by a greater number is at least b more
least : (b r k : ℕ) → r < k → b * r + b ≤ b * k
least b r k h = rw (← mul-suc b r) (mul-le-mul_left b h)

-- neither is the smaller
level : (j k : ℕ) → (j < k → ⊥) → (k < j → ⊥) → j ≡ k
level j k p q = omega arith

module _ (h n : ℕ) (some : 0 < n) where
  abbrev x : ℕ
  x = 2 * (per_thousand * h) + n

  abbrev b : ℕ
  b = 2 * n

  abbrev q : ℕ
  q = x / b

  parts : b * q + x % b ≡ x
  parts = div-add-mod x b

  part : x % b < b
  part = mod-lt x (omega arith)

  up : HalfUp h n q
  up = record { low = omega (arith, parts); high = omega (arith, parts, part) }

  up-less : (r s : ℕ) → HalfUp h n r → HalfUp h n s → r < s → ⊥
  up-less r s p t l = omega (arith, p.high, t.low, least b r s l)

nearest : (h n : ℕ) → 0 < n → HalfUp h n (rate_of h n) × ((r : ℕ) → HalfUp h n r → r ≡ rate_of h n)
unfolding rate_of
nearest h n some =
    rw (ne_eqb n 0 (λ e. omega arith))
    (up h n some, λ r p. level r _ (up-less h n some r _ p (up h n some)) (up-less h n some _ r (up h n some) p))

pub rates-nearest : RatesNearest
unfolding RatesNearest rate_of
rates-nearest = (nearest, λ h. refl)

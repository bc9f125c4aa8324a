-- Laws of `cond` and of tests.
use Prim.Native.Nat.{ℕ, ◌≤◌}
use mathlib.Core.Path.{◌≡◌, refl, sym, ◌∙◌}
use mathlib.Core.Bool.{Bool, true, false, cond, ◌&&◌, ◌||◌}
use native.Mathlib.Omega.{arith}
use lib.Dec.{T, leb}
use borrow.Author.Tests.{le-leb}

-- two choices by equal tests, the first the image of the second
pub both : {A B : Type 0} (f : B → A) {s t : Bool} {x y : A} {u v : B} → s ≡ t → (t ≡ true → x ≡ f u) → (t ≡ false → y ≡ f v) → cond s x y ≡ f (cond t u v)
both f {s} {t} {x} {y} {u} {v} e l r = rw e (go t l r)
  where
    go : (t : Bool) → (t ≡ true → x ≡ f u) → (t ≡ false → y ≡ f v) → cond t x y ≡ f (cond t u v)
    go true l r = l refl
    go false l r = r refl

-- a fact of a choice
pub either : {A : Type 0} (P : A → Type 0) (t : Bool) {x y : A} → (t ≡ true → P x) → (t ≡ false → P y) → P (cond t x y)
either P true l r = l refl
either P false l r = r refl

pub cases : {P : Type 0} (t : Bool) → (t ≡ true → P) → (t ≡ false → P) → P
cases true l r = l refl
cases false l r = r refl

pub and_left : (a b : Bool) → (a && b) ≡ true → a ≡ true
and_left true b e = refl
and_left false b e = e

pub and_right : (a b : Bool) → (a && b) ≡ true → b ≡ true
and_right true b e = e
and_right false b e = cc

pub or_left : (a b : Bool) → (a || b) ≡ false → a ≡ false
or_left true b e = e
or_left false b e = refl

pub or_right : (a b : Bool) → (a || b) ≡ false → b ≡ false
or_right true b e = cc
or_right false b e = e

pub truth : (t : Bool) → T t → t ≡ true
truth true h = refl
truth false h = absurd h

pub and_both : (a b : Bool) → a ≡ true → b ≡ true → (a && b) ≡ true
and_both a b e f = rw (e, f)

pub or-one : (a b : Bool) → a ≡ true → (a || b) ≡ true
or-one a b e = rw e

pub or-two : (a b : Bool) → b ≡ true → (a || b) ≡ true
or-two true b e = refl
or-two false b e = e

-- what holds if the first does not
pub or-then : (a b : Bool) → (a || b) ≡ true → a ≡ false → b ≡ true
or-then a b e f = rw f at e

pub or-by : (a b : Bool) → (a ≡ false → b ≡ true) → (a || b) ≡ true
or-by true b h = refl
or-by false b h = h refl

pub none_or : (a b : Bool) → a ≡ false → b ≡ false → (a || b) ≡ false
none_or a b e f = rw (e, f)

-- a test that passes and fails
pub wrong : {P : Type 0} {t : Bool} → t ≡ true → t ≡ false → P
wrong p q = let z : true ≡ false = sym p ∙ q in let y : ◌≡◌ {A = ℕ} 0 1 = cc in let no : ⊥ = omega arith in absurd no

-- ---- choices by a test that is known

module _ {A : Type 0} {t : Bool} (x y : A) where
  pub cond-then : t ≡ true → x ≡ cond t x y
  cond-then e = rw e

  pub cond-else : t ≡ false → y ≡ cond t x y
  cond-else e = rw e

module _ {A : Type 0} (n k : ℕ) (x y : A) where
  pub leb-then : n ≤ k → x ≡ cond (leb n k) x y
  leb-then h = cond-then x y (le-leb n k h)

-- Tables of tag records: sets do not share slots; a table in which one record was written; two tables with the same lines.
use mathlib.Core.Path.{◌≡◌, sym, subst}
use mathlib.Core.List.{List}
use Prim.Native.Nat.{ℕ, ◌+◌, ◌*◌, ◌<◌, ◌≤◌}
use native.Mathlib.Nat.{suc-mul, mul-le-mul_right}
use native.Mathlib.Omega.{arith}
use native.Mathlib.Decide.{ℕ_discrete, dec_lt}
use lib.ListN.{length, set}
use lib.Seq.{set_out, get_or-set_same, get_or-set_other}
use Rattle.rules.specs.declared.Tag.{Tag}
use Rattle.rules.specs.Shape.{no_tag, tag_at}

-- the slots of a set end before those of a later one
pub set_room : (s t w : ℕ) → s < t → s * w + w ≤ t * w
set_room s t w h = rw (← suc-mul) (mul-le-mul_right w h)

-- no slot is one of two sets
pub sets-apart : (s t w k : ℕ) → (s ≡ t → ⊥) → s * w ≤ k → k < s * w + w → t * w ≤ k → k < t * w + w → ⊥
sets-apart s t w k d p q m n =
    elim (dec_lt s t) [
      | yes h ↦ omega (arith, set_room s t w h)
      | no h ↦ let h' : t < s = omega arith in omega (arith, set_room t s w h')
    ]

-- a fact of each record of a table in which one was written
pub at_set :
    (tags : List Tag) (v : ℕ) (t : Tag) → v < length tags → (P : ℕ → Tag → Type 0) → P v t
    → ((k : ℕ) → (k ≡ v → ⊥) → P k (tag_at tags k)) → (k : ℕ) → P k (tag_at (set tags v t) k)
at_set tags v t h P x y k =
    elim (ℕ_discrete k v) [
      | yes e ↦ subst (λ (j : ℕ). P j (tag_at (set tags v t) j)) (sym e) (subst (P v) (sym (get_or-set_same tags v t no_tag h)) x)
      | no d ↦ subst (P k) (sym (get_or-set_other tags v k t no_tag d)) (y k d)
    ]

-- a fact of each record is one still where a record that has it is written, in the table or past it
pub still-set :
    (tags : List Tag) (v : ℕ) (t : Tag) (P : ℕ → Tag → Type 0) → P v t → ((k : ℕ) → P k (tag_at tags k)) → (k : ℕ)
    → P k (tag_at (set tags v t) k)
still-set tags v t P x y k =
    elim (dec_lt v (length tags)) [
      | yes h ↦ at_set tags v t h P x (λ k d. y k) k
      | no h ↦ rw (set_out tags v t (omega arith)) (y k)
    ]

-- the same lines are valid in the same slots
pub record SameLines (old new : List Tag) : Type 0 where
  pub valid : (k : ℕ) → (tag_at new k).valid ≡ (tag_at old k).valid
  pub line : (k : ℕ) → (tag_at new k).line ≡ (tag_at old k).line

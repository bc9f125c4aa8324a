-- A word that was asked for, a mark that is set, and how many are set.
use mathlib.Core.Path.{◌≡◌, refl, sym, ◌∙◌}
use mathlib.Core.Bool.{Bool, ◌&&◌}
use Prim.Native.Nat.{ℕ, ◌+◌, ◌*◌, ◌/◌, ◌%◌, ◌^◌, ◌<◌, ◌≤◌}
use native.Mathlib.Omega.{arith}
use lib.Dec.{ltb}
use lib.Bits.{bit_and}
use lib.Count.{ones, ones_step, ones-le}
use borrow.Author.Tests.{lt-ltb, eqb-true, eqb-false}
use Rattle.std.specs.Int.Bits.{bit_or, or_add_and}
use Rattle.std.proofs.Math.Pow.{pow_mono}
use Rattle.std.proofs.lemmas.Nat.{and_mask}
use Rattle.std.proofs.lemmas.Nat.Bits.{and_pow}
use Rattle.lists.proofs.Cond.{cases}
use Rattle.rules.specs.Lines.{is_dirty_word, with_mark, mark_count}

-- what `is_dirty` answers of one of the four words
pub told-word : (d n : ℕ) {r : Bool} → n < 4 → r ≡ (ltb n 4 && is_dirty_word d n) → is_dirty_word d n ≡ r
told-word d n h e = sym (e ∙ rw (lt-ltb n 4 h))

-- `marks | 1 << n`
pub mark-set : (d n : ℕ) → n < 4 → bit_or d (1 * 2 ^ n % 256) ≡ with_mark n d
unfolding with_mark is_dirty_word
mark-set d n h =
    let small : 2 ^ n ≤ 2 ^ 3 = pow_mono {i = n} {j = 3} (omega arith) in
    let weight : 1 * 2 ^ n % 256 ≡ 2 ^ n = omega arith in
    let sum : bit_or d (2 ^ n) + d / 2 ^ n % 2 * 2 ^ n ≡ d + 2 ^ n = rw (and_pow d n) at (or_add_and d (2 ^ n)) in
    cases (is_dirty_word d n)
    (λ e. let one : d / 2 ^ n % 2 ≡ 1 = eqb-true _ 1 e in rw (weight, e) (let s : bit_or d (2 ^ n) + 1 * 2 ^ n ≡ d + 2 ^ n = rw one at sum in omega arith))
    (λ e.
    let zero : d / 2 ^ n % 2 ≡ 0 = omega (arith, eqb-false (d / 2 ^ n % 2) 1 e) in
    rw (weight, e) (let s : bit_or d (2 ^ n) + 0 * 2 ^ n ≡ d + 2 ^ n = rw zero at sum in omega arith))

-- `(marks & ALL_MARKS).count_ones()`
pub four-ones : (d : ℕ) → (ones (bit_and d 15) ≡ mark_count d) × (ones (bit_and d 15) ≤ 4)
unfolding mark_count ones
four-ones d =
    let low : bit_and d 15 ≡ d % 16 = and_mask d 4 in
    let s0 = ones_step (d % 16) in
    let s1 = ones_step (d % 16 / 2) in
    let s2 = ones_step (d % 16 / 2 / 2) in
    let s3 = ones_step (d % 16 / 2 / 2 / 2) in
    let none : d % 16 / 2 / 2 / 2 / 2 ≡ 0 = omega arith in
    let z : ones (d % 16 / 2 / 2 / 2 / 2) ≡ 0 = rw none refl in
    rw low (omega arith, ones-le 4 (d % 16) (omega arith))

-- The dirty marks and the bytes of their words: all that the proofs of the rules know of `is_dirty_word`, `with_mark`,
-- `dirty_at`, `is_dirty` and `marked`.
-- The marks are a number below 16, so one test over all of them and all words tells what setting a mark does.
use mathlib.Core.Path.{◌≡◌, refl, sym, ◌∙◌}
use mathlib.Core.Bool.{Bool, true, false, cond, not, ◌&&◌, ◌||◌}
use Prim.Native.Nat.{ℕ, ◌+◌, ◌/◌, ◌%◌, ◌^◌, ◌<◌, ◌≤◌}
use native.Mathlib.Nat.{zero-div}
use native.Mathlib.Omega.{arith}
use lib.Dec.{leb, eqb}
use borrow.Author.Tests.{ltb-true, leb-true, eqb-true, eqb-false, eq-eqb, not-false}
use Rattle.lists.specs.Counted.{all_from}
use Rattle.lists.specs.Bytes.{among}
use Rattle.lists.proofs.Cond.{either, cases, and_left, and_right, or_left, or_right, or-one, or-then, wrong}
use Rattle.lists.proofs.Counting.{all-at}
use Rattle.rules.specs.declared.Tag.{Tag}
use Rattle.rules.specs.declared.StoreEntry.{StoreEntry}
use Rattle.rules.specs.declared.WritePolicy.{WritePolicy}
use Rattle.rules.specs.declared.WritePolicy.TheVariants.{WriteBack, WriteThrough}
use Rattle.rules.specs.Shape.{all_marks, no_tag, with_age, is_through}
use Rattle.rules.specs.Lines.{word_of, mark_at, is_dirty_word, with_mark, mark_count, words_of, dirty_at, is_dirty, marked, cleaned}

-- ---- a mark

-- it is 0 or 1
pub mark-is : (d n : ℕ) → cond (is_dirty_word d n) 1 0 ≡ mark_at d n
unfolding is_dirty_word
mark-is d n =
    either (λ r. r ≡ mark_at d n) (eqb (mark_at d n) 1) (λ e. sym (eqb-true (mark_at d n) 1 e)) (λ e. let other = eqb-false (mark_at d n) 1 e in omega arith)

-- ---- a mark is set

-- two tests agree
abbrev agree : Bool → Bool → Bool
agree s t = cond s t (not t)

agree-tells : (s t : Bool) → agree s t ≡ true → s ≡ t
agree-tells true t e = sym e
agree-tells false true e = e
agree-tells false false e = refl

-- marks d, and that of word n set: word r is dirty if it is n or was dirty; and there is no fifth mark
abbrev set_right : ℕ → ℕ → ℕ → Bool
set_right d n r = agree (is_dirty_word (with_mark n d) r) (eqb n r || is_dirty_word d r) && leb (with_mark n d) all_marks

set-table : all_from (λ d. all_from (λ n. all_from (λ r. set_right d n r) 0 4) 0 4) 0 16 ≡ true
unfolding all_from is_dirty_word with_mark
set-table = refl

module _ (d n r : ℕ) (d-in : d ≤ 15) (n-in : n < 4) (r-in : r < 4) where
  set-right : set_right d n r ≡ true
  set-right =
      all-at _ 4 0 (all-at _ 4 0 (all-at _ 16 0 set-table d (omega arith) (omega arith)) n (omega arith) (omega arith)) r (omega arith) (omega arith)

  pub set_tells : is_dirty_word (with_mark n d) r ≡ (eqb n r || is_dirty_word d r)
  set_tells = agree-tells _ _ (and_left _ _ set-right)

  set-few : with_mark n d ≤ 15
  set-few = leb-true (with_mark n d) 15 (and_right (agree (is_dirty_word (with_mark n d) r) (eqb n r || is_dirty_word d r)) _ set-right)

-- where no mark is set, no word is dirty
pub no_word : (n : ℕ) → is_dirty_word 0 n ≡ false
unfolding is_dirty_word
no_word n = rw (zero-div (2 ^ n))

-- ---- a record and its bytes

-- the marks of a clean record are 0
pub no-mark : (t : Tag) → is_dirty t ≡ false → t.dirty ≡ 0
no-mark t e = eqb-true t.dirty 0 (not-false _ e)

module _ (t : Tag) (i : ℕ) where
  -- of a clean record no byte is dirty
  pub clean-byte : is_dirty t ≡ false → dirty_at t i ≡ false
  unfolding dirty_at
  clean-byte e = rw (no-mark t e) (no_word (i / 4))

  -- a record with a dirty byte is dirty
  pub dirty-byte : dirty_at t i ≡ true → is_dirty t ≡ true
  dirty-byte d = cases (is_dirty t) (λ e. e) (λ e. wrong d (clean-byte e))

  -- a use leaves the marks
  pub aged-byte : (x : ℕ) → dirty_at (with_age x t) i ≡ dirty_at t i
  unfolding dirty_at
  aged-byte x = refl

  -- a byte that is clean after a store was marked was clean, and with write-back it is none of the store's, which stands in one word
  pub marked-tells :
      (w : WritePolicy) (s : StoreEntry) → t.dirty ≤ 15 → s.address % 4 + s.width ≤ 4 → i < 16 → dirty_at (marked w s t) i ≡ false
      → (dirty_at t i ≡ false) × (is_through w ≡ false → among (s.address % 16) s.width i ≡ false)
  unfolding dirty_at
  marked-tells WriteBack s few in-word h d =
      let n = word_of s.address in
      let e = sym (set_tells t.dirty n (i / 4) few (omega arith) (omega arith)) ∙ d in
      (or_right (eqb n (i / 4)) _ e, λ b. other_word s in-word (eqb-false n (i / 4) (or_left _ _ e)))
    where
      other_word :
          (s : StoreEntry) → s.address % 4 + s.width ≤ 4 → (word_of s.address ≡ i / 4 → ⊥) → among (s.address % 16) s.width i ≡ false
      other_word s in-word other =
          cases (among (s.address % 16) s.width i)
          (λ e.
          let low = leb-true (s.address % 16) i (and_left _ _ e) in
          let high = ltb-true i (s.address % 16 + s.width) (and_right (leb (s.address % 16) i) _ e) in
          absurd (other (omega arith)))
          (λ e. e)
  marked-tells WriteThrough s few in-word h d = (d, λ e. wrong refl e)

-- the byte of an address is dirty if its word is
pub byte_word : (t : Tag) (a : ℕ) → dirty_at t (a % 16) ≡ is_dirty_word t.dirty (word_of a)
unfolding dirty_at
byte_word t a = refl

pub aged-dirty : (t : Tag) (x : ℕ) → is_dirty (with_age x t) ≡ is_dirty t
aged-dirty t x = refl

-- a store sets no fifth mark
pub marked-few : (w : WritePolicy) (s : StoreEntry) (t : Tag) → t.dirty ≤ 15 → (marked w s t).dirty ≤ 15
marked-few WriteBack s t few = set-few t.dirty (word_of s.address) 0 few (omega arith) (omega arith)
marked-few WriteThrough s t few = few

-- with write-back it marks its word,
pub marked-here :
    (w : WritePolicy) (s : StoreEntry) (t : Tag) → t.dirty ≤ 15 → is_through w ≡ false → is_dirty_word (marked w s t).dirty (word_of s.address) ≡ true
marked-here WriteBack s t few back =
    let n = word_of s.address in
    set_tells t.dirty n n few (omega arith) (omega arith) ∙ or-one _ _ (eq-eqb n n refl)
marked-here WriteThrough s t few back = wrong refl back

-- and it makes no other clean word dirty
pub marked-new :
    (w : WritePolicy) (s : StoreEntry) (t : Tag) (n : ℕ) → t.dirty ≤ 15 → n < 4 → is_dirty_word t.dirty n ≡ false
    → is_dirty_word (marked w s t).dirty n ≡ true → (is_through w ≡ false) × (n ≡ word_of s.address)
marked-new WriteBack s t n few n-in clean e =
    let m = word_of s.address in
    let dirty-or = sym (set_tells t.dirty m n few (omega arith) n-in) ∙ e in
    (refl, cases (eqb m n) (λ h. sym (eqb-true m n h)) (λ h. wrong (or-then (eqb m n) _ dirty-or h) clean))
marked-new WriteThrough s t n few n-in clean e = wrong e clean

-- with write-through a clean line stays clean
pub marked-clean : (w : WritePolicy) (s : StoreEntry) (t : Tag) → is_through w ≡ true → is_dirty t ≡ false → is_dirty (marked w s t) ≡ false
marked-clean WriteBack s t h d = wrong h refl
marked-clean WriteThrough s t h d = d

-- a line that was written back is clean
pub cleaned-clean : (t : Tag) → is_dirty (cleaned t) ≡ false
cleaned-clean t = refl

pub no-tag-clean : is_dirty no_tag ≡ false
no-tag-clean = refl

pub no-tag-few : no_tag.dirty ≤ 15
no-tag-few = omega arith

-- a clean line has fewer than five marks, and no dirty word
pub clean-few : (t : Tag) → is_dirty t ≡ false → t.dirty ≤ 15
clean-few t e = omega (arith, no-mark t e)

pub clean-words : (t : Tag) → is_dirty t ≡ false → words_of t ≡ 0
unfolding mark_count
clean-words t e = rw (no-mark t e)

-- Bytes written one after the other, and the digits of a number.
use Prim.Native.Nat.{ℕ, zero, suc, ◌+◌, ◌/◌, ◌%◌, ◌^◌, ◌≤◌, ◌<◌}
use mathlib.Core.Path.{◌≡◌, refl, sym, ◌∙◌, ap}
use mathlib.Core.List.{List, [], ◌∷◌, ◌++◌, append_assoc}
use native.Mathlib.Nat.{pow-suc}
use native.Mathlib.Omega.{arith}
use mathlib.Core.Bool.{true, false}
use lib.Dec.{ltb, leb}
use lib.ListN.{length, take, set, length-append}
use lib.Seq.{sets, sets-eq, drop-drop}
use borrow.Rule.Slice.PartMut.{put_mid}
use borrow.Author.Tests.{lt-ltb, le-ltb, ltb-true, ltb-false}
use Rattle.lists.proofs.Cond.{cases, either}
use Rattle.script.specs.Commands.{first_digit}
use Rattle.script.specs.Words.{digits, printed}
use Rattle.script_text.specs.Written.{Wrote, line_room, in_room}

-- ---- one after the other

pub sets-append : (xs ys l : List ℕ) (i : ℕ) → sets l i (xs ++ ys) ≡ sets (sets l i xs) (i + length xs) ys
sets-append [] ys l i = let e : i + 0 ≡ i = omega arith in rw e
sets-append (x ∷ xs) ys l i =
    let e : i + suc (length xs) ≡ suc i + length xs = omega arith in
    rw e (sets-append xs ys (set l i x) (suc i))

pub wrote_none : (at : ℕ) (l : List ℕ) → Wrote at [] l l at
wrote_none at l = record { bytes = refl; next = omega arith }

pub wrote_then : {at p q : ℕ} {xs ys l m o : List ℕ} → Wrote at xs l m p → Wrote p ys m o q → Wrote at (xs ++ ys) l o q
wrote_then {at} {p} {q} {xs} {ys} {l} {m} {o} f g =
    record {
      bytes = g.bytes ∙ rw (f.bytes, f.next) (sym (sets-append xs ys l at));
      next = omega (arith, length-append xs ys);
    }

-- a word copied into its place
pub word_copied : (at k : ℕ) (l xs word : List ℕ) → k ≡ length word → xs ≡ word → at + length word ≤ length l → put_mid at k l xs ≡ sets l at word
word_copied at k l xs word ke e h = rw (ke, e, drop-drop (length word) at l) (sym (sets-eq word l at h ∙ append_assoc (take at l) word _))

-- ---- digits

digits-one : (k n : ℕ) → n < 10 → (first_digit + n) ∷ [] ≡ digits (suc k) n
unfolding digits
digits-one k n h = rw (lt-ltb n 10 h)

digits_step : (k n : ℕ) → 10 ≤ n → digits k (n / 10) ++ ((first_digit + n % 10) ∷ []) ≡ digits (suc k) n
unfolding digits
digits_step k n h = rw (le-ltb n 10 h)

-- more places than a number needs change nothing
digits_more : (k n : ℕ) → n < 10 ^ suc k → digits (suc k) n ≡ digits (suc (suc k)) n
digits_more zero n h = sym (digits-one 0 n (omega arith)) ∙ digits-one 1 n (omega arith)
digits_more (suc k) n h = cases (ltb n 10)
    (λ t. sym (digits-one (suc k) n (ltb-true n 10 t)) ∙ digits-one (suc (suc k)) n (ltb-true n 10 t))
    (λ t. let more = digits_more k (n / 10) (omega (arith, pow-suc 10 (suc k))) in
    sym (digits_step (suc k) n (ltb-false n 10 t)) ∙ ap (λ (l : List ℕ). l ++ ((first_digit + n % 10) ∷ [])) more
    ∙ digits_step (suc (suc k)) n (ltb-false n 10 t))

pub printed-one : (n : ℕ) → n < 10 → (first_digit + n) ∷ [] ≡ printed n
printed-one n h = digits-one 9 n h

pub printed-more : (n : ℕ) → 10 ≤ n → n < 2 ^ 32 → printed (n / 10) ++ ((first_digit + n % 10) ∷ []) ≡ printed n
printed-more n l h = ap (λ (l : List ℕ). l ++ ((first_digit + n % 10) ∷ [])) (sym (digits_more 8 (n / 10) (omega arith))) ∙ digits_step 9 n l

pub printed-longer : (n : ℕ) → 10 ≤ n → n < 2 ^ 32 → length (printed n) ≡ length (printed (n / 10)) + 1
printed-longer n l h = sym (ap length (printed-more n l h)) ∙ length-append (printed (n / 10)) ((first_digit + n % 10) ∷ [])

digits-short : (k n : ℕ) → length (digits k n) ≤ k
unfolding digits
digits-short zero n = omega arith
digits-short (suc k) n = either (λ (l : List ℕ). length l ≤ suc k) (ltb n 10) (λ _. omega arith)
    (λ _. omega (arith, length-append (digits k (n / 10)) ((first_digit + n % 10) ∷ []), digits-short k (n / 10)))

pub printed-short : (n : ℕ) → length (printed n) ≤ 10
printed-short n = digits-short 10 n

-- ---- room

pub no_room : {at : ℕ} {out : List ℕ} (bytes : List ℕ) → false ≡ leb (at + line_room) (length out) → Wrote at (in_room at out bytes) out out at
unfolding in_room
no_room {at} {out} bytes e = rw (← e) (wrote_none at out)

pub with-room : {at r : ℕ} {out bytes o : List ℕ} → true ≡ leb (at + line_room) (length out) → Wrote at bytes out o r → Wrote at (in_room at out bytes) out o r
unfolding in_room
with-room e w = rw (← e) w

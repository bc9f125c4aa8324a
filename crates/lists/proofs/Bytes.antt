-- Laws of bytes, for a general width: bytes put into a list and read again, a value put together from known bytes.
use Prim.Native.Nat.{ℕ, zero, suc, ◌+◌, ◌*◌, ◌-◌, ◌/◌, ◌%◌, ◌^◌, ◌≤◌, ◌<◌}
use mathlib.Core.Path.{◌≡◌, refl, sym, ◌∙◌, ap, ap₂}
use mathlib.Core.Bool.{Bool, true, false, cond, not}
use mathlib.Core.List.{List}
use mathlib.Core.Option.{Option, some, none}
use native.Mathlib.Nat.{pow-suc, pow-succ', pow-le-pow_right, div-div-eq-div-mul, div-one, div-eq_of_lt}
use native.Mathlib.Omega.{arith}
use lib.Dec.{ltb, leb, eqb}
use lib.ListN.{length, get_or, length-set}
use lib.Pow.{pow-add}
use lib.Seq.{get_or-set_same, get_or-set_other}
use borrow.Author.Tests.{ltb-true, ltb-false, leb-true, eqb-true, eqb-false, lt-ltb, le-ltb, le-leb}
use Rattle.lists.specs.Counted.{all_from, some_from}
use Rattle.lists.specs.Bytes.{byte_of, among, put, value_at, add_byte, gather}
use Rattle.lists.proofs.Cond.{cases, and_both}

-- ---- bytes put into a list

pub put-length : (w x v : ℕ) (m : List ℕ) → length (put w x v m) ≡ length m
unfolding put
put-length zero x v m = refl
put-length (suc w) x v m = length-set (put w x v m) (x + w) (byte_of w v) ∙ put-length w x v m

among_none : (x a : ℕ) → among x 0 a ≡ false
among_none x a = cases (leb x a) (λ e. rw e (le-ltb a (x + 0) (omega (arith, leb-true x a e)))) (λ e. rw e)

among-top : (x w : ℕ) → among x (suc w) (x + w) ≡ true
among-top x w = and_both (leb x (x + w)) _ (le-leb x (x + w) (omega arith)) (lt-ltb (x + w) (x + suc w) (omega arith))

among-less : (x w a : ℕ) → (a ≡ x + w → ⊥) → among x (suc w) a ≡ among x w a
among-less x w a ne = cases (ltb a (x + w))
    (λ e. rw (e, lt-ltb a (x + suc w) (omega (arith, ltb-true a (x + w) e))))
    (λ e. rw (e, le-ltb a (x + suc w) (omega (arith, ltb-false a (x + w) e))))

pub put_byte : (w x v : ℕ) (m : List ℕ) (a : ℕ) → a < length m → get_or (put w x v m) a 0 ≡ cond (among x w a) (byte_of (a - x) v) (get_or m a 0)
unfolding put
put_byte zero x v m a h = rw (among_none x a)
put_byte (suc w) x v m a h = cases (eqb a (x + w))
    (λ e.
    let k : a ≡ x + w = eqb-true a (x + w) e in
    let n : (x + w) - x ≡ w = omega arith in
    let h' : x + w < length (put w x v m) = omega (arith, put-length w x v m) in
    rw (k, among-top x w, n) (get_or-set_same (put w x v m) (x + w) (byte_of w v) 0 h'))
    (λ e.
    let k : (a ≡ x + w → ⊥) = eqb-false a (x + w) e in
    get_or-set_other (put w x v m) (x + w) a (byte_of w v) 0 k ∙ put_byte w x v m a h ∙ ap (λ (t : Bool). cond t (byte_of (a - x) v) (get_or m a 0)) (sym (among-less x w a k)))

-- ---- a value put together from bytes

module _ (f : ℕ → Option ℕ) (p : ℕ → Bool) (m : List ℕ) where
  -- if each byte is known or not, and is then the byte of m, the value is known or not, and is then the value in m
  pub gather-known :
      (a w : ℕ) → ((x : ℕ) → a ≤ x → x < a + w → f x ≡ cond (p x) (some (get_or m x 0)) none)
      → gather f a w ≡ cond (all_from p a w) (some (value_at m a w)) none
  unfolding gather add_byte all_from value_at
  gather-known a zero h = refl
  gather-known a (suc w) h =
      ap₂ add_byte (h a (omega arith) (omega arith)) (gather-known (suc a) w (λ x l u. h x (omega arith) (omega arith)))
      ∙ cases (p a)
      (λ e. cases (all_from p (suc a) w) (λ t. rw (e, t)) (λ t. rw (e, t)))
      (λ e. rw e)

-- some byte is lacking if not each is known
pub some-lacking : (p r : ℕ → Bool) → ((x : ℕ) → r x ≡ not (p x)) → (a w : ℕ) → some_from r a w ≡ not (all_from p a w)
unfolding all_from some_from
some-lacking p r h a zero = refl
some-lacking p r h a (suc w) = cases (p a)
    (λ e. rw (h a, e) (some-lacking p r h (suc a) w))
    (λ e. rw (h a, e))

-- ---- what was put is what is read

-- bytes c, c + 1, .. of v, put together
bytes-value : (w c a v : ℕ) (m : List ℕ) → ((k : ℕ) → k < w → get_or m (a + k) 0 ≡ byte_of (c + k) v) → v / 256 ^ c < 256 ^ w → value_at m a w ≡ v / 256 ^ c
unfolding value_at byte_of
bytes-value zero c a v m h l = let z : v / 256 ^ c < 1 = l in omega arith
bytes-value (suc w) c a v m h l =
    let p : a + 0 ≡ a = omega arith in
    let q : c + 0 ≡ c = omega arith in
    let here : get_or m a 0 ≡ (v / 256 ^ c) % 256 = rw (p, q) at (h 0 (omega arith)) in
    let deeper : v / 256 ^ suc c ≡ v / 256 ^ c / 256 = ap (λ (n : ℕ). v / n) (pow-suc 256 c) ∙ sym (div-div-eq-div-mul v (256 ^ c) 256) in
    let power : 256 ^ suc w ≡ 256 * 256 ^ w = pow-succ' 256 w in
    let rest : value_at m (suc a) w ≡ v / 256 ^ suc c = bytes-value w (suc c) (suc a) v m (later h) (omega arith) in
    omega arith
  where
    later : ((k : ℕ) → k < suc w → get_or m (a + k) 0 ≡ byte_of (c + k) v) → (k : ℕ) → k < w → get_or m (suc a + k) 0 ≡ byte_of (suc c + k) v
    later f k lt =
        let p : a + suc k ≡ suc a + k = omega arith in
        let q : c + suc k ≡ suc c + k = omega arith in
        rw (p, q) at (f (suc k) (omega arith))

pub put-value : (w a v : ℕ) (m : List ℕ) → a + w ≤ length m → v < 256 ^ w → value_at (put w a v m) a w ≡ v
put-value w a v m inside small = bytes-value w 0 a v (put w a v m) stands (omega (arith, whole)) ∙ whole
  where
    whole : v / 256 ^ 0 ≡ v
    whole = div-one v

    stands : (k : ℕ) → k < w → get_or (put w a v m) (a + k) 0 ≡ byte_of (0 + k) v
    stands k lt =
        let p : (a + k) - a ≡ 0 + k = omega arith in
        put_byte w a v m (a + k) (omega arith)
        ∙ rw (and_both (leb a (a + k)) (ltb (a + k) (a + w)) (le-leb a (a + k) (omega arith)) (lt-ltb (a + k) (a + w) (omega arith)), p)

-- ---- bytes by a shift, and covered places by a difference

byte_power : (k : ℕ) → 2 ^ (8 * k) ≡ 256 ^ k
byte_power zero = refl
byte_power (suc k) =
    let e : 8 * suc k ≡ 8 * k + 8 = omega arith in
    ap (λ (n : ℕ). 2 ^ n) e ∙ pow-add 2 (8 * k) 8 ∙ ap (λ (n : ℕ). n * 256) (byte_power k) ∙ sym (pow-suc 256 k)

-- a value of w bytes has no others
pub byte_above : (w k v : ℕ) → v < 256 ^ w → w ≤ k → 0 ≡ byte_of k v
unfolding byte_of
byte_above w k v h l =
    let some : 0 < 256 = omega arith in
    let more : 256 ^ w ≤ 256 ^ k = pow-le-pow_right some l in
    let less : v < 256 ^ k = omega arith in
    sym (ap (λ (n : ℕ). n % 256) (div-eq_of_lt less))

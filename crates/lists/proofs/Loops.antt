-- Loops that go through the places of a list: a law for each kind of step and for the end.
-- A search leaves "the whole equals the rest": what holds of the list holds of what the loop has still to see, `drop i l`.
-- A loop that makes a list says what it has made of the first i places. `d` is what `get_or` gives past the end.
use Prim.Native.Nat.{ℕ, zero, suc, ◌+◌, ◌-◌, ◌≤◌, ◌<◌}
use mathlib.Core.Path.{◌≡◌, refl, sym, ◌∙◌, ap}
use mathlib.Core.Bool.{Bool, true, false, cond, not, ◌&&◌}
use mathlib.Core.List.{List, [], ◌∷◌, ◌++◌, append-nil, append_assoc}
use native.Mathlib.Numerals.{add-one}
use native.Mathlib.Omega.{arith}
use lib.Dec.{ltb, eqb}
use lib.ListN.{length, take, drop, get_or, set, replicate, drop_of_length-le, length-append, length-take, length-drop}
use lib.Seq.{drop-cons, take_all, take-suc, set-append_seam, set_out}
use borrow.Author.Tests.{eq-eqb, ne_eqb, lt-ltb, le-ltb, le-leb, lt-leb, ltb-true}
use Rattle.lists.specs.Padded.{every, rising, position, filter, without, shifted, placed}
use Rattle.lists.proofs.Selected.{filter-append, filter-most}
use Rattle.lists.proofs.Cond.{either, cases, and_left, and_right}

-- the tests of the code, as the tests of a definition: `search tests` closes a return that follows tests on numbers
pub ruleset tests = (eq-eqb, ne_eqb, lt-ltb, le-ltb, le-leb, lt-leb)

-- ---- searches

module _ {A : Type 0} (p : A → Bool) (d : A) (l : List A) (i : ℕ) where
  -- the next entry and what follows it
  pub rest-cons : i < length l → drop i l ≡ get_or l i d ∷ drop (i + 1) l
  rest-cons h = rw (add-one i) (drop-cons l i d h)

  pub rest-none : length l ≤ i → drop i l ≡ []
  rest-none h = drop_of_length-le l h

  pub every-end : length l ≤ i → every p (drop i l) ≡ true
  unfolding every
  every-end h = rw (rest-none h)

-- the places from i on, as a slice gives them
pub rest-slice : {A : Type 0} (i n : ℕ) (l : List A) → length l ≡ n → take (n - i) (drop i l) ≡ drop i l
rest-slice i n l len = take_all (n - i) (drop i l) (omega (arith, length-drop i l))

-- two tests that agree
pub every-same : {A : Type 0} (p r : A → Bool) → ((x : A) → p x ≡ r x) → (l : List A) → every p l ≡ every r l
unfolding every
every-same p r h [] = refl
every-same p r h (x ∷ l) = rw (h x, every-same p r h l)

-- ---- what the place of the first tells

module _ {A : Type 0} (p : A → Bool) where
  pub position-high : (l : List A) → position p l ≤ length l
  unfolding position
  position-high [] = omega arith
  position-high (x ∷ l) = either (λ (n : ℕ). n ≤ suc (length l)) (p x) (λ _. omega arith) (λ _. omega (arith, position-high l))

  pub position-placed : (y : A) (l : List A) → placed p y l ≡ set l (position p l) y
  unfolding position placed
  position-placed y [] = refl
  position-placed y (x ∷ l) = cases (p x) (λ e. rw e) (λ e. rw e (ap (λ (r : List A). x ∷ r) (position-placed y l)))

  -- what a search that ended at place k tells
  module _ (l : List A) (n k : ℕ) (len : length l ≡ n) (e : k ≡ position p l) where
    none : n ≤ k → length l ≤ k
    none h = omega arith

    pub found-placed : (y : A) → set l k y ≡ placed p y l
    found-placed y = rw e (sym (position-placed y l))

    pub none-placed : (y : A) → n ≤ k → l ≡ placed p y l
    none-placed y h = sym (position-placed y l ∙ rw (← e) (set_out l k y (none h)))

-- ---- numbers that rise up to the free places, with a test of each entry

module _ {A : Type 0} (number : A → ℕ) (d : A) (l : List A) (i : ℕ) where
  abbrev empty : A → Bool
  empty y = eqb (number y) 0

  module _ (g : A → Bool) (m : ℕ) where
    -- the next entry is free: so are the others, and each passes
    pub rise-free :
        i < length l → number (get_or l i d) ≡ 0
        → (rising number m (drop i l) && every g (drop i l)) ≡ every (λ y. empty y && g y) (drop i l)
    unfolding rising every
    rise-free h e =
        let t : empty (get_or l i d) ≡ true = eq-eqb _ 0 e in
        rw (rest-cons empty d l i h, t)
        (cases (g (get_or l i d)) (λ v. rw v (joined (drop (i + 1) l))) (λ v. rw v (and_none (every empty (drop (i + 1) l)))))
      where
        and_none : (b : Bool) → (b && false) ≡ false
        and_none true = refl
        and_none false = refl

        joined : (r : List A) → (every empty r && every g r) ≡ every (λ y. empty y && g y) r
        joined [] = refl
        joined (y ∷ r) = cases (empty y)
            (λ u. cases (g y) (λ v. rw (u, v) (joined r)) (λ v. rw (u, v) (and_none (every empty r))))
            (λ u. rw u)

    -- the next entry is in order and passes
    pub rise-next :
        i < length l → (ltb m (number (get_or l i d)) && g (get_or l i d)) ≡ true
        → (rising number m (drop i l) && every g (drop i l))
        ≡ (rising number (number (get_or l i d)) (drop (i + 1) l) && every g (drop (i + 1) l))
    unfolding rising every
    rise-next h e =
        let x : A = get_or l i d in
        let above : m < number x = ltb-true m (number x) (and_left _ _ e) in
        rw (rest-cons empty d l i h, ne_eqb (number x) 0 (λ z. omega arith), and_left (ltb m (number x)) _ e, and_right (ltb m (number x)) (g x) e)

    -- the next entry is in use, and out of order or fails
    pub rise-stop :
        i < length l → (number (get_or l i d) ≡ 0 → ⊥) → (ltb m (number (get_or l i d)) && g (get_or l i d)) ≡ false
        → (rising number m (drop i l) && every g (drop i l)) ≡ false
    unfolding rising every
    rise-stop h n e =
        let x : A = get_or l i d in
        rw (rest-cons empty d l i h, ne_eqb (number x) 0 n)
        (cases (ltb m (number x))
        (λ t.
        let f : g x ≡ false = rw t at e in
        rw (t, f) (cases (rising number (number x) (drop (i + 1) l)) (λ u. rw u) (λ u. rw u)))
        (λ t. rw t))

    pub rise-end : length l ≤ i → (rising number m (drop i l) && every g (drop i l)) ≡ true
    unfolding rising every
    rise-end h = rw (rest-none empty d l i h)

-- ---- the entries behind the first were copied before a free place
pub shifted-copy : {A : Type 0} (free : A) (n : ℕ) (l out : List A) → length l ≡ n + 1 → out ≡ take n (drop 1 l) → out ++ free ∷ [] ≡ shifted free l
unfolding shifted
shifted-copy free n [] out len e = absurd (omega arith)
shifted-copy free n (x ∷ l) out len e = rw (e, take_all n l (omega arith))

-- ---- the entries that fail a test are packed to the front of free places

module _ {A : Type 0} (p : A → Bool) (free : A) where
  abbrev fails : A → Bool
  fails x = not (p x)

  -- the entries to keep of the first i
  abbrev pub kept : ℕ → List A → List A
  kept i l = filter fails (take i l)

  kept_next : (d : A) (i : ℕ) (l : List A) → i < length l → kept (suc i) l ≡ cond (p (get_or l i d)) (kept i l) (kept i l ++ get_or l i d ∷ [])
  unfolding filter
  kept_next d i l h =
      rw (take-suc l i d h, filter-append fails (take i l) (get_or l i d ∷ []))
      (cases (p (get_or l i d)) (λ e. rw e (append-nil (kept i l))) (λ e. rw e))

  replicate_more : (k : ℕ) → replicate k free ++ free ∷ [] ≡ replicate (suc k) free
  replicate_more zero = refl
  replicate_more (suc k) = ap (λ (r : List A). free ∷ r) (replicate_more k)

  packed : (k : ℕ) (l : List A) → k + length (filter fails l) ≡ length l → without p free l ≡ filter fails l ++ replicate k free
  unfolding filter without
  packed zero [] e = refl
  packed (suc k) [] e = absurd (omega arith)
  packed k (x ∷ l) e = cases (p x)
      (λ t.
      let e' : k + length (filter fails l) ≡ suc (length l) = rw t at e in
      let more : suc (k - 1) ≡ k = omega (arith, filter-most fails l) in
      rw t
      (ap (λ (r : List A). r ++ free ∷ []) (packed (k - 1) l (omega arith))
      ∙ append_assoc (filter fails l) (replicate (k - 1) free) (free ∷ [])
      ∙ ap (λ (r : List A). filter fails l ++ r) (replicate_more (k - 1) ∙ ap (λ (j : ℕ). replicate j free) more)))
      (λ t.
      let e' : k + suc (length (filter fails l)) ≡ suc (length l) = rw t at e in
      rw (t, packed k l (omega arith)))

  -- the first i entries were seen, and c of them stand in front of free places
  pub record Packing (n : ℕ) (l : List A) (i c : ℕ) (out : List A) : Type 0 where
    pub count : c ≡ length (kept i l)
    pub made : out ≡ kept i l ++ replicate (n - c) free

  pub pack-none : (n : ℕ) (l : List A) → Packing n l 0 0 (replicate n free)
  unfolding filter
  pack-none n l = let z : n - 0 ≡ n = omega arith in record { count = refl; made = rw z }

  -- the next entry passes the test, and stays out
  pub pack-out :
      (d : A) {n : ℕ} {l : List A} {i c : ℕ} {out : List A} → length l ≡ n → i < n → Packing n l i c out → p (get_or l i d) ≡ true
      → (r : List A) (m : ℕ) → r ≡ out → m ≡ c → Packing n l (i + 1) m r
  pack-out d {n} {l} {i} {c} {out} len h g t r m e f =
      let h' : i < length l = omega arith in
      let k : kept (i + 1) l ≡ kept i l = rw (add-one i, kept_next d i l h', t) in
      record { count = rw (k, f) g.count; made = rw (k, f, e) g.made }

  -- the next entry fails it, and goes to the next place
  pub pack-in :
      (d : A) {n : ℕ} {l : List A} {i c : ℕ} {out : List A} → length l ≡ n → i < n → Packing n l i c out → p (get_or l i d) ≡ false
      → (r : List A) (m : ℕ) → r ≡ set out c (get_or l i d) → m ≡ c + 1 → Packing n l (i + 1) m r
  pack-in d {n} {l} {i} {c} {out} len h g t r m e f =
      let y : A = get_or l i d in
      let h' : i < length l = omega arith in
      let k : kept (i + 1) l ≡ kept i l ++ y ∷ [] = rw (add-one i, kept_next d i l h', t) in
      let room : n - length (kept i l) ≡ suc (n - (length (kept i l) + 1)) = omega (arith, filter-most fails (take i l), length-take i l) in
      record {
        count = rw (k, f, length-append (kept i l) (y ∷ [])) (ap (λ (j : ℕ). j + 1) g.count);
        made =
            rw (k, f, e, g.made, g.count, room, set-append_seam (kept i l) free (replicate (n - (length (kept i l) + 1)) free) y)
            (sym (append_assoc (kept i l) (y ∷ []) (replicate (n - (length (kept i l) + 1)) free)));
      }

  pub pack-all : {n : ℕ} {l : List A} {i c : ℕ} {out : List A} → length l ≡ n → n ≤ i → Packing n l i c out → out ≡ without p free l
  pack-all {n} {l} {i} {c} {out} len h g =
      let all : take i l ≡ l = take_all i l (omega arith) in
      let e : c ≡ length (filter fails l) = rw all at g.count in
      (rw all at g.made) ∙ sym (packed (n - c) l (omega (arith, filter-most fails l)))

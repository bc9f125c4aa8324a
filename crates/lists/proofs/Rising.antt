-- Numbers that rise along a queue, and the changes that keep the order.
use Prim.Native.Nat.{ℕ, ◌<◌, ◌≤◌}
use mathlib.Core.Path.{◌≡◌, refl}
use mathlib.Core.Bool.{Bool, true, false, cond, ◌&&◌, ◌||◌}
use mathlib.Core.List.{List, [], ◌∷◌, ◌++◌}
use native.Mathlib.Omega.{arith}
use lib.Dec.{ltb, leb, eqb}
use borrow.Author.Tests.{ltb-true, leb-true, eqb-true, lt-ltb, le-leb, lt-leb, eq-eqb, ne_eqb}
use Rattle.lists.specs.Padded.{any, every, ascending, free_last, rising, increasing, first, filter, without, shifted, placed, changed}
use Rattle.lists.proofs.Cond.{either, cases, and_left, and_right, and_both, or-one, or-two, or-then, or-by, none_or, wrong}
use Rattle.lists.proofs.Every.{every-imp, every-imp₂, every-snoc, every-without, every-changed}
use Rattle.lists.proofs.Some.{any_snoc, none-every, without-none}
use Rattle.lists.proofs.Selected.{in_use, none-used}
use Rattle.lists.proofs.Sweep.{swept, sweep, sweep-every}

module _ {A : Type 0} (number : A → ℕ) (free : A) (zero-free : number free ≡ 0) where
  abbrev blank : A → Bool
  blank x = eqb (number x) 0

  blank-free : blank free ≡ true
  blank-free = eq-eqb (number free) 0 zero-free

  -- all of it is free
  blanks-rise : (m : ℕ) (l : List A) → every blank l ≡ true → rising number m l ≡ true
  unfolding every rising
  blanks-rise m [] g = refl
  blanks-rise m (x ∷ l) g = rw (and_left (blank x) _ g) (and_right (blank x) _ g)

  pub rise-lower : (m n : ℕ) (l : List A) → m ≤ n → rising number n l ≡ true → rising number m l ≡ true
  unfolding rising
  rise-lower m n [] h g = refl
  rise-lower m n (x ∷ l) h g =
      cases (blank x) (λ e. rw e (rw e at g))
      (λ e. let g' : (ltb n (number x) && rising number (number x) l) ≡ true = rw e at g in
      rw e (and_both (ltb m (number x)) _ (lt-ltb m (number x) (omega (arith, ltb-true n (number x) (and_left _ _ g')))) (and_right (ltb n (number x)) _ g')))

  rise-snoc : (m : ℕ) (l : List A) → rising number m l ≡ true → rising number m (l ++ free ∷ []) ≡ true
  unfolding rising every
  rise-snoc m [] g = rw blank-free
  rise-snoc m (x ∷ l) g =
      cases (blank x) (λ e. rw e (every-snoc blank free l blank-free (rw e at g)))
      (λ e. let g' : (ltb m (number x) && rising number (number x) l) ≡ true = rw e at g in
      rw e (and_both (ltb m (number x)) _ (and_left _ _ g') (rise-snoc (number x) l (and_right (ltb m (number x)) _ g'))))

  pub rise-shifted : (m : ℕ) (l : List A) → rising number m l ≡ true → rising number m (shifted free l) ≡ true
  unfolding shifted rising
  rise-shifted m [] g = refl
  rise-shifted m (x ∷ l) g =
      cases (blank x) (λ e. rise-snoc m l (blanks-rise m l (rw e at g)))
      (λ e. let g' : (ltb m (number x) && rising number (number x) l) ≡ true = rw e at g in
      let a = ltb-true m (number x) (and_left _ _ g') in
      rise-snoc m l (rise-lower m (number x) l (omega arith) (and_right (ltb m (number x)) _ g')))

  pub rise-without : (t : A → Bool) (m : ℕ) (l : List A) → rising number m l ≡ true → rising number m (without t free l) ≡ true
  unfolding without rising every
  rise-without t m [] g = refl
  rise-without t m (x ∷ l) g =
      cases (blank x)
      (λ e. blanks-rise m (without t free (x ∷ l)) (every-without blank blank t free blank-free (λ y p q. p) (x ∷ l) (and_both (blank x) (every blank l) e (rw e at g))))
      (λ e. let g' : (ltb m (number x) && rising number (number x) l) ≡ true = rw e at g in
      let a = ltb-true m (number x) (and_left _ _ g') in
      let r = rise-without t (number x) l (and_right (ltb m (number x)) _ g') in
      either (λ k. rising number m k ≡ true) (t x) (λ _. rise-snoc m (without t free l) (rise-lower m (number x) (without t free l) (omega arith) r))
      (λ _. rw e (and_both (ltb m (number x)) _ (and_left _ _ g') r)))

  pub rise-changed : (t : A → Bool) (g : A → A) → ((x : A) → number (g x) ≡ number x) → (m : ℕ) (l : List A) → rising number m l ≡ true → rising number m (changed t g l) ≡ true
  unfolding changed rising
  rise-changed t g h m [] f = refl
  rise-changed t g h m (x ∷ l) f =
      let e : number (cond (t x) (g x) x) ≡ number x = either (λ y. number y ≡ number x) (t x) (λ _. h x) (λ _. refl) in
      rw e (cases (blank x)
      (λ b. rw b (every-changed blank blank t g (λ y p q. rw (h y) p) (λ y p q. p) l (rw b at f)))
      (λ b. let f' : (ltb m (number x) && rising number (number x) l) ≡ true = rw b at f in
      rw b (and_both (ltb m (number x)) _ (and_left _ _ f') (rise-changed t g h (number x) l (and_right (ltb m (number x)) _ f')))))

  -- a new entry whose number is above all others
  pub rise-placed : (e : A) (top : ℕ) → top < number e → (m : ℕ) (l : List A) → m ≤ top → every (λ x. leb (number x) top) l ≡ true
      → rising number m l ≡ true → rising number m (placed blank e l) ≡ true
  unfolding placed rising every
  rise-placed e top h m [] k f g = refl
  rise-placed e top h m (x ∷ l) k f g =
      cases (blank x)
      (λ b. rw (b, ne_eqb (number e) 0 (λ z. omega arith)) (and_both (ltb m (number e)) _ (lt-ltb m (number e) (omega arith)) (blanks-rise (number e) l (rw b at g))))
      (λ b. let g' : (ltb m (number x) && rising number (number x) l) ≡ true = rw b at g in
      rw (b, b) (and_both (ltb m (number x)) _ (and_left _ _ g')
      (rise-placed e top h (number x) l (leb-true (number x) top (and_left _ _ f)) (and_right (leb (number x) top) _ f) (and_right (ltb m (number x)) _ g'))))

  -- no number above m is i
  none_above : (t : A → Bool) (i m : ℕ) → 0 < i → i ≤ m → ((x : A) → t x ≡ true → number x ≡ i) → (l : List A) → rising number m l ≡ true → any t l ≡ false
  unfolding any rising
  none_above t i m p h k [] g = refl
  none_above t i m p h k (x ∷ l) g =
      cases (blank x)
      (λ e. none_or (t x) _ (missed x e) (none-every blank t missed l (rw e at g)))
      (λ e. let g' : (ltb m (number x) && rising number (number x) l) ≡ true = rw e at g in
      let a = ltb-true m (number x) (and_left _ _ g') in
      none_or (t x) _ (cases (t x) (λ f. let no : ⊥ = omega (arith, k x f) in absurd no) (λ f. f))
      (none_above t i (number x) p (omega arith) k l (and_right (ltb m (number x)) _ g')))
    where
      missed : (y : A) → blank y ≡ true → t y ≡ false
      missed y e = cases (t y) (λ f. let no : ⊥ = omega (arith, k y f, eqb-true (number y) 0 e) in absurd no) (λ f. f)

  -- the entries that pass t have one number, so there is one at most; what passes p is not that one
  pub any-without-one : (p t : A → Bool) (i : ℕ) → 0 < i → ((x : A) → t x ≡ true → number x ≡ i) → (m : ℕ) (l : List A) → rising number m l ≡ true
      → any t l ≡ true → p (first t free l) ≡ false → any p l ≡ true → any p (without t free l) ≡ true
  unfolding any without first rising
  any-without-one p t i pos k m [] g a f h = wrong a refl
  any-without-one p t i pos k m (x ∷ l) g a f h =
      cases (t x)
      (λ e.
      let b : blank x ≡ false = ne_eqb (number x) 0 (λ z. omega (arith, k x e)) in
      let f' : p x ≡ false = rw e at f in
      let h' : any p l ≡ true = rw f' at h in
      let g' : (ltb m (number x) && rising number (number x) l) ≡ true = rw b at g in
      let n = none_above t i (number x) pos (omega (arith, k x e)) k l (and_right (ltb m (number x)) _ g') in
      rw (e, without-none t free l n) (any_snoc p free l h'))
      (λ e. rw e (cases (p x) (λ q. or-one (p x) _ q)
      (λ q. or-two (p x) _ (any-without-one p t i pos k (cond (blank x) m (number x)) l
      (cases (blank x) (λ b. rw b (blanks-rise m l (rw b at g))) (λ b. rw b (and_right (ltb m (number x)) _ (rw b at g))))
      (rw e at a) (rw e at f) (rw q at h)))))

-- ---- rising is ascending, with the free places last

module _ {A : Type 0} (number : A → ℕ) where
  free-ascends : (m : ℕ) (l : List A) → every (λ x. eqb (number x) 0) l ≡ true → ascending number m l ≡ true
  unfolding every ascending
  free-ascends m [] e = refl
  free-ascends m (x ∷ l) e =
      rw (and_left (eqb (number x) 0) _ e) (free-ascends m l (and_right (eqb (number x) 0) _ e))

  pub rising-both : (m : ℕ) (l : List A) → free_last number l ≡ true → ascending number m l ≡ true → rising number m l ≡ true
  unfolding rising ascending free_last
  rising-both m [] f a = refl
  rising-both m (x ∷ l) f a = cases (eqb (number x) 0) (λ e. rw e (rw e at f))
      (λ e.
      let a' : (ltb m (number x) && ascending number (number x) l) ≡ true = rw e at a in
      rw e (and_both (ltb m (number x)) _ (and_left _ _ a') (rising-both (number x) l (rw e at f) (and_right (ltb m (number x)) _ a'))))

  pub rising-last : (m : ℕ) (l : List A) → rising number m l ≡ true → free_last number l ≡ true
  unfolding rising free_last
  rising-last m [] r = refl
  rising-last m (x ∷ l) r = cases (eqb (number x) 0) (λ e. rw e (rw e at r))
      (λ e. rw e (rising-last (number x) l (and_right (ltb m (number x)) _ (rw e at r))))

  pub rising-ascends : (m : ℕ) (l : List A) → rising number m l ≡ true → ascending number m l ≡ true
  unfolding rising ascending
  rising-ascends m [] r = refl
  rising-ascends m (x ∷ l) r = cases (eqb (number x) 0) (λ e. rw e (free-ascends m l (rw e at r)))
      (λ e.
      let r' : (ltb m (number x) && rising number (number x) l) ≡ true = rw e at r in
      rw e (and_both (ltb m (number x)) _ (and_left _ _ r') (rising-ascends (number x) l (and_right (ltb m (number x)) _ r'))))

-- ---- what is swept off a rising list is its end

module _ {A : Type 0} (number : A → ℕ) (free : A) (zero-free : number free ≡ 0) (n : ℕ) (pos : 0 < n) where
  abbrev late : A → Bool
  late x = leb n (number x)

  abbrev empty : A → Bool
  empty x = eqb (number x) 0

  empty-stays : (x : A) → empty x ≡ true → empty (swept late free x) ≡ true
  empty-stays x e = either (λ (r : A). empty r ≡ true) (late x) (λ _. eq-eqb (number free) 0 zero-free) (λ _. e)

  late-goes : (x : A) → late x ≡ true → empty (swept late free x) ≡ true
  late-goes x e = rw e (eq-eqb (number free) 0 zero-free)

  rest_goes : (k : ℕ) (l : List A) → n ≤ k → rising number k l ≡ true → every empty (sweep late free l) ≡ true
  unfolding rising every changed
  rest_goes k [] h g = refl
  rest_goes k (x ∷ l) h g = cases (empty x)
      (λ e. and_both (empty (swept late free x)) _ (empty-stays x e) (sweep-every late free empty empty empty-stays l (rw e at g)))
      (λ e.
      let g' : (ltb k (number x) && rising number (number x) l) ≡ true = rw e at g in
      let above : k < number x = ltb-true k (number x) (and_left _ _ g') in
      and_both (empty (swept late free x)) _ (late-goes x (le-leb n (number x) (omega arith)))
      (rest_goes (number x) l (omega arith) (and_right (ltb k (number x)) _ g')))

  pub rise-swept : (m : ℕ) (l : List A) → rising number m l ≡ true → rising number m (sweep late free l) ≡ true
  unfolding rising every changed
  rise-swept m [] g = refl
  rise-swept m (x ∷ l) g = cases (empty x)
      (λ e. rw (lt-leb n (number x) (omega (arith, eqb-true (number x) 0 e)), e) (sweep-every late free empty empty empty-stays l (rw e at g)))
      (λ e.
      let g' : (ltb m (number x) && rising number (number x) l) ≡ true = rw e at g in
      cases (late x)
      (λ f. rw (f, eq-eqb (number free) 0 zero-free) (rest_goes (number x) l (leb-true n (number x) f) (and_right (ltb m (number x)) _ g')))
      (λ f. rw (f, e) (and_both (ltb m (number x)) _ (and_left _ _ g') (rise-swept (number x) l (and_right (ltb m (number x)) _ g')))))

-- ---- numbers that increase, with no free place

module _ {A : Type 0} (number : A → ℕ) where
  increase-lower : (m n : ℕ) (l : List A) → m ≤ n → increasing number n l ≡ true → increasing number m l ≡ true
  unfolding increasing
  increase-lower m n [] h g = refl
  increase-lower m n (x ∷ l) h g =
      and_both (ltb m (number x)) _ (lt-ltb m (number x) (omega (arith, ltb-true n (number x) (and_left _ _ g)))) (and_right (ltb n (number x)) _ g)

  -- one more entry, whose number is above all others
  pub increase-snoc :
      (y : A) (top : ℕ) → top < number y → (m : ℕ) (l : List A) → m ≤ top → every (λ x. leb (number x) top) l ≡ true
      → increasing number m l ≡ true → increasing number m (l ++ y ∷ []) ≡ true
  unfolding increasing every
  increase-snoc y top h m [] k f g = and_both (ltb m (number y)) true (lt-ltb m (number y) (omega arith)) refl
  increase-snoc y top h m (x ∷ l) k f g =
      and_both (ltb m (number x)) _ (and_left _ _ g)
      (increase-snoc y top h (number x) l (leb-true (number x) top (and_left _ _ f)) (and_right (leb (number x) top) _ f) (and_right (ltb m (number x)) _ g))

  -- some of the entries
  pub increase-filter : (p : A → Bool) (m : ℕ) (l : List A) → increasing number m l ≡ true → increasing number m (filter p l) ≡ true
  unfolding increasing filter
  increase-filter p m [] g = refl
  increase-filter p m (x ∷ l) g =
      let above : m < number x = ltb-true m (number x) (and_left _ _ g) in
      let rest : increasing number (number x) (filter p l) ≡ true = increase-filter p (number x) l (and_right (ltb m (number x)) _ g) in
      either (λ (r : List A). increasing number m r ≡ true) (p x)
      (λ t. and_both (ltb m (number x)) _ (and_left _ _ g) rest)
      (λ t. increase-lower m (number x) (filter p l) (omega arith) rest)

  -- the entries of a rising list that are not free
  pub rising-increases : (m : ℕ) (l : List A) → rising number m l ≡ true → increasing number m (filter (in_use number) l) ≡ true
  unfolding rising filter increasing
  rising-increases m [] g = refl
  rising-increases m (x ∷ l) g = cases (eqb (number x) 0)
      (λ e. rw (e, none-used number l (rw e at g)))
      (λ e.
      let g' : (ltb m (number x) && rising number (number x) l) ≡ true = rw e at g in
      rw e (and_both (ltb m (number x)) _ (and_left _ _ g') (rising-increases (number x) l (and_right (ltb m (number x)) _ g'))))

-- ---- an entry of a rising list is found by its number

module _ {A : Type 0} (number : A → ℕ) where
  abbrev free_or_above : ℕ → A → Bool
  free_or_above m x = eqb (number x) 0 || ltb m (number x)

  above-rest : (m : ℕ) (l : List A) → rising number m l ≡ true → every (free_or_above m) l ≡ true
  unfolding rising every
  above-rest m [] g = refl
  above-rest m (x ∷ l) g = cases (eqb (number x) 0)
      (λ e. rw e (every-imp (λ y. eqb (number y) 0) (free_or_above m) (λ y t. or-one _ _ t) l (rw e at g)))
      (λ e.
      let g' : (ltb m (number x) && rising number (number x) l) ≡ true = rw e at g in
      let above : m < number x = ltb-true m (number x) (and_left _ _ g') in
      and_both (free_or_above m x) _ (or-two (eqb (number x) 0) _ (and_left _ _ g'))
      (every-imp (free_or_above (number x)) (free_or_above m)
      (λ y t. or-by (eqb (number y) 0) _ (λ f. lt-ltb m (number y) (omega (arith, ltb-true (number x) (number y) (or-then (eqb (number y) 0) _ t f)))))
      l (above-rest (number x) l (and_right (ltb m (number x)) _ g'))))

  module _ (d : A) (same : A → A → Bool) (same_refl : (x : A) → same x x ≡ true) where
    -- x is free, or the first entry with its number is the same as x
    abbrev pub found_in : List A → A → Bool
    found_in l x = eqb (number x) 0 || same (first (λ y. eqb (number y) (number x)) d l) x

    pub rising-found : (m : ℕ) (l : List A) → rising number m l ≡ true → every (found_in l) l ≡ true
    unfolding rising every first
    rising-found m [] g = refl
    rising-found m (x ∷ l) g = cases (eqb (number x) 0)
        (λ e. and_both (found_in (x ∷ l) x) _ (or-one _ _ e) (every-imp (λ y. eqb (number y) 0) (found_in (x ∷ l)) (λ y t. or-one _ _ t) l (rw e at g)))
        (λ e.
        let g' : (ltb m (number x) && rising number (number x) l) ≡ true = rw e at g in
        let rest : rising number (number x) l ≡ true = and_right (ltb m (number x)) _ g' in
        and_both (found_in (x ∷ l) x) _ (or-two (eqb (number x) 0) _ (rw (eq-eqb (number x) (number x) refl) (same_refl x)))
        (every-imp₂ (found_in l) (free_or_above (number x)) (found_in (x ∷ l))
        (λ y p q. or-by (eqb (number y) 0) _ (λ f.
        rw (ne_eqb (number x) (number y) (λ z. omega (arith, ltb-true (number x) (number y) (or-then (eqb (number y) 0) _ q f)))) (or-then (eqb (number y) 0) _ p f)))
        l (rising-found (number x) l rest) (above-rest (number x) l rest)))

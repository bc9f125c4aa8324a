-- Laws of a stack: what a touch leaves at each distance, and that its entries stay apart.
use Prim.Native.Nat.{ℕ, zero, suc, ◌%◌, ◌<◌, ◌≤◌}
use mathlib.Core.Path.{◌≡◌, refl, sym, ap, ◌∙◌}
use mathlib.Core.Bool.{Bool, true, not, ◌&&◌}
use mathlib.Core.List.{List, [], ◌∷◌}
use native.Mathlib.Nat.{not-suc-le-zero, le_of_suc-le-suc}
use native.Mathlib.Omega.{arith}
use lib.Dec.{ltb, eqb}
use lib.ListN.{get_or}
use borrow.Author.Tests.{ltb-true, eqb-true, eqb-false, lt-ltb, eq-eqb, ne_eqb, not-true}
use Rattle.lists.specs.Padded.{every, filter}
use Rattle.lists.proofs.Cond.{either, cases, and_left, and_right, and_both}
use Rattle.lists.proofs.Every.{every-at, every-filter, every-chosen}
use Rattle.lists.proofs.Selected.{filter-all}
use Rattle.study.specs.Stack.{touch, touched, stacks_from}

-- another entry than m
abbrev other : ℕ → ℕ → Bool
other m x = not (eqb x m)

-- ---- entries apart

-- no entry is 0, and no two are the same
unfoldable pub apart : List ℕ → Bool
apart [] = true
apart (x ∷ l) = ltb 0 x && (every (other x) l && apart l)

apart-filter : (p : ℕ → Bool) (l : List ℕ) → apart l ≡ true → apart (filter p l) ≡ true
unfolding apart filter
apart-filter p [] e = refl
apart-filter p (x ∷ l) e =
    let r = and_right (ltb 0 x) _ e in
    let i = apart-filter p l (and_right (every (other x) l) _ r) in
    either (λ (k : List ℕ). apart k ≡ true) (p x)
    (λ t. and_both (ltb 0 x) _ (and_left (ltb 0 x) _ e)
    (and_both (every (other x) (filter p l)) _ (every-chosen p (other x) l (and_left (every (other x) l) _ r)) i))
    (λ t. i)

apart-touch : (m : ℕ) → 0 < m → (l : List ℕ) → apart l ≡ true → apart (touch m l) ≡ true
unfolding apart touch
apart-touch m h l e =
    and_both _ _ (lt-ltb 0 m h) (and_both _ _ (every-filter (other m) (other m) (λ x t. t) l) (apart-filter (other m) l e))

-- of the stack of each set
pub apart-touched :
    (sets l : ℕ) (K : ℕ → List ℕ) → ((s : ℕ) → apart (K s) ≡ true) → (s : ℕ) → apart (touched sets l K s) ≡ true
unfolding touched
apart-touched sets l K g s =
    either (λ (r : List ℕ). apart r ≡ true) (eqb (l % sets) s) (λ e. apart-touch (suc l) (omega arith) (K s) (g s)) (λ e. g s)

pub apart-stacks :
    (sets : ℕ) (items : List ℕ) (K : ℕ → List ℕ) → ((s : ℕ) → apart (K s) ≡ true) → (s : ℕ) → apart (stacks_from sets items K s) ≡ true
unfolding stacks_from
apart-stacks sets [] K g = g
apart-stacks sets (l ∷ items) K g = apart-stacks sets items (touched sets l K) (apart-touched sets l K g)

-- where nothing stands, nothing stands below it
pub apart-ends : (l : List ℕ) → apart l ≡ true → (c d : ℕ) → get_or l c 0 ≡ 0 → c ≤ d → get_or l d 0 ≡ 0
unfolding apart
apart-ends [] e c d z h = refl
apart-ends (x ∷ l) e zero d z h = let n = ltb-true 0 x (and_left _ _ e) in let no : ⊥ = omega arith in absurd no
apart-ends (x ∷ l) e (suc c) zero z h = absurd (not-suc-le-zero h)
apart-ends (x ∷ l) e (suc c) (suc d) z h =
    apart-ends l (and_right (every (other x) l) _ (and_right (ltb 0 x) _ e)) c d z (le_of_suc-le-suc h)

-- an entry stands at one distance
pub apart-once : (l : List ℕ) → apart l ≡ true → (c d m : ℕ) → 0 < m → get_or l c 0 ≡ m → get_or l d 0 ≡ m → c ≡ d
unfolding apart
apart-once [] e c d m h p q = omega arith
apart-once (x ∷ l) e zero zero m h p q = refl
apart-once (x ∷ l) e zero (suc d) m h p q =
    absurd (eqb-false _ _ (not-true _ (every-at (other x) 0 (ap not (ne_eqb 0 x (λ z. omega arith))) l (and_left _ _ (and_right (ltb 0 x) _ e)) d)) (q ∙ sym p))
apart-once (x ∷ l) e (suc c) zero m h p q =
    absurd (eqb-false _ _ (not-true _ (every-at (other x) 0 (ap not (ne_eqb 0 x (λ z. omega arith))) l (and_left _ _ (and_right (ltb 0 x) _ e)) c)) (p ∙ sym q))
apart-once (x ∷ l) e (suc c) (suc d) m h p q =
    ap suc (apart-once l (and_right (every (other x) l) _ (and_right (ltb 0 x) _ e)) c d m h p q)

-- ---- a touch

-- above the entry the others move down by one
pub touch-above : (m : ℕ) (l : List ℕ) (d : ℕ) → ((c : ℕ) → c ≤ d → get_or l c 0 ≡ m → ⊥) → get_or (touch m l) (suc d) 0 ≡ get_or l d 0
unfolding touch filter
touch-above m l d h = go l d h
  where
    go : (l : List ℕ) (d : ℕ) → ((c : ℕ) → c ≤ d → get_or l c 0 ≡ m → ⊥) → get_or (filter (other m) l) d 0 ≡ get_or l d 0
    go [] d h = refl
    go (x ∷ l) zero h = rw (ne_eqb x m (h 0 (omega arith)))
    go (x ∷ l) (suc d) h = rw (ne_eqb x m (h 0 (omega arith))) (go l d (λ c a e. h (suc c) (omega arith) e))

-- below it they stay
pub touch-below : (m : ℕ) (l : List ℕ) → apart l ≡ true → (c d : ℕ) → 0 < m → get_or l c 0 ≡ m → c ≤ d → get_or (touch m l) (suc d) 0 ≡ get_or l (suc d) 0
unfolding touch filter apart
touch-below m l e c d n h a = go l e c d h a
  where
    go : (l : List ℕ) → apart l ≡ true → (c d : ℕ) → get_or l c 0 ≡ m → c ≤ d → get_or (filter (other m) l) d 0 ≡ get_or l (suc d) 0
    go [] e c d h a = refl
    go (x ∷ l) e zero d h a =
        let r : every (other m) l ≡ true = rw (← h) (and_left (every (other x) l) _ (and_right (ltb 0 x) _ e)) in
        rw (eq-eqb x m h) (ap (λ (k : List ℕ). get_or k d 0) (filter-all (other m) l r))
    go (x ∷ l) e (suc c) zero h a = absurd (not-suc-le-zero a)
    go (x ∷ l) e (suc c) (suc d) h a =
        let r = and_right (ltb 0 x) _ e in
        cases (eqb x m)
        (λ t.
        let q = eqb-true x m t in
        let w : every (other m) l ≡ true = rw (← q) (and_left (every (other x) l) _ r) in
        rw t (ap (λ (k : List ℕ). get_or k (suc d) 0) (filter-all (other m) l w)))
        (λ t. rw t (go l (and_right (every (other x) l) _ r) c d h (le_of_suc-le-suc a)))

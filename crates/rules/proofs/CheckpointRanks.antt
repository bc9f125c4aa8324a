-- The list of checkpoints, change by change: which marks a setting, a return, an abort and a commit leave, and with which ranks. A setting
-- finds a place: names are distinct and from 1 to 8, so eight marks use all of them.
use Prim.Native.Nat.{ℕ, zero, suc, ◌+◌, ◌-◌, ◌≤◌, ◌<◌}
use mathlib.Core.Path.{◌≡◌, refl, sym, ◌∙◌, ap, ap₂, subst}
use mathlib.Core.Bool.{true, false, cond, not, ◌&&◌, ◌||◌, false≢true}
use mathlib.Core.List.{List, [], ◌∷◌, ◌++◌, map}
use native.Mathlib.Omega.{arith}
use lib.Dec.{leb, ltb, eqb}
use lib.ListN.{length}
use borrow.Author.Tests.{leb-true, leb-false, ltb-true, ltb-false, eqb-true, eqb-false, lt-leb, le-leb, lt-ltb, le-ltb, not-true}
use Rattle.lists.specs.Padded.{any, every, first, filter, free_last, climbing, without, placed, cut}
use Rattle.lists.specs.Counted.{each_from}
use Rattle.lists.proofs.Cond.{either, cases, and_left, and_right, or_left, or_right, or-then, none_or, wrong}
use Rattle.lists.proofs.Some.{none-every}
use Rattle.lists.proofs.Selected.{filter_none, filter_same, none-used, used-swept}
use Rattle.lists.proofs.Cut.{blanks, none-blanks}
use Rattle.rules.specs.declared.Checkpoint.{Checkpoint}
use Rattle.rules.specs.Shape.{no_checkpoint, is_free_checkpoint}
use Rattle.rules.specs.Checkpoints.{named, in_use, name_allowed, rank_at, above, forget_above, at_most}
use Rattle.rules.specs.WellFormed.{name_fits, names_distinct, ranks_from}
use Rattle.rules.specs.CheckpointClaims.{lowered}
use Rattle.rules.proofs.Checkpoints.{Marks, ranks-stay}

-- ---- a place for the mark

-- how many of the names 1 to k are in use
unfoldable used_names : ℕ → List Checkpoint → ℕ
used_names zero cs = 0
used_names (suc k) cs = used_names k cs + cond (in_use (suc k) cs) 1 0

-- one more mark of a new name
one_more :
    (k : ℕ) (c : Checkpoint) (cs : List Checkpoint) → is_free_checkpoint c ≡ false → in_use c.name cs ≡ false
    → used_names k cs + cond (name_allowed c.name && leb c.name k) 1 0 ≤ used_names k (c ∷ cs)
unfolding any used_names
one_more zero c cs f n = cases (name_allowed c.name) (λ a. rw (a, lt-leb c.name 0 (omega (arith, leb-true 1 c.name (and_left _ _ a)))) (omega arith)) (λ a. rw a (omega arith))
one_more (suc k) c cs f n = cases (eqb c.name (suc k))
    (λ e.
    let here : c.name ≡ suc k = eqb-true c.name (suc k) e in
    let rest : used_names k cs + cond (name_allowed c.name && leb c.name k) 1 0 ≤ used_names k (c ∷ cs) = one_more k c cs f n in
    let no : in_use (suc k) cs ≡ false = subst (λ (y : ℕ). in_use y cs ≡ false) here n in
    rw (f, e, no) (omega (arith, either (λ (t : ℕ). t ≤ 1) (name_allowed c.name && leb c.name (suc k)) {x = 1} {y = 0} (λ t. omega arith) (λ t. omega arith), rest)))
    (λ e.
    let rest : used_names k cs + cond (name_allowed c.name && leb c.name k) 1 0 ≤ used_names k (c ∷ cs) = one_more k c cs f n in
    let same : leb c.name (suc k) ≡ leb c.name k = cases (leb c.name k)
    (λ t. rw t (le-leb c.name (suc k) (omega (arith, leb-true c.name k t))))
    (λ t. rw t (lt-leb c.name (suc k) (omega (arith, leb-false c.name k t, eqb-false c.name (suc k) e)))) in
    rw (same, f, e) (omega (arith, rest)))

-- marks with distinct names from 1 to 8 use as many names
names-used : (cs : List Checkpoint) → any is_free_checkpoint cs ≡ false → every name_fits cs ≡ true → names_distinct cs ≡ true → length cs ≤ used_names 8 cs
unfolding any every names_distinct name_fits
names-used [] f n d = omega arith
names-used (c ∷ cs) f n d =
    let full : is_free_checkpoint c ≡ false = or_left _ _ f in
    let fit : name_allowed c.name ≡ true = or-then (is_free_checkpoint c) _ (and_left _ _ n) full in
    let new : in_use c.name cs ≡ false = not-true _ (or-then (is_free_checkpoint c) _ (and_left _ _ d) full) in
    let rest : length cs ≤ used_names 8 cs = names-used cs (or_right (is_free_checkpoint c) _ f) (and_right (is_free_checkpoint c || name_allowed c.name) _ n) (and_right (is_free_checkpoint c || not (in_use c.name cs)) _ d) in
    let more : used_names 8 cs + cond (name_allowed c.name && leb c.name 8) 1 0 ≤ used_names 8 (c ∷ cs) = one_more 8 c cs full new in
    let one : used_names 8 cs + 1 ≤ used_names 8 (c ∷ cs) = rw (fit, and_right (leb 1 c.name) _ fit) at more in
    omega (arith, rest, one)

-- a name that is not used is missing from the count
names-short : (x k : ℕ) (cs : List Checkpoint) → in_use x cs ≡ false → (used_names k cs ≤ k) × (1 ≤ x → x ≤ k → used_names k cs < k)
unfolding used_names
names-short x zero cs u = (omega arith, λ l h. absurd (omega arith))
names-short x (suc k) cs u =
    let r = names-short x k cs u in
    let one : cond (in_use (suc k) cs) 1 0 ≤ 1 = either (λ (t : ℕ). t ≤ 1) (in_use (suc k) cs) (λ t. omega arith) (λ t. omega arith) in (
      omega (arith, r.0, one),
      λ l h. cases (eqb x (suc k))
          (λ e. let no : in_use (suc k) cs ≡ false = subst (λ (y : ℕ). in_use y cs ≡ false) (eqb-true x (suc k) e) u in rw no (omega (arith, r.0)))
          (λ e. omega (arith, one, r.1 l (omega (arith, eqb-false x (suc k) e)))),
    )

-- so there is a free place
pub place-free : (x h last : ℕ) (cs : List Checkpoint) → Marks h last cs → name_allowed x ≡ true → in_use x cs ≡ false → any is_free_checkpoint cs ≡ true
place-free x h last cs m a u = cases (any is_free_checkpoint cs) (λ t. t)
    (λ t.
    let low : 1 ≤ x = leb-true 1 x (and_left _ _ a) in
    let high : x ≤ 8 = leb-true x 8 (and_right (leb 1 x) _ a) in
    let no : ⊥ = omega (arith, names-used cs t m.names m.apart, (names-short x 8 cs u).1 low high, m.places) in
    absurd no)

-- ---- ranks that are right

-- the marks of a list, in order
abbrev pub marks_of : List Checkpoint → List Checkpoint
marks_of cs = filter (λ c. not (is_free_checkpoint c)) cs

-- what the ranks from place i on say of the first place, and of the others
module _ (i : ℕ) (c : Checkpoint) (cs : List Checkpoint) (r : ranks_from i (c ∷ cs) ≡ true) where
  rank-here : is_free_checkpoint c ≡ false → c.rank ≡ suc i
  unfolding ranks_from
  rank-here f = eqb-true c.rank (suc i) (or-then (is_free_checkpoint c) _ (and_left _ _ r) f)

  ranks-after : ranks_from (suc i) cs ≡ true
  unfolding ranks_from
  ranks-after = and_right (is_free_checkpoint c || eqb c.rank (suc i)) _ r

  -- giving it anew changes nothing
  rank-given : is_free_checkpoint c ≡ false → record { name = c.name; number = c.number; rank = suc i } ≡ c
  rank-given f k = record { name = c.name; number = c.number; rank = sym (rank-here f) k }

-- ---- a setting

-- a new mark, from place i on: it comes last, with the next rank
pub set-marks :
    (x n i : ℕ) (cs : List Checkpoint) → eqb n 0 ≡ false → free_last (λ c. c.number) cs ≡ true → ranks_from i cs ≡ true → any is_free_checkpoint cs ≡ true
    → marks_of (each_from rank_at i (placed is_free_checkpoint (record { name = x; number = n; rank = 0 }) cs))
    ≡ marks_of cs ++ record { name = x; number = n; rank = suc (i + length (marks_of cs)) } ∷ []
unfolding free_last any placed each_from filter
set-marks x n i [] pos l r a = absurd (false≢true a)
set-marks x n i (c ∷ cs) pos l r a = cases (is_free_checkpoint c)
    (λ f.
    let none : marks_of cs ≡ [] = none-used (λ d. d.number) cs (rw f at l) in
    let same : marks_of (each_from rank_at (suc i) cs) ≡ marks_of cs = ap marks_of (ranks-stay (suc i) cs (ranks-after i c cs r)) in
    let here : suc i ≡ suc (i + 0) = omega arith in
    rw (f, pos, same, none) (λ k. record { name = x; number = n; rank = here k } ∷ []))
    (λ f.
    let rest = set-marks x n (suc i) cs pos (rw f at l) (ranks-after i c cs r) (rw f at a) in
    let moved : suc (suc i + length (marks_of cs)) ≡ suc (i + suc (length (marks_of cs))) = omega arith in
    rw (f, f) (ap₂ ◌∷◌ (rank-given i c cs r f) (rest ∙ (λ k. marks_of cs ++ record { name = x; number = n; rank = moved k } ∷ []))))

-- ---- a return

-- no rank from place i on is below r
none-lower : (r i : ℕ) (cs : List Checkpoint) → r ≤ suc i → ranks_from i cs ≡ true → filter (λ c. ltb c.rank r) (marks_of cs) ≡ []
unfolding filter
none-lower r i [] h g = refl
none-lower r i (c ∷ cs) h g =
    let rest = none-lower r (suc i) cs (omega arith) (ranks-after i c cs g) in
    cases (is_free_checkpoint c) (λ f. rw f rest)
    (λ f. rw (f, le-ltb c.rank r (omega (arith, rank-here i c cs g f))) rest)

-- what a return leaves from place i on: the marks of a lower rank than x, and their number
pub record Before (x i : ℕ) (cs : List Checkpoint) : Type 0 where
  pub count : suc (i + length (marks_of (cut (named x) no_checkpoint cs))) ≡ (first (named x) no_checkpoint cs).rank
  pub lower : marks_of (cut (named x) no_checkpoint cs) ≡ filter (λ c. ltb c.rank (first (named x) no_checkpoint cs).rank) (marks_of cs)

pub before-marks : (x i : ℕ) (cs : List Checkpoint) → free_last (λ c. c.number) cs ≡ true → ranks_from i cs ≡ true → in_use x cs ≡ true → Before x i cs
unfolding free_last any first cut filter
before-marks x i [] l r u = absurd (false≢true u)
before-marks x i (c ∷ cs) l r u = cases (named x c)
    (λ t.
    let rank : c.rank ≡ suc i = rank-here i c cs r (not-true _ (and_left _ _ t)) in
    let none : marks_of (blanks no_checkpoint (length cs)) ≡ [] = filter_none _ (blanks no_checkpoint (length cs)) (none-blanks no_checkpoint (λ c. not (is_free_checkpoint c)) refl (length cs)) in
    record {
      count = rw (t, none) (omega (arith, rank));
      lower = rw (t, none) (sym (none-lower c.rank i (c ∷ cs) (omega (arith, rank)) r));
    })
    (λ t.
    let f : is_free_checkpoint c ≡ false = cases (is_free_checkpoint c)
    (λ f. wrong u (none_or (named x c) _ t (none-every is_free_checkpoint (named x) (λ d k. rw k) cs (rw f at l)))) (λ f. f) in
    let rest = before-marks x (suc i) cs (rw f at l) (ranks-after i c cs r) (rw t at u) in
    let low : ltb c.rank (first (named x) no_checkpoint cs).rank ≡ true = lt-ltb c.rank _ (omega (arith, rest.count, rank-here i c cs r f)) in
    record {
      count = rw (t, f) (omega (arith, rest.count));
      lower = rw (t, f, low) (ap (λ (ds : List Checkpoint). c ∷ ds) rest.lower);
    })

-- ---- an abort

-- those above n are forgotten
pub above-marks : (n : ℕ) (cs : List Checkpoint) → marks_of (forget_above n cs) ≡ filter (λ c. leb c.number n) (marks_of cs)
unfolding forget_above
above-marks n cs =
    used-swept (λ c. c.number) (above n) no_checkpoint refl cs
    ∙ filter_same (λ c. not (above n c)) (λ c. leb c.number n)
    (λ c. cases (above n c)
    (λ t. rw (t, lt-leb c.number n (ltb-true n c.number t)))
    (λ t. rw (t, le-leb c.number n (ltb-false n c.number t)))) (marks_of cs)

-- ---- a commit

-- none remembers k or less after one that remembers more
none-upto : (k m : ℕ) (cs : List Checkpoint) → k < m → climbing (λ c. c.number) m cs ≡ true → filter (λ c. leb c.number k) (marks_of cs) ≡ []
unfolding climbing filter
none-upto k m [] h g = refl
none-upto k m (c ∷ cs) h g = cases (is_free_checkpoint c)
    (λ f. rw f (none-upto k m cs h (rw f at g)))
    (λ f.
    let g' : (leb m c.number && climbing (λ d. d.number) c.number cs) ≡ true = rw f at g in
    let low : m ≤ c.number = leb-true m c.number (and_left _ _ g') in
    rw (f, lt-leb c.number k (omega arith)) (none-upto k c.number cs (omega arith) (and_right (leb m c.number) _ g')))

-- a free place at the end is no mark
snoc-marks : (i : ℕ) (cs : List Checkpoint) → marks_of (each_from rank_at i (cs ++ no_checkpoint ∷ [])) ≡ marks_of (each_from rank_at i cs)
unfolding each_from filter
snoc-marks i [] = refl
snoc-marks i (c ∷ cs) = rw (snoc-marks (suc i) cs)

-- what a commit leaves of the marks from place p + d on, which come to place p: those above k, each with its rank lower by d and by the
-- number of the others
pub upto-marks :
    (k p d m : ℕ) (cs : List Checkpoint) → climbing (λ c. c.number) m cs ≡ true → ranks_from (p + d) cs ≡ true
    → marks_of (each_from rank_at p (without (at_most k) no_checkpoint cs))
    ≡ map (lowered (d + length (filter (λ c. leb c.number k) (marks_of cs)))) (filter (λ c. ltb k c.number) (marks_of cs))
unfolding climbing without each_from filter
upto-marks k p d m [] g r = refl
upto-marks k p d m (c ∷ cs) g r =
    let j : ℕ = length (filter (λ c. leb c.number k) (marks_of cs)) in
    let next_place : suc (p + d) ≡ suc p + d = omega arith in
    let one_less : suc (p + d) ≡ p + suc d = omega arith in
    let r' : ranks_from (suc (p + d)) cs ≡ true = ranks-after (p + d) c cs r in
    cases (is_free_checkpoint c)
    (λ f. rw (f, f) (upto-marks k (suc p) d m cs (rw f at g) (rw next_place at r')))
    (λ f.
    let g' : climbing (λ c. c.number) c.number cs ≡ true = and_right (leb m c.number) _ (rw f at g) in
    cases (leb c.number k)
    (λ t.
    let more : suc d + j ≡ d + suc j = omega arith in
    rw (f, t, le-ltb k c.number (leb-true c.number k t))
    (snoc-marks p (without (at_most k) no_checkpoint cs) ∙ upto-marks k p (suc d) c.number cs g' (rw one_less at r')
    ∙ ap (λ (z : ℕ). map (lowered z) (filter (λ c. ltb k c.number) (marks_of cs))) more))
    (λ t.
    let over : k < c.number = leb-false c.number k t in
    let none : j ≡ 0 = ap (λ (ds : List Checkpoint). length ds) (none-upto k c.number cs over g') in
    let rank : suc p ≡ c.rank - (d + j) = omega (arith, rank-here (p + d) c cs r f) in
    rw (f, t, lt-ltb k c.number over, f)
    (ap₂ ◌∷◌ (λ i. record { name = c.name; number = c.number; rank = rank i }) (upto-marks k (suc p) d c.number cs g' (rw next_place at r')))))

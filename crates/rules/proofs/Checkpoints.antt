-- Checkpoints: what well-formed says of them, which changes keep it, and what a change that forgets the later ones sees of the others.
use Prim.Native.Nat.{ℕ, zero, suc, ◌+◌, ◌-◌, ◌≤◌, ◌<◌}
use mathlib.Core.Path.{◌≡◌, refl, sym, ◌∙◌, ap, ap₂, subst}
use mathlib.Core.Bool.{Bool, true, false, not, ◌&&◌, ◌||◌}
use mathlib.Core.List.{List, [], ◌∷◌, ◌++◌}
use native.Mathlib.Omega.{arith}
use lib.Dec.{ltb, leb, eqb}
use lib.ListN.{length}
use borrow.Author.Tests.{ltb-true, ltb-false, leb-true, leb-false, eqb-true, lt-ltb, le-ltb, le-leb, lt-leb, eq-eqb, ne_eqb, not-true}
use Rattle.lists.specs.Padded.{any, every, first, climbing, free_last, without, placed, cut}
use Rattle.lists.specs.Counted.{each_from}
use Rattle.lists.proofs.Cond.{either, cases, and_left, and_right, and_both, or_left, or_right, or-one, or-two, or-then, or-by, wrong}
use Rattle.lists.proofs.Every.{every-imp, every-imp₂, every-placed, every-without, every-changed}
use Rattle.lists.proofs.Some.{none-placed, none-without, none-snoc, any-every}
use Rattle.lists.proofs.Lengths.{length-placed, length_without}
use Rattle.lists.proofs.Counting.{each-length}
use Rattle.lists.proofs.Sweep.{Untouched, sweep, sweep-hides, sweep-none, sweep-without}
use Rattle.lists.proofs.Cut.{blanks, length_cut, every-cut, none_left, cut-none, cut-sweep, cut_again, cut-without, cut-cut, cut-placed, cut-set, every-each, any-each, cut-each, sweep-each, last-each}
use Rattle.lists.proofs.Climbing.{climb-each, last-cut, last-without, last-placed, climb-cut, climb-without, climb-placed, before-it, sweep-cut}
use Rattle.rules.specs.declared.Checkpoint.{Checkpoint}
use Rattle.rules.specs.Shape.{no_checkpoint, is_free_checkpoint}
use Rattle.rules.specs.Checkpoints.{named, in_use, number_of, name_allowed, rank_at, ranked, add_checkpoint, above, forget_above, at_most, forget_up_to, forget_from}
use Rattle.rules.specs.WellFormed.{checkpoint_length, free_checkpoint_zero, checkpoints_zero, checkpoints_last, placed_at, checkpoints_placed, checkpoints_never_fall, name_fits, names_fit, names_distinct, ranks_from, checkpoints_formed}

-- ---- the clauses, as facts

pub record Marks (h last : ℕ) (cs : List Checkpoint) : Type 0 where
  pub places : length cs ≡ 8
  pub zeros : every free_checkpoint_zero cs ≡ true
  pub last-free : free_last (λ c. c.number) cs ≡ true
  pub within : every (placed_at h last) cs ≡ true
  pub climbs : climbing (λ c. c.number) 0 cs ≡ true
  pub names : every name_fits cs ≡ true
  pub apart : names_distinct cs ≡ true
  pub ranks : ranks_from 0 cs ≡ true

pub checkpoints-tell : (h last : ℕ) (cs : List Checkpoint) → checkpoints_formed h last cs ≡ true → Marks h last cs
unfolding checkpoints_formed every
checkpoints-tell h last cs e =
    let e₁ = and_right (checkpoint_length cs) _ e in
    let e₂ = and_right (checkpoints_zero cs) _ e₁ in
    let e₃ = and_right (checkpoints_last cs) _ e₂ in
    let e₄ = and_right (checkpoints_placed h last cs) _ e₃ in
    let e₅ = and_right (checkpoints_never_fall cs) _ e₄ in
    let e₆ = and_right (names_fit cs) _ e₅ in
    let e₇ = and_right (names_distinct cs) _ e₆ in
    record {
      places = eqb-true (length cs) 8 (and_left (checkpoint_length cs) _ e);
      zeros = and_left (checkpoints_zero cs) _ e₁;
      last-free = and_left (checkpoints_last cs) _ e₂;
      within = and_left (checkpoints_placed h last cs) _ e₃;
      climbs = and_left (checkpoints_never_fall cs) _ e₄;
      names = and_left (names_fit cs) _ e₅;
      apart = and_left (names_distinct cs) _ e₆;
      ranks = and_left (ranks_from 0 cs) _ e₇;
    }

pub checkpoints-are : (h last : ℕ) (cs : List Checkpoint) → Marks h last cs → checkpoints_formed h last cs ≡ true
unfolding checkpoints_formed every
checkpoints-are h last cs m =
    and_both (checkpoint_length cs) _ (eq-eqb (length cs) 8 m.places)
    (and_both (checkpoints_zero cs) _ m.zeros
    (and_both (checkpoints_last cs) _ m.last-free
    (and_both (checkpoints_placed h last cs) _ m.within
    (and_both (checkpoints_never_fall cs) _ m.climbs
    (and_both (names_fit cs) _ m.names
    (and_both (names_distinct cs) _ m.apart
    (and_both (ranks_from 0 cs) true m.ranks refl)))))))

-- a free place is zero
free-mark : (c : Checkpoint) → free_checkpoint_zero c ≡ true → is_free_checkpoint c ≡ true → c ≡ no_checkpoint
unfolding free_checkpoint_zero
free-mark c z f =
    let r : (eqb c.name 0 && eqb c.rank 0) ≡ true = or-then (not (is_free_checkpoint c)) _ z (ap not f) in
    λ i. record {
      name = eqb-true c.name 0 (and_left _ _ r) i;
      number = eqb-true c.number 0 f i;
      rank = eqb-true c.rank 0 (and_right (eqb c.name 0) _ r) i;
    }

-- ---- names

distinct-blanks : (n : ℕ) → names_distinct (blanks no_checkpoint n) ≡ true
unfolding names_distinct
distinct-blanks zero = refl
distinct-blanks (suc n) = distinct-blanks n

distinct-cut : (p : Checkpoint → Bool) (cs : List Checkpoint) → names_distinct cs ≡ true → names_distinct (cut p no_checkpoint cs) ≡ true
unfolding names_distinct cut
distinct-cut p [] g = refl
distinct-cut p (c ∷ cs) g =
    either (λ (r : List Checkpoint). names_distinct r ≡ true) (p c) (λ t. distinct-blanks (length cs))
    (λ t. and_both _ _
    (or-by (is_free_checkpoint c) _ (λ f. ap not (none_left p no_checkpoint (named c.name) refl cs (not-true _ (or-then (is_free_checkpoint c) _ (and_left _ _ g) f)))))
    (distinct-cut p cs (and_right (is_free_checkpoint c || not (in_use c.name cs)) _ g)))

distinct_snoc : (cs : List Checkpoint) → names_distinct cs ≡ true → names_distinct (cs ++ no_checkpoint ∷ []) ≡ true
unfolding names_distinct
distinct_snoc [] g = refl
distinct_snoc (c ∷ cs) g =
    and_both _ _
    (or-by (is_free_checkpoint c) _ (λ f. ap not (none-snoc (named c.name) no_checkpoint cs refl (not-true _ (or-then (is_free_checkpoint c) _ (and_left _ _ g) f)))))
    (distinct_snoc cs (and_right (is_free_checkpoint c || not (in_use c.name cs)) _ g))

distinct_without : (t : Checkpoint → Bool) (cs : List Checkpoint) → names_distinct cs ≡ true → names_distinct (without t no_checkpoint cs) ≡ true
unfolding names_distinct without
distinct_without t [] g = refl
distinct_without t (c ∷ cs) g =
    let rest : names_distinct (without t no_checkpoint cs) ≡ true = distinct_without t cs (and_right (is_free_checkpoint c || not (in_use c.name cs)) _ g) in
    either (λ (r : List Checkpoint). names_distinct r ≡ true) (t c) (λ k. distinct_snoc (without t no_checkpoint cs) rest)
    (λ k. and_both _ _
    (or-by (is_free_checkpoint c) _ (λ f. ap not (none-without (named c.name) t no_checkpoint refl cs (not-true _ (or-then (is_free_checkpoint c) _ (and_left _ _ g) f)))))
    rest)

-- a new mark whose name is not in use
distinct-placed : (e : Checkpoint) (cs : List Checkpoint) → in_use e.name cs ≡ false → names_distinct cs ≡ true → names_distinct (placed is_free_checkpoint e cs) ≡ true
unfolding names_distinct placed any
distinct-placed e [] n g = refl
distinct-placed e (c ∷ cs) n g =
    let rest = and_right (is_free_checkpoint c || not (in_use c.name cs)) _ g in
    either (λ (r : List Checkpoint). names_distinct r ≡ true) (is_free_checkpoint c)
    (λ f. and_both _ _ (or-two (is_free_checkpoint e) _ (ap not (or_right (named e.name c) _ n))) rest)
    (λ f. and_both _ _
    (or-by (is_free_checkpoint c) _ (λ f.
    let other : eqb c.name e.name ≡ false = rw f at (or_left (named e.name c) _ n) in
    ap not (none-placed (named c.name) is_free_checkpoint e cs
    (cases (named c.name e) (λ k. wrong (eq-eqb c.name e.name (sym (eqb-true e.name c.name (and_right (not (is_free_checkpoint e)) _ k)))) other) (λ k. k))
    (not-true _ (or-then (is_free_checkpoint c) _ (and_left _ _ g) f)))))
    (distinct-placed e cs (or_right (named e.name c) _ n) rest))

distinct-ranked : (i : ℕ) (cs : List Checkpoint) → names_distinct (each_from rank_at i cs) ≡ names_distinct cs
unfolding names_distinct each_from
distinct-ranked i [] = refl
distinct-ranked i (c ∷ cs) =
    ap₂ ◌&&◌ (ap (λ (t : Bool). is_free_checkpoint c || not t) (any-each rank_at (named c.name) (λ j d. refl) (suc i) cs)) (distinct-ranked (suc i) cs)

-- all marks of that name, if there are any, remember n
abbrev pub numbered_at : ℕ → ℕ → Checkpoint → Bool
numbered_at x n c = not (named x c) || eqb c.number n

-- names are distinct, so there is one at most
pub number_is : (x : ℕ) (cs : List Checkpoint) → names_distinct cs ≡ true → every (numbered_at x (number_of x cs)) cs ≡ true
unfolding names_distinct every first
number_is x [] g = refl
number_is x (c ∷ cs) g = cases (named x c)
    (λ k.
    let f : is_free_checkpoint c ≡ false = not-true _ (and_left _ _ k) in
    let same : c.name ≡ x = eqb-true c.name x (and_right (not (is_free_checkpoint c)) _ k) in
    let alone : in_use x cs ≡ false = subst (λ (y : ℕ). in_use y cs ≡ false) same (not-true _ (or-then (is_free_checkpoint c) _ (and_left _ _ g) f)) in
    let here : first (named x) no_checkpoint (c ∷ cs) ≡ c = rw k in
    subst (λ (d : Checkpoint). every (numbered_at x d.number) (c ∷ cs) ≡ true) (sym here)
    (and_both (numbered_at x c.number c) _ (or-two (not (named x c)) _ (eq-eqb c.number c.number refl))
    (every-imp (λ d. not (named x d)) (numbered_at x c.number) (λ d t. or-one (not (named x d)) _ t) cs (any-every (named x) cs alone))))
    (λ k.
    let later : first (named x) no_checkpoint (c ∷ cs) ≡ first (named x) no_checkpoint cs = rw k in
    subst (λ (d : Checkpoint). every (numbered_at x d.number) (c ∷ cs) ≡ true) (sym later)
    (and_both (numbered_at x (number_of x cs) c) _ (or-one (not (named x c)) _ (ap not k))
    (number_is x cs (and_right (is_free_checkpoint c || not (in_use c.name cs)) _ g))))

pub at-number : (x n : ℕ) (c : Checkpoint) → numbered_at x n c ≡ true → named x c ≡ true → c.number ≡ n
at-number x n c g k = eqb-true c.number n (or-then (not (named x c)) _ g (ap not k))

-- ---- ranks

ranks-blanks : (i n : ℕ) → ranks_from i (blanks no_checkpoint n) ≡ true
unfolding ranks_from
ranks-blanks i zero = refl
ranks-blanks i (suc n) = ranks-blanks (suc i) n

ranks-cut : (p : Checkpoint → Bool) (i : ℕ) (cs : List Checkpoint) → ranks_from i cs ≡ true → ranks_from i (cut p no_checkpoint cs) ≡ true
unfolding ranks_from cut
ranks-cut p i [] g = refl
ranks-cut p i (c ∷ cs) g =
    either (λ (r : List Checkpoint). ranks_from i r ≡ true) (p c) (λ t. ranks-blanks (suc i) (length cs))
    (λ t.
    let here : Bool = is_free_checkpoint c || eqb c.rank (suc i) in
    and_both here _ (and_left here _ g) (ranks-cut p (suc i) cs (and_right here _ g)))

-- the function that gives the ranks
ranks-given : (i : ℕ) (cs : List Checkpoint) → ranks_from i (each_from rank_at i cs) ≡ true
unfolding ranks_from each_from
ranks-given i [] = refl
ranks-given i (c ∷ cs) =
    and_both _ _ (or-by (is_free_checkpoint c) _ (λ f. rw f (eq-eqb (suc i) (suc i) refl))) (ranks-given (suc i) cs)

-- it leaves free places zero
rank-zero : (i : ℕ) (c : Checkpoint) → free_checkpoint_zero c ≡ true → free_checkpoint_zero (rank_at i c) ≡ true
unfolding free_checkpoint_zero
rank-zero i c g = cases (is_free_checkpoint c) (λ f. rw f (rw f at g)) (λ f. or-one _ _ (ap not f))

-- where they are right it changes none
pub ranks-stay : (i : ℕ) (cs : List Checkpoint) → ranks_from i cs ≡ true → each_from rank_at i cs ≡ cs
unfolding ranks_from each_from
ranks-stay i [] g = refl
ranks-stay i (c ∷ cs) g = ap₂ ◌∷◌
    (cases (is_free_checkpoint c) (λ f. rw f)
    (λ f.
    let r : c.rank ≡ suc i = eqb-true c.rank (suc i) (or-then (is_free_checkpoint c) _ (and_left _ _ g) f) in
    rw f (λ k. record { name = c.name; number = c.number; rank = sym r k })))
    (ranks-stay (suc i) cs (and_right (is_free_checkpoint c || eqb c.rank (suc i)) _ g))

-- ---- what keeps the checkpoints well formed

-- they are forgotten from one on, and n is the next number
cut-formed :
    (p : Checkpoint → Bool) (h last n : ℕ) (cs : List Checkpoint) → 0 < n → Marks h last cs → every (λ c. leb c.number n) (cut p no_checkpoint cs) ≡ true
    → Marks h (n - 1) (cut p no_checkpoint cs)
unfolding free_checkpoint_zero placed_at name_fits
cut-formed p h last n cs pos m low = record {
  places = length_cut p no_checkpoint cs ∙ m.places;
  zeros = every-cut p no_checkpoint free_checkpoint_zero refl cs m.zeros;
  last-free = last-cut (λ c. c.number) no_checkpoint refl p cs m.last-free;
  within =
      every-imp₂ (placed_at h last) (λ c. leb c.number n) (placed_at h (n - 1))
      (λ c g k. or-by (is_free_checkpoint c) _ (λ f. and_both (ltb h c.number) _ (and_left _ _ (or-then (is_free_checkpoint c) _ g f))
      (le-leb c.number (n - 1 + 1) (omega (arith, leb-true c.number n k)))))
      (cut p no_checkpoint cs) (every-cut p no_checkpoint (placed_at h last) refl cs m.within) low;
  climbs = climb-cut (λ c. c.number) no_checkpoint refl p 0 cs m.climbs;
  names = every-cut p no_checkpoint name_fits refl cs m.names;
  apart = distinct-cut p cs m.apart;
  ranks = ranks-cut p 0 cs m.ranks;
}

-- an abort
pub above-formed : (h last n : ℕ) (cs : List Checkpoint) → 0 < n → Marks h last cs → Marks h (n - 1) (forget_above n cs)
unfolding forget_above
above-formed h last n cs pos m =
    let same : sweep (above n) no_checkpoint cs ≡ cut (above n) no_checkpoint cs = sweep-cut (λ c. c.number) no_checkpoint refl free_checkpoint_zero free-mark n 0 cs m.climbs m.zeros in
    let low : every (λ c. leb c.number n) (sweep (above n) no_checkpoint cs) ≡ true = every-changed free_checkpoint_zero (λ c. leb c.number n) (above n) (λ c. no_checkpoint)
    (λ c g t. le-leb 0 n (omega arith)) (λ c g t. le-leb c.number n (ltb-false n c.number t)) cs m.zeros in
    subst (Marks h (n - 1)) (sym same)
    (cut-formed (above n) h last n cs pos m (subst (λ (r : List Checkpoint). every (λ c. leb c.number n) r ≡ true) same low))

-- no mark before x remembers more than x does
pub before-low : (x n h last : ℕ) (cs : List Checkpoint) → 0 < n → Marks h last cs → every (numbered_at x n) cs ≡ true → in_use x cs ≡ true → every (λ c. leb c.number n) (cut (named x) no_checkpoint cs) ≡ true
before-low x n h last cs pos m g u = before-it (λ c. c.number) no_checkpoint refl (named x) n (numbered_at x n) (at-number x n) 0 cs pos m.climbs g u

-- a return
pub before-formed : (x n h last : ℕ) (cs : List Checkpoint) → 0 < n → Marks h last cs → every (numbered_at x n) cs ≡ true → in_use x cs ≡ true → Marks h (n - 1) (forget_from x cs)
unfolding forget_from
before-formed x n h last cs pos m g u = cut-formed (named x) h last n cs pos m (before-low x n h last cs pos m g u)

-- a later last number
pub checkpoints-later : (h last up : ℕ) (cs : List Checkpoint) → last ≤ up → Marks h last cs → Marks h up cs
unfolding placed_at
checkpoints-later h last up cs k m = record {
  places = m.places;
  zeros = m.zeros;
  last-free = m.last-free;
  within =
      every-imp (placed_at h last) (placed_at h up)
      (λ c g. or-by (is_free_checkpoint c) _ (λ f.
      let r : (ltb h c.number && leb c.number (last + 1)) ≡ true = or-then (is_free_checkpoint c) _ g f in
      and_both (ltb h c.number) _ (and_left _ _ r) (le-leb c.number (up + 1) (omega (arith, leb-true c.number (last + 1) (and_right (ltb h c.number) _ r))))))
      cs m.within;
  climbs = m.climbs;
  names = m.names;
  apart = m.apart;
  ranks = m.ranks;
}

-- a commit
pub upto-formed : (h last k : ℕ) (cs : List Checkpoint) → Marks h last cs → Marks k last (forget_up_to k cs)
unfolding forget_up_to free_checkpoint_zero placed_at name_fits
upto-formed h last k cs m =
    let ws : List Checkpoint = without (at_most k) no_checkpoint cs in
    record {
      places = each-length rank_at 0 ws ∙ length_without (at_most k) no_checkpoint cs ∙ m.places;
      zeros =
          every-each rank_at free_checkpoint_zero free_checkpoint_zero (λ i c g. rank-zero i c g) 0 ws
          (every-without free_checkpoint_zero free_checkpoint_zero (at_most k) no_checkpoint refl (λ c g t. g) cs m.zeros);
      last-free = last-each rank_at (λ c. c.number) (λ i c. refl) 0 ws ∙ last-without (λ c. c.number) no_checkpoint refl (at_most k) cs m.last-free;
      within =
          every-each rank_at (placed_at k last) (placed_at k last) (λ i c g. g) 0 ws
          (every-without (placed_at h last) (placed_at k last) (at_most k) no_checkpoint refl
          (λ c g t. or-by (is_free_checkpoint c) _ (λ f.
          let over : leb c.number k ≡ false = rw f at t in
          and_both (ltb k c.number) _ (lt-ltb k c.number (leb-false c.number k over)) (and_right (ltb h c.number) _ (or-then (is_free_checkpoint c) _ g f))))
          cs m.within);
      climbs = climb-each rank_at (λ c. c.number) (λ i c. refl) 0 0 ws ∙ climb-without (λ c. c.number) no_checkpoint refl (at_most k) 0 cs m.climbs;
      names = every-each rank_at name_fits name_fits (λ i c g. g) 0 ws (every-without name_fits name_fits (at_most k) no_checkpoint refl (λ c g t. g) cs m.names);
      apart = distinct-ranked 0 ws ∙ distinct_without (at_most k) cs m.apart;
      ranks = ranks-given 0 ws;
    }

-- a setting
pub set-formed : (x h last : ℕ) (cs : List Checkpoint) → h ≤ last → name_allowed x ≡ true → in_use x cs ≡ false → Marks h last cs → Marks h last (add_checkpoint x (last + 1) cs)
unfolding add_checkpoint free_checkpoint_zero placed_at name_fits
set-formed x h last cs order allowed unused m =
    let e : Checkpoint = record { name = x; number = last + 1; rank = 0 } in
    let ws : List Checkpoint = placed is_free_checkpoint e cs in
    let full : is_free_checkpoint e ≡ false = ne_eqb (last + 1) 0 (λ z. omega arith) in
    let low : every (λ c. leb c.number (last + 1)) cs ≡ true = every-imp (placed_at h last) (λ c. leb c.number (last + 1))
    (λ c g. cases (is_free_checkpoint c) (λ f. le-leb c.number (last + 1) (omega (arith, eqb-true c.number 0 f))) (λ f. and_right (ltb h c.number) _ (or-then (is_free_checkpoint c) _ g f))) cs m.within in
    record {
      places = each-length rank_at 0 ws ∙ length-placed is_free_checkpoint e cs ∙ m.places;
      zeros =
          every-each rank_at free_checkpoint_zero free_checkpoint_zero (λ i c g. rank-zero i c g) 0 ws
          (every-placed free_checkpoint_zero is_free_checkpoint e cs (or-one (not (is_free_checkpoint e)) _ (ap not full)) m.zeros);
      last-free = last-each rank_at (λ c. c.number) (λ i c. refl) 0 ws ∙ last-placed (λ c. c.number) no_checkpoint refl e full cs m.last-free;
      within =
          every-each rank_at (placed_at h last) (placed_at h last) (λ i c g. g) 0 ws
          (every-placed (placed_at h last) is_free_checkpoint e cs
          (or-two (is_free_checkpoint e) _ (and_both (ltb h (last + 1)) _ (lt-ltb h (last + 1) (omega arith)) (le-leb (last + 1) (last + 1) (omega arith)))) m.within);
      climbs =
          climb-each rank_at (λ c. c.number) (λ i c. refl) 0 0 ws
          ∙ climb-placed (λ c. c.number) no_checkpoint refl e full 0 cs (omega arith) low m.last-free m.climbs;
      names = every-each rank_at name_fits name_fits (λ i c g. g) 0 ws (every-placed name_fits is_free_checkpoint e cs (or-two (is_free_checkpoint e) _ allowed) m.names);
      apart = distinct-ranked 0 ws ∙ distinct-placed e cs unused m.apart;
      ranks = ranks-given 0 ws;
    }

-- ---- what a forgetting of later marks sees

-- of an abort and a commit; n is the next operation number where it is undone
pub record Forgets (forget : List Checkpoint → List Checkpoint) (n : ℕ) (cs : List Checkpoint) : Type 0 where
  pub aborts : (m : ℕ) → n ≤ m → forget (forget_above m cs) ≡ forget cs
  pub commits : (k : ℕ) → k < n → forget (forget_up_to k cs) ≡ forget_up_to k (forget cs)

-- those above n
pub above-forgets : (n : ℕ) (cs : List Checkpoint) → Forgets (forget_above n) n cs
unfolding forget_above forget_up_to
above-forgets n cs = record {
  aborts = λ m h. sweep-hides (above n) no_checkpoint (above m) (λ c. no_checkpoint) (λ c t. rw (lt-ltb n c.number (omega (arith, ltb-true m c.number t)), le-ltb n 0 (omega arith))) cs;
  commits = λ k h.
      sweep-each rank_at (above n) (λ i c. refl) no_checkpoint (λ i. refl) 0 (without (at_most k) no_checkpoint cs)
      ∙ ap ranked (sym (sweep-without (early k h) cs (le-ltb n 0 (omega arith))));
}
  where
    early : (k : ℕ) → k < n → Untouched (above n) no_checkpoint (at_most k)
    early k h = record {
      hollow = refl;
      apart = λ c t. le-ltb n c.number (omega (arith, leb-true c.number k (and_right (not (is_free_checkpoint c)) _ t)));
    }

-- where n is the next number none is above it
pub above-none : (h last n : ℕ) (cs : List Checkpoint) → last + 1 ≡ n → Marks h last cs → forget_above n cs ≡ cs
unfolding forget_above placed_at
above-none h last n cs e m =
    sweep-none (above n) no_checkpoint (placed_at h last)
    (λ c g. cases (is_free_checkpoint c) (λ f. le-ltb n c.number (omega (arith, eqb-true c.number 0 f)))
    (λ f. le-ltb n c.number (omega (arith, leb-true c.number (last + 1) (and_right (ltb h c.number) _ (or-then (is_free_checkpoint c) _ g f))))))
    cs m.within

-- x and those set later: x is in force, and remembers n
module _ (x n h last : ℕ) (cs : List Checkpoint) (pos : 0 < n) (m : Marks h last cs) (g : every (numbered_at x n) cs ≡ true) (u : in_use x cs ≡ true) where
  pub before-forgets : Forgets (forget_from x) n cs
  unfolding forget_from forget_above forget_up_to
  before-forgets = record {
    aborts = λ i k.
        cut-sweep (named x) no_checkpoint (above i) (numbered_at x n) (λ c o t. le-ltb i c.number (omega (arith, at-number x n c o t))) cs g
        (every-imp (λ c. leb c.number n) (λ c. not (above i c)) (λ c t. ap not (le-ltb i c.number (omega (arith, leb-true c.number n t)))) (cut (named x) no_checkpoint cs) (before-low x n h last cs pos m g u));
    commits = λ k j.
        cut-each rank_at (named x) (λ i c. refl) no_checkpoint (λ i. refl) 0 (without (at_most k) no_checkpoint cs)
        ∙ ap ranked (cut-without (named x) no_checkpoint refl (at_most k) (numbered_at x n) refl
        (λ c o t. rw (lt-leb c.number k (omega (arith, at-number x n c o t))) (and-false (not (is_free_checkpoint c)))) cs g);
  }
    where
      and-false : (t : Bool) → (t && false) ≡ false
      and-false true = refl
      and-false false = refl

  -- a mark set later
  pub before-sets : (y i : ℕ) → forget_from x (add_checkpoint y i cs) ≡ forget_from x cs
  unfolding forget_from add_checkpoint
  before-sets y i =
      cut-each rank_at (named x) (λ j c. refl) no_checkpoint (λ j. refl) 0 (placed is_free_checkpoint (record { name = y; number = i; rank = 0 }) cs)
      ∙ ap ranked (cut-placed (named x) no_checkpoint (λ c. c.number) (record { name = y; number = i; rank = 0 }) (λ c t. rw t) cs m.last-free u)
      ∙ sym (cut-each rank_at (named x) (λ j c. refl) no_checkpoint (λ j. refl) 0 cs)
      ∙ ap (cut (named x) no_checkpoint) (ranks-stay 0 cs m.ranks)

-- a return to a mark set later: x is still in force after it
pub before-restores : (x y : ℕ) (cs : List Checkpoint) → eqb y x ≡ false → in_use x (forget_from y cs) ≡ true → forget_from x (forget_from y cs) ≡ forget_from x cs
unfolding forget_from
before-restores x y cs other u =
    cut-cut (named x) no_checkpoint refl (named y)
    (λ c t. cases (named y c)
    (λ k. wrong (eq-eqb y x (sym (eqb-true c.name y (and_right (not (is_free_checkpoint c)) _ k)) ∙ eqb-true c.name x (and_right (not (is_free_checkpoint c)) _ t))) other) (λ k. k))
    cs u

-- the return to x itself
pub before-again : (x : ℕ) (cs : List Checkpoint) → forget_from x (forget_from x cs) ≡ forget_from x cs
unfolding forget_from
before-again x cs = cut_again (named x) no_checkpoint refl cs

-- the setting of x
pub before-set : (x i h last : ℕ) (cs : List Checkpoint) → Marks h last cs → eqb i 0 ≡ false → in_use x cs ≡ false → forget_from x (add_checkpoint x i cs) ≡ cs
unfolding forget_from add_checkpoint
before-set x i h last cs m full unused =
    cut-each rank_at (named x) (λ j c. refl) no_checkpoint (λ j. refl) 0 (placed is_free_checkpoint (record { name = x; number = i; rank = 0 }) cs)
    ∙ ap ranked (cut-set (named x) no_checkpoint (λ c. c.number) (record { name = x; number = i; rank = 0 }) free_checkpoint_zero free-mark
    (and_both _ _ (ap not full) (eq-eqb x x refl)) cs m.zeros m.last-free unused)
    ∙ ranks-stay 0 cs m.ranks

-- before it nothing is forgotten
pub before-none : (x : ℕ) (cs : List Checkpoint) → in_use x cs ≡ false → forget_from x cs ≡ cs
unfolding forget_from
before-none x cs unused = cut-none (named x) no_checkpoint cs unused

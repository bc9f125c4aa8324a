-- Well-formed checkpoints, as the code tests them: the list from a place on, and that the pass over the list is the clauses of well-formed.
use Prim.Native.Nat.{ℕ, suc, ◌+◌, ◌≤◌, ◌<◌}
use mathlib.Core.Path.{◌≡◌, refl, sym, ap}
use mathlib.Core.Bool.{Bool, true, false, not, ◌&&◌, ◌||◌}
use mathlib.Core.List.{List, [], ◌∷◌}
use native.Mathlib.Numerals.{add-one}
use lib.Dec.{ltb, leb, eqb}
use lib.ListN.{length, get_or, drop}
use borrow.Author.Tests.{eq-eqb, ne_eqb, not-true, not-false}
use Rattle.lists.specs.Padded.{every, climbing, free_last}
use Rattle.lists.proofs.Cond.{cases, and_left, and_right, and_both, or-one, or-two, or-then}
use Rattle.lists.proofs.Every.{every-imp, every-imp₂}
use Rattle.lists.proofs.Loops.{rest-cons, rest-none}
use Rattle.rules.specs.declared.Checkpoint.{Checkpoint}
use Rattle.rules.specs.Shape.{no_checkpoint, is_free_checkpoint}
use Rattle.rules.specs.Checkpoints.{in_use, name_allowed}
use Rattle.rules.specs.WellFormed.{free_checkpoint_zero, placed_at, name_fits, names_distinct, ranks_from, checkpoints_formed}
use Rattle.rules.proofs.Checkpoints.{checkpoints-tell, checkpoints-are}
use Rattle.checkpoints.specs.Good.{zero_checkpoint, checkpoint_good, checkpoints_good}

-- ---- the marks from place i on

module _ (h last m : ℕ) (cs : List Checkpoint) (i : ℕ) where
  abbrev next : Checkpoint
  next = get_or cs i no_checkpoint

  pub good-end : length cs ≤ i → checkpoints_good h last m i (drop i cs) ≡ true
  unfolding checkpoints_good
  good-end p = rw (rest-none is_free_checkpoint no_checkpoint cs i p)

  module _ (p : i < length cs) where
    pub good-free : next.number ≡ 0 → checkpoints_good h last m i (drop i cs) ≡ every zero_checkpoint (drop i cs)
    unfolding checkpoints_good
    good-free e = rw (rest-cons is_free_checkpoint no_checkpoint cs i p, eq-eqb next.number 0 e)

    -- a mark: r is what its own tests say
    module _ (used : next.number ≡ 0 → ⊥) {r : Bool} (own : r ≡ checkpoint_good h last m i next) where
      pub good-fails : not r ≡ true → checkpoints_good h last m i (drop i cs) ≡ false
      unfolding checkpoints_good
      good-fails e =
          rw (rest-cons is_free_checkpoint no_checkpoint cs i p, ne_eqb next.number 0 used, ← own, not-true r e)

      module _ (e : not r ≡ false) where
        pub good-twice : in_use next.name (drop (i + 1) cs) ≡ true → checkpoints_good h last m i (drop i cs) ≡ false
        unfolding checkpoints_good
        good-twice t =
            rw (rest-cons is_free_checkpoint no_checkpoint cs i p, ne_eqb next.number 0 used, ← own, not-false r e, t)

        pub good-next :
            in_use next.name (drop (i + 1) cs) ≡ false
            → checkpoints_good h last m i (drop i cs) ≡ checkpoints_good h last next.number (i + 1) (drop (i + 1) cs)
        unfolding checkpoints_good
        good-next t =
            rw (rest-cons is_free_checkpoint no_checkpoint cs i p, ne_eqb next.number 0 used, ← own, not-false r e, t, add-one i)

-- ---- the pass is the clauses

-- a free place that is zero
zero-free : (c : Checkpoint) → zero_checkpoint c ≡ true → is_free_checkpoint c ≡ true
unfolding zero_checkpoint
zero-free c e = and_left (is_free_checkpoint c) _ e

free-zero : (c : Checkpoint) → free_checkpoint_zero c ≡ true → is_free_checkpoint c ≡ true → zero_checkpoint c ≡ true
unfolding zero_checkpoint free_checkpoint_zero
free-zero c z f = and_both (is_free_checkpoint c) _ f (or-then (not (is_free_checkpoint c)) _ z (ap not f))

-- the clauses of the marks from place i on, where none before is above m
record Rest (h last m i : ℕ) (cs : List Checkpoint) : Type 0 where
  zeros : every free_checkpoint_zero cs ≡ true
  last-free : free_last (λ c. c.number) cs ≡ true
  within : every (placed_at h last) cs ≡ true
  climbs : climbing (λ c. c.number) m cs ≡ true
  names : every name_fits cs ≡ true
  apart : names_distinct cs ≡ true
  ranks : ranks_from i cs ≡ true

module _ (h last : ℕ) where
  -- free places alone
  blank-rest : (m i : ℕ) (cs : List Checkpoint) → every zero_checkpoint cs ≡ true → Rest h last m i cs
  unfolding every free_last climbing names_distinct ranks_from zero_checkpoint free_checkpoint_zero placed_at name_fits
  blank-rest m i [] e =
      record { zeros = refl; last-free = refl; within = refl; climbs = refl; names = refl; apart = refl; ranks = refl }
  blank-rest m i (c ∷ cs) e =
      let f : is_free_checkpoint c ≡ true = zero-free c (and_left _ _ e) in
      let z : zero_checkpoint c ≡ true = and_left _ _ e in
      let zs : every zero_checkpoint cs ≡ true = and_right (zero_checkpoint c) _ e in
      let r : Rest h last m (suc i) cs = blank-rest m (suc i) cs zs in
      record {
        zeros = and_both (free_checkpoint_zero c) _ (or-two (not (is_free_checkpoint c)) _ (and_right (is_free_checkpoint c) _ z)) r.zeros;
        last-free = rw f (every-imp zero_checkpoint is_free_checkpoint zero-free cs zs);
        within = and_both (placed_at h last c) _ (or-one _ _ f) r.within;
        climbs = rw f r.climbs;
        names = and_both (name_fits c) _ (or-one _ _ f) r.names;
        apart = and_both _ _ (or-one _ _ f) r.apart;
        ranks = and_both _ _ (or-one _ _ f) r.ranks;
      }

  good-rest : (m i : ℕ) (cs : List Checkpoint) → checkpoints_good h last m i cs ≡ true → Rest h last m i cs
  unfolding checkpoints_good checkpoint_good every free_last climbing names_distinct ranks_from free_checkpoint_zero placed_at name_fits
  good-rest m i [] e =
      record { zeros = refl; last-free = refl; within = refl; climbs = refl; names = refl; apart = refl; ranks = refl }
  good-rest m i (c ∷ cs) e = cases (is_free_checkpoint c)
      (λ f. blank-rest m i (c ∷ cs) (rw f at e))
      (λ f.
      let g : (checkpoint_good h last m i c && (not (in_use c.name cs) && checkpoints_good h last c.number (suc i) cs)) ≡ true = rw f at e in
      let g₁ = and_left (checkpoint_good h last m i c) _ g in
      let g₂ = and_right (leb m c.number) _ g₁ in
      let g₃ = and_right (ltb h c.number) _ g₂ in
      let g₄ = and_right (leb c.number (last + 1)) _ g₃ in
      let t = and_right (checkpoint_good h last m i c) _ g in
      let r : Rest h last c.number (suc i) cs = good-rest c.number (suc i) cs (and_right (not (in_use c.name cs)) _ t) in
      record {
        zeros = and_both (free_checkpoint_zero c) _ (or-one _ _ (ap not f)) r.zeros;
        last-free = rw f r.last-free;
        within = and_both (placed_at h last c) _ (or-two (is_free_checkpoint c) _ (and_both (ltb h c.number) (leb c.number (last + 1)) (and_left _ _ g₂) (and_left _ _ g₃))) r.within;
        climbs = rw f (and_both (leb m c.number) _ (and_left _ _ g₁) r.climbs);
        names = and_both (name_fits c) _ (or-two (is_free_checkpoint c) _ (and_left _ _ g₄)) r.names;
        apart = and_both _ _ (or-two (is_free_checkpoint c) _ (and_left _ _ t)) r.apart;
        ranks = and_both _ _ (or-two (is_free_checkpoint c) _ (and_right (name_allowed c.name) _ g₄)) r.ranks;
      })

  rest-good : (m i : ℕ) (cs : List Checkpoint) → Rest h last m i cs → checkpoints_good h last m i cs ≡ true
  unfolding checkpoints_good checkpoint_good every free_last climbing names_distinct ranks_from placed_at name_fits
  rest-good m i [] r = refl
  rest-good m i (c ∷ cs) r = cases (is_free_checkpoint c)
      (λ f.
      rw f
      (every-imp₂ free_checkpoint_zero is_free_checkpoint zero_checkpoint free-zero (c ∷ cs) r.zeros
      (and_both (is_free_checkpoint c) _ f (rw f at r.last-free))))
      (λ f.
      let set = or-then (is_free_checkpoint c) _ (and_left (placed_at h last c) _ r.within) f in
      let name = or-then (is_free_checkpoint c) _ (and_left (name_fits c) _ r.names) f in
      let alone = or-then (is_free_checkpoint c) _ (and_left _ _ r.apart) f in
      let rank = or-then (is_free_checkpoint c) _ (and_left _ _ r.ranks) f in
      let climb : (leb m c.number && climbing (λ c. c.number) c.number cs) ≡ true = rw f at r.climbs in
      let rest : Rest h last c.number (suc i) cs = record {
        zeros = and_right (free_checkpoint_zero c) _ r.zeros;
        last-free = rw f at r.last-free;
        within = and_right (placed_at h last c) _ r.within;
        climbs = and_right (leb m c.number) _ climb;
        names = and_right (name_fits c) _ r.names;
        apart = and_right (is_free_checkpoint c || not (in_use c.name cs)) _ r.apart;
        ranks = and_right (is_free_checkpoint c || eqb c.rank (suc i)) _ r.ranks;
      } in
      rw f
      (and_both (checkpoint_good h last m i c) _
      (and_both (leb m c.number) _ (and_left _ _ climb)
      (and_both (ltb h c.number) _ (and_left _ _ set)
      (and_both (leb c.number (last + 1)) _ (and_right (ltb h c.number) _ set) (and_both (name_allowed c.name) _ name rank))))
      (and_both (not (in_use c.name cs)) _ alone (rest-good c.number (suc i) cs rest))))

iff : (a b : Bool) → (a ≡ true → b ≡ true) → (b ≡ true → a ≡ true) → a ≡ b
iff true b f g = sym (f refl)
iff false true f g = g refl
iff false false f g = refl

pub good-formed : (h last : ℕ) (cs : List Checkpoint) → length cs ≡ 8 → checkpoints_good h last 0 0 cs ≡ checkpoints_formed h last cs
good-formed h last cs len =
    iff (checkpoints_good h last 0 0 cs) (checkpoints_formed h last cs)
    (λ e.
    let r : Rest h last 0 0 cs = good-rest h last 0 0 cs e in
    checkpoints-are h last cs
    (record {
      places = len;
      zeros = r.zeros;
      last-free = r.last-free;
      within = r.within;
      climbs = r.climbs;
      names = r.names;
      apart = r.apart;
      ranks = r.ranks;
    }))
    (λ e.
    let k = checkpoints-tell h last cs e in
    rest-good h last 0 0 cs
    (record {
      zeros = k.zeros;
      last-free = k.last-free;
      within = k.within;
      climbs = k.climbs;
      names = k.names;
      apart = k.apart;
      ranks = k.ranks;
    }))

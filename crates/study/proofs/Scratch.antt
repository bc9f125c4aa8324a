-- The stacks in the scratch: the loop that brings a line to the front of its four numbers, and what it does to the stacks.
use Prim.Native.Nat.{ℕ, zero, suc, ◌+◌, ◌-◌, ◌%◌, ◌<◌, ◌≤◌}
use mathlib.Core.Path.{◌≡◌, refl, sym, ap, subst, ◌∙◌}
use mathlib.Core.Bool.{Bool, true}
use mathlib.Core.List.{List}
use native.Mathlib.Nat.{mod-lt}
use native.Mathlib.Numerals.{add-one}
use native.Mathlib.Omega.{arith}
use native.Mathlib.Decide.{ℕ_discrete, dec_lt}
use lib.Dec.{eqb}
use lib.ListN.{length, get_or, set, length-set}
use lib.Seq.{get_or-set_same, get_or-set_other}
use borrow.Author.Tests.{eqb-true, eq-eqb, ne_eqb}
use borrow.Rule.Slice.PartMut.{mid_of, put_mid, same_len_mid, mid_len}
use Rattle.std.proofs.Common.{rules}
use Rattle.std.proofs.lemmas.List.{places}
use Rattle.std.proofs.lemmas.List.Edits.{get_or-between}
use Rattle.lists.specs.Counted.{first_from}
use Rattle.lists.proofs.Counting.{first-hits, first-least, first-same}
use Rattle.lists.proofs.CountedLoops.{first-hit, first-miss, first-end}
use Rattle.study.specs.Stack.{touch, distance, touched}
use Rattle.study.specs.Study.{most_ways}
use Rattle.study.specs.Scratch.{places_of, HoldsStacks, moved_to, Touched}
use Rattle.study.proofs.Stack.{apart, touch-above, touch-below}

-- ---- the loop

module _ (m : ℕ) (old : List ℕ) where
  abbrev here : ℕ → Bool
  here d = eqb (get_or old d 0) m

  -- before place d of the four
  pub record Moving (d carried : ℕ) (cur : List ℕ) : Type 0 where
    pub few : d ≤ 4
    pub long : length cur ≡ length old
    pub carries : carried ≡ moved_to old m d
    pub done : (j : ℕ) → j < d → get_or cur j 0 ≡ moved_to old m j
    pub rest : (k : ℕ) → d ≤ k → get_or cur k 0 ≡ get_or old k 0
    pub left : first_from here 0 4 ≡ first_from here d (4 - d)

  pub moving-none : Moving 0 m old
  unfolding moved_to
  moving-none =
      record {
        few = omega arith;
        long = refl;
        carries = refl;
        done = λ j h. let no : ⊥ = omega arith in absurd no;
        rest = λ k h. refl;
        left = refl;
      }

  module _ (d carried : ℕ) (cur : List ℕ) (g : Moving d carried cur) (four : length old ≡ 4) where
    abbrev next : List ℕ
    next = set cur d carried

    same : get_or cur d 0 ≡ get_or old d 0
    same = g.rest d (omega arith)

    module _ (h : d < 4) where
      next-done : (j : ℕ) → j < d + 1 → get_or next j 0 ≡ moved_to old m j
      next-done j a =
          elim (ℕ_discrete j d) [
            | yes e ↦ rw e (get_or-set_same cur d carried 0 (omega (arith, g.long)) ∙ g.carries)
            | no n ↦ get_or-set_other cur d j carried 0 (λ e. n (omega arith)) ∙ g.done j (omega arith)
          ]

      next-rest : (k : ℕ) → d < k → get_or next k 0 ≡ get_or old k 0
      next-rest k o = get_or-set_other cur d k carried 0 (λ e. omega arith) ∙ g.rest k (omega arith)

      pub moving-more : (get_or cur d 0 ≡ m → ⊥) → Moving (d + 1) (get_or cur d 0) next
      unfolding moved_to
      moving-more n =
          record {
            few = omega arith;
            long = length-set cur d carried ∙ g.long;
            carries = rw (add-one d) same;
            done = next-done;
            rest = λ k o. next-rest k (omega arith);
            left = g.left ∙ first-miss here d 4 h (ne_eqb _ _ (λ e. n (same ∙ e)));
          }

      pub moving-found : get_or cur d 0 ≡ m → Touched m d old next
      moving-found e =
          record {
            long = length-set cur d carried ∙ g.long;
            found = sym (g.left ∙ first-hit here d 4 h (eq-eqb _ _ (sym same ∙ e)));
            moved = λ j a b. next-done j (omega arith);
            rest = next-rest;
          }

    pub moving-all : 4 ≤ d → Touched m 4 old cur
    moving-all h =
        let e : d ≡ 4 = omega (arith, g.few) in
        record {
          long = g.long;
          found = rw e at (sym (g.left ∙ first-end here d 4 h));
          moved = λ j a b. g.done j (omega arith);
          rest = λ k o. g.rest k (omega arith);
        }

-- ---- the four numbers of a set

-- what moves to place d of the four from `first` on when m comes first
unfoldable pub moved_at : List ℕ → ℕ → ℕ → ℕ → ℕ
moved_at old first m zero = m
moved_at old first m (suc d) = get_or old (first + d) 0

-- m comes first of the four numbers from `first` on; r is the place of the four where it was, else 4
pub record TouchedAt (first m r : ℕ) (old new : List ℕ) : Type 0 where
  pub long : length new ≡ length old
  pub found : r ≡ first_from (λ d. eqb (get_or old (first + d) 0) m) 0 most_ways
  pub moved : (d : ℕ) → d ≤ r → d < most_ways → get_or new (first + d) 0 ≡ moved_at old first m d
  pub rest : (k : ℕ) → (first ≤ k → k < first + most_ways → k ≤ first + r → ⊥) → get_or new k 0 ≡ get_or old k 0

-- the part of four from `first` on, back in its place
module _ (first e m r : ℕ) (s new : List ℕ) (room : first + 4 ≤ length s) (end : e ≡ first + 4) (t : Touched m r (mid_of first (e - first) s) new) where
  abbrev part : List ℕ
  part = mid_of first (e - first) s

  part-at : (d : ℕ) → d < 4 → get_or part d 0 ≡ get_or s (first + d) 0
  part-at d h = get_or-between s first e d 0 (omega arith)

  part_long : length part ≡ 4
  part_long = mid_len first e s (omega arith) ∙ omega arith

  back-at : (d : ℕ) → d < 4 → get_or (put_mid first (e - first) s new) (first + d) 0 ≡ get_or new d 0
  back-at d h = let four : length new ≡ 4 = t.long ∙ part_long in search (rules, places)

  back-before : (k : ℕ) → k < first → get_or (put_mid first (e - first) s new) k 0 ≡ get_or s k 0
  back-before k h = search (rules, places)

  back-after : (k : ℕ) → first + 4 ≤ k → get_or (put_mid first (e - first) s new) k 0 ≡ get_or s k 0
  back-after k h = let four : length new ≡ 4 = t.long ∙ part_long in search (rules, places)

  moves : (d : ℕ) → d < 4 → moved_to part m d ≡ moved_at s first m d
  unfolding moved_to moved_at
  moves zero h = refl
  moves (suc d) h = part-at d (omega arith)

  pub touched-part : TouchedAt first m r s (put_mid first (e - first) s new)
  touched-part =
      record {
        long = same_len_mid first (e - first) s new t.long;
        found = t.found ∙ first-same _ _ 4 0 (λ d a b. ap (λ (x : ℕ). eqb x m) (part-at d (omega arith)));
        moved = λ d a b. back-at d b ∙ (t.moved d a b ∙ moves d b);
        rest = λ k o. elim (dec_lt k first) [
          | yes b ↦ back-before k b
          | no b ↦ elim (dec_lt k (first + 4)) [
            | yes a ↦
                let f : first + (k - first) ≡ k = omega arith in
                subst (λ (k : ℕ). get_or (put_mid first (e - first) s new) k 0 ≡ get_or s k 0) f
                (back-at (k - first) (omega arith) ∙ (t.rest (k - first) (at-least r (k - first) (λ l. o (omega arith) a (omega arith))) ∙ part-at (k - first) (omega arith)))
            | no a ↦ back-after k (omega arith)
          ]
        ];
      }
    where
      at-least : (r k : ℕ) → (k ≤ r → ⊥) → r < k
      at-least r k n = omega arith

-- ---- the stacks

module _ (sets : ℕ) (K : ℕ → List ℕ) (old new : List ℕ) (l r : ℕ) (some : 0 < sets) (g : HoldsStacks sets K old)
    (once : (s : ℕ) → apart (K s) ≡ true) (t : TouchedAt (places_of (l % sets)) (suc l) r old new) where
  abbrev own : ℕ
  own = l % sets

  abbrev S : List ℕ
  S = K own

  own_in : own < sets
  own_in = mod-lt l some

  -- the place found is the distance
  pub touched-distance : r ≡ distance (suc l) S
  unfolding distance
  touched-distance =
      t.found ∙ first-same _ _ 4 0 (λ d a b. ap (λ (x : ℕ). eqb x (suc l)) (g.entry own d own_in (omega arith)))

  deep : (d : ℕ) → d < r → d < 4 → get_or S d 0 ≡ suc l → ⊥
  unfolding distance
  deep d a b e =
      omega (arith, touched-distance, first-least (λ d. eqb (get_or S d 0) (suc l)) 4 0 d (omega arith) (omega arith) (eq-eqb _ _ e))

  stood : r < 4 → get_or S r 0 ≡ suc l
  unfolding distance
  stood h =
      rw touched-distance (eqb-true _ _ (first-hits (λ d. eqb (get_or S d 0) (suc l)) 4 0 (omega (arith, touched-distance))))

  own-entry : (d : ℕ) → d < 4 → get_or new (places_of own + d) 0 ≡ get_or (touch (suc l) S) d 0
  unfolding moved_at touch
  own-entry zero h = t.moved 0 (omega arith) h
  own-entry (suc d) h =
      elim (dec_lt d r) [
        | yes a ↦ t.moved (suc d) a h ∙ (g.entry own d own_in (omega arith)
            ∙ sym (touch-above (suc l) S d (λ c b. deep c (omega arith) (omega arith))))
        | no a ↦ t.rest (places_of own + suc d) (λ p q z. omega arith) ∙ (g.entry own (suc d) own_in h
            ∙ sym (touch-below (suc l) S (once own) r d (omega arith) (stood (omega arith)) (omega arith)))
      ]

  pub touched-kept : HoldsStacks sets (touched sets l K) new
  unfolding touched
  touched-kept =
      record {
        entry = λ s d a h.
            elim (ℕ_discrete own s) [
              | yes e ↦ rw (eq-eqb own s e) (subst (λ (s : ℕ). get_or new (places_of s + d) 0 ≡ get_or (touch (suc l) (K s)) d 0) e (own-entry d h))
              | no n ↦ rw (ne_eqb own s n) (t.rest (places_of s + d) (λ p q z. n (omega arith)) ∙ g.entry s d a h)
            ];
      }

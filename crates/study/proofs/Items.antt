-- An item keeps "the records of each set are its stack, cut to the ways", whether it hits or misses, and a start has it.
use Prim.Native.Nat.{ℕ, zero, suc, ◌+◌, ◌*◌, ◌<◌, ◌≤◌}
use mathlib.Core.Path.{◌≡◌, refl, sym, ap, subst, ◌∙◌}
use mathlib.Core.Bool.{Bool, true, false, not}
use mathlib.Core.List.{List, []}
use native.Mathlib.Nat.{mod-lt, not-suc-le-zero, le_of_suc-le-suc}
use native.Mathlib.Omega.{arith}
use native.Mathlib.Decide.{ℕ_discrete}
use lib.Dec.{ltb}
use lib.ListN.{length, get_or, set, length-set}
use lib.Seq.{get_or-set_same, get_or-set_other}
use borrow.Author.Tests.{ltb-true, ltb-false, eq-eqb, ne_eqb, not-true}
use Rattle.lists.specs.Counted.{first_from}
use Rattle.lists.proofs.Cond.{either, cases}
use Rattle.lists.proofs.Counting.{first-hits, greatest-most}
use Rattle.rules.specs.declared.Figures.{Figures}
use Rattle.rules.specs.declared.Tag.{Tag}
use Rattle.rules.specs.declared.WritePolicy.TheVariants.{WriteBack}
use Rattle.rules.specs.Shape.{Hierarchy, holding, geometry, no_tag, tag_at, slots, set_of, set_start, first_slot}
use Rattle.rules.specs.Lines.{slot_of, present, use_slot, use_line, victim, cleaned, install, write_back_slot, fill_line}
use Rattle.rules.proofs.Recency.{Ages, Aged, used, grown, kept, Recency, recency-ages, recency-same, use-lines, use-table, use-out, use-in, use-recency, victim-range, start-invalid, start-table, start-age, start-recency}
use Rattle.rules.specs.Runs.{start_tags, started}
use Rattle.rules.proofs.Records.{set_room, sets-apart}
use Rattle.study.specs.Study.{empty_tags, access_line}
use Rattle.study.specs.Stack.{touch, touched, distance, empty_stacks}
use Rattle.study.proofs.Stack.{apart, apart-touched, apart-ends, apart-once, touch-above, touch-below}
use Rattle.study.proofs.InOrder.{age_at, stands_for, InOrder, use-in-order, in-order-same, hit-tells, distance_least, present-distance}

-- the records of every set are its stack, cut to the ways
pub record Stacked (K : ℕ → List ℕ) (b : Hierarchy) : Type 0 where
  pub some-set : 0 < b.figures.sets
  pub some-way : 0 < b.figures.ways
  pub most-ways : b.figures.ways ≤ 4
  pub room : slots b ≤ 256
  pub table : length b.tags ≡ 256
  pub recency : Recency b
  pub once : (s : ℕ) → apart (K s) ≡ true
  pub in_order : (s : ℕ) → s < b.figures.sets → InOrder b.tags b.figures.ways (set_start b s) (K s)

-- ---- a use

aged-by : {v k a a' o o' n : ℕ} → a ≡ a' → o ≡ o' → Aged v a k o n → Aged v a' k o' n
aged-by p q (used e z) = used e z
aged-by p q (grown l z) = grown (omega arith) (omega arith)
aged-by p q (kept l z) = kept (omega arith) (omega arith)

module _ (K : ℕ → List ℕ) (b : Hierarchy) (g : Stacked K b) (l : ℕ) where
  abbrev ways : ℕ
  ways = b.figures.ways

  abbrev own : ℕ
  own = set_of b l

  abbrev S : List ℕ
  S = K own

  own_in : own < b.figures.sets
  own_in = mod-lt l g.some-set

  here : InOrder b.tags ways (first_slot b l) S
  here = g.in_order own own_in

  ages : Ages b.tags ways (first_slot b l)
  ages = recency-ages b g.recency own own_in

  -- a slot of the set is one of the table
  in-table : (k : ℕ) → k < first_slot b l + ways → k < 256
  in-table k h = omega (arith, set_room own b.figures.sets ways own_in, g.room)

  -- slot v of the line's set is used, with records that are the old ones but for the line in slot v
  module _ (v : ℕ) (low : first_slot b l ≤ v) (high : v < first_slot b l + ways) (tags : List Tag) (c m : List ℕ) (long : length tags ≡ 256)
      (same : (k : ℕ) → (k ≡ v → ⊥) → tag_at tags k ≡ tag_at b.tags k) (age-stays : age_at tags v ≡ age_at b.tags v)
      (there : stands_for (tag_at tags v) ≡ suc l)
      (above : (d : ℕ) → d < age_at b.tags v → get_or S d 0 ≡ suc l → ⊥)
      (below : (k : ℕ) → first_slot b l ≤ k → k < first_slot b l + ways → age_at b.tags v < age_at b.tags k
      → get_or (touch (suc l) S) (age_at b.tags k) 0 ≡ get_or S (age_at b.tags k) 0) where
    abbrev mid : Hierarchy
    mid = holding b tags c m

    abbrev new : Hierarchy
    new = use_slot own v mid

    mid-ages : (k : ℕ) → age_at tags k ≡ age_at b.tags k
    mid-ages k =
        elim (ℕ_discrete k v) [
          | yes e ↦ ap (age_at tags) e ∙ (age-stays ∙ ap (age_at b.tags) (sym e))
          | no d ↦ ap (λ (t : Tag). t.age) (same k d)
        ]

    mid-recency : Recency mid
    mid-recency = recency-same b c m g.recency tags mid-ages

    mid-room : slots mid ≤ length tags
    mid-room = omega (arith, g.room, long)

    -- the use changes no line
    new-stands : (k : ℕ) → stands_for (tag_at new.tags k) ≡ stands_for (tag_at tags k)
    new-stands k = let e = use-lines own v mid in rw (e.valid k, e.line k)

    moved : (k : ℕ) → first_slot b l ≤ k → k < first_slot b l + ways → Aged v (age_at b.tags v) k (age_at b.tags k) (age_at new.tags k)
    moved k p q = aged-by (mid-ages v) (mid-ages k) (use-in mid own v own_in low high mid-room mid-recency k p q)

    elsewhere : (s k : ℕ) → (own ≡ s → ⊥) → set_start b s ≤ k → k < set_start b s + ways → tag_at new.tags k ≡ tag_at b.tags k
    elsewhere s k d p q =
        let o = sets-apart s own ways k (λ e. d (sym e)) p q in
        use-out mid own v own_in low high k o ∙ same k (λ e. o (omega arith) (omega arith))

    use-set : (s : ℕ) → s < b.figures.sets → InOrder new.tags ways (set_start b s) (touched b.figures.sets l K s)
    unfolding touched
    use-set s h =
        elim (ℕ_discrete own s) [
          | yes e ↦ rw (eq-eqb own s e) (subst (λ (s : ℕ). InOrder new.tags ways (set_start b s) (touch (suc l) (K s))) e
              (use-in-order ways (first_slot b l) v (suc l) S b.tags new.tags here low high moved
              (new-stands v ∙ there) (λ k d. new-stands k ∙ ap stands_for (same k d)) above below))
          | no d ↦ rw (ne_eqb own s d) (in-order-same ways (set_start b s) (K s) b.tags new.tags
              (λ k p q. let e = elsewhere s k d p q in (ap (λ (t : Tag). t.age) e, ap stands_for e)) (g.in_order s h))
        ]

    use-stacked : Stacked (touched b.figures.sets l K) new
    unfolding use_slot
    use-stacked =
        record {
          some-set = g.some-set;
          some-way = g.some-way;
          most-ways = g.most-ways;
          room = g.room;
          table = use-table own v mid ∙ long;
          recency = use-recency mid own v own_in low high mid-room mid-recency;
          once = apart-touched b.figures.sets l K g.once;
          in_order = use-set;
        }

  -- ---- an item that hits

  item-hit : present b l ≡ true → Stacked (touched b.figures.sets l K) (access_line l b)
  unfolding access_line use_line
  item-hit e =
      let h = hit-tells b l S ages here g.most-ways e in
      let v = slot_of b l in
      rw e
      (use-stacked v h.low h.high b.tags b.cache b.memory g.table (λ k d. refl) refl h.stood
      (λ d a q. let z : d ≡ age_at b.tags v = apart-once S (g.once own) d (age_at b.tags v) (suc l) (omega arith) q h.at-age in omega arith)
      (λ k p q a. under (age_at b.tags v) h.at-age (age_at b.tags k) a))
    where
      under : (a : ℕ) → get_or S a 0 ≡ suc l → (n : ℕ) → a < n → get_or (touch (suc l) S) n 0 ≡ get_or S n 0
      under a q zero h = absurd (not-suc-le-zero h)
      under a q (suc n) h = touch-below (suc l) S (g.once own) a n (omega arith) q (le_of_suc-le-suc h)

  -- ---- an item that misses

  -- the victim is invalid, or no way of its set is older
  victim-last :
      (k : ℕ) → first_slot b l ≤ k → k < first_slot b l + ways → age_at b.tags (victim b l) < age_at b.tags k
      → stands_for (tag_at b.tags (victim b l)) ≡ 0
  unfolding victim
  victim-last k p q =
      either (λ (v : ℕ). age_at b.tags v < age_at b.tags k → stands_for (tag_at b.tags v) ≡ 0) (ltb (first_from invalid f ways) (f + ways))
      (λ e a. rw (not-true (tag_at b.tags (first_from invalid f ways)).valid (first-hits invalid ways f (ltb-true (first_from invalid f ways) (f + ways) e))))
      (λ e a. let no : ⊥ = omega (arith, (greatest-most (age_at b.tags) ways f f).1 k p q) in absurd no)
    where
      f : ℕ
      f = first_slot b l

      invalid : ℕ → Bool
      invalid k = not (tag_at b.tags k).valid

  item-miss : present b l ≡ false → Stacked (touched b.figures.sets l K) (access_line l b)
  unfolding access_line fill_line install write_back_slot
  item-miss e =
      rw e
      (use-stacked v range.0 range.1 tags _ _ (length-set (set b.tags v clean) v fresh ∙ (length-set b.tags v clean ∙ g.table))
      (λ k d. get_or-set_other (set b.tags v clean) v k fresh no_tag d ∙ get_or-set_other b.tags v k clean no_tag d)
      (ap (λ (t : Tag). t.age) fresh_at ∙ ap (λ (t : Tag). t.age) clean_at) (ap stands_for fresh_at)
      (λ d a. absent d (omega (arith, small)))
      (λ k p q a. under (age_at b.tags k) a (ages.small k p q) (victim-last k p q a)))
    where
      v : ℕ
      v = victim b l

      range : (first_slot b l ≤ v) × (v < first_slot b l + ways)
      range = victim-range b l g.some-way

      clean : Tag
      clean = cleaned (tag_at b.tags v)

      fresh : Tag
      fresh = record { valid = true; dirty = 0; line = l; age = (tag_at (set b.tags v clean) v).age }

      tags : List Tag
      tags = set (set b.tags v clean) v fresh

      inside : v < length b.tags
      inside = omega (arith, in-table v range.1, g.table)

      clean_at : tag_at (set b.tags v clean) v ≡ clean
      clean_at = get_or-set_same b.tags v clean no_tag inside

      fresh_at : tag_at tags v ≡ fresh
      fresh_at = get_or-set_same (set b.tags v clean) v fresh no_tag (omega (arith, inside, length-set b.tags v clean))

      small : age_at b.tags v < ways
      small = ages.small v range.0 range.1

      absent : (d : ℕ) → d < ways → get_or S d 0 ≡ suc l → ⊥
      absent d a q =
          let n = ltb-false (distance (suc l) S) ways (sym (present-distance b l S ages here g.most-ways) ∙ e) in
          omega (arith, n, distance_least b l S ages here g.most-ways d a q)

      under : (n : ℕ) → age_at b.tags v < n → n < ways → stands_for (tag_at b.tags v) ≡ 0 → get_or (touch (suc l) S) n 0 ≡ get_or S n 0
      under zero a c z = absurd (not-suc-le-zero a)
      under (suc n) a c z =
          let y : get_or S (age_at b.tags v) 0 ≡ 0 = sym (here.held v range.0 range.1) ∙ z in
          touch-above (suc l) S n (λ d i. absent d (omega arith))
          ∙ (apart-ends S (g.once own) (age_at b.tags v) n y (le_of_suc-le-suc a)
          ∙ sym (apart-ends S (g.once own) (age_at b.tags v) (suc n) y (omega arith)))

  -- ---- an item

  pub item-stacked : Stacked (touched b.figures.sets l K) (access_line l b)
  item-stacked = cases (present b l) item-hit item-miss

  pub item-present : present b l ≡ ltb (distance (suc l) S) ways
  item-present = present-distance b l S ages here g.most-ways

-- an item changes no figure
pub item-figures : (l : ℕ) (b : Hierarchy) → (access_line l b).figures ≡ b.figures
unfolding access_line use_line use_slot fill_line install write_back_slot
item-figures l b =
    either (λ (c : Hierarchy). c.figures ≡ b.figures) (present b l)
    (λ e. either (λ (c : Hierarchy). c.figures ≡ b.figures) (present b l) (λ e. refl) (λ e. refl)) (λ e. refl)

-- ---- a start

pub start-stacked : (sets ways : ℕ) → 0 < sets → 0 < ways → ways ≤ 4 → sets * ways ≤ 256 → Stacked empty_stacks (empty_tags sets ways)
unfolding empty_tags started apart
start-stacked sets ways ss sw most room =
    record {
      some-set = ss;
      some-way = sw;
      most-ways = most;
      room = room;
      table = start-table f;
      recency = recency-same (started f []).hierarchy [] [] (start-recency f room []) (start_tags f) (λ k. refl);
      once = λ s. refl;
      in_order = λ s h. record {
        way = λ d l. record {
          slot = s * ways + d;
          low = omega arith;
          high = omega arith;
          aged = start-age f room s (s * ways + d) h (omega arith) (omega arith) ∙ omega arith;
        };
        held = λ k p q. rw (start-invalid f k);
      };
    }
  where
    f : Figures
    f = geometry WriteBack sets ways

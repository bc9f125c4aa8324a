-- Recency: which way of a set is used, which is the victim. All that the proofs of the rules know of ages; what stands above goes by
-- `Recency` and its laws: told by the clause of well-formed, kept by a use and by a write that leaves a record's age, given by a start.
use mathlib.Core.Path.{◌≡◌, refl, sym, ap, subst, ◌∙◌}
use mathlib.Core.Bool.{Bool, true, false, cond, not, ◌&&◌}
use mathlib.Core.List.{List}
use Prim.Native.Nat.{ℕ, ◌+◌, ◌*◌, ◌-◌, ◌%◌, ◌<◌, ◌≤◌}
use native.Mathlib.Nat.{mod-eq_of_lt, mul-add-mod_self_right}
use native.Mathlib.Omega.{arith}
use native.Mathlib.Decide.{ℕ_discrete, dec_lt}
use lib.Dec.{ltb, leb, eqb}
use lib.ListN.{length, set, replicate, length-replicate, get_or-replicate, get_or-eq_default}
use borrow.Author.Tests.{ltb-true, ltb-false, leb-true, eqb-true, eqb-false, lt-ltb, le-leb, le-ltb, ne_eqb, not-true}
use Rattle.lists.specs.Counted.{first_from}
use Rattle.lists.proofs.Cond.{either, and_left, and_right, and_both}
use Rattle.lists.proofs.Counting.{first-low, greatest-in, all-at, all-by, each-length, each_at, each-past, each_same}
use Rattle.rules.specs.declared.Figures.{Figures}
use Rattle.rules.specs.declared.Tag.{Tag}
use Rattle.rules.specs.Shape.{Hierarchy, holding, no_tag, tag_at, with_age, slots, set_start, first_slot}
use Rattle.rules.specs.Lines.{aged_at, use_slot, dirty_at, is_dirty, victim}
use Rattle.rules.specs.WellFormed.{age_good, set_aged, recency_formed}
use Rattle.rules.specs.Runs.{start_tags, started}
use Rattle.rules.proofs.Records.{set_room, sets-apart, at_set, SameLines}
use Rattle.rules.proofs.Dirty.{aged-byte, aged-dirty, no-tag-clean, clean-few}

-- ---- the ages of a set

-- of the set from slot f on
pub record Ages (tags : List Tag) (ways f : ℕ) : Type 0 where
  pub small : (k : ℕ) → f ≤ k → k < f + ways → (tag_at tags k).age < ways
  pub same : (j k : ℕ) → f ≤ j → j < f + ways → f ≤ k → k < f + ways → (tag_at tags j).age ≡ (tag_at tags k).age → j ≡ k

ages-tell : (tags : List Tag) (ways f : ℕ) → set_aged tags ways f ≡ true → Ages tags ways f
unfolding set_aged age_good
ages-tell tags ways f e =
    record {
      small = λ k a b. ltb-true _ ways (and_left _ _ (all-at _ ways f e k a b));
      same = λ j k a b c d q.
          let p : j < k → ⊥ = λ l. apart j k a l c d q in
          let r : k < j → ⊥ = λ l. apart k j c l a b (sym q) in
          omega arith;
    }
  where
    apart : (j k : ℕ) → f ≤ j → j < k → f ≤ k → k < f + ways → (tag_at tags j).age ≡ (tag_at tags k).age → ⊥
    apart j k a l c d =
        let h = and_right (ltb (tag_at tags k).age ways) _ (all-at _ ways f e k c d) in
        eqb-false _ _ (not-true _ (all-at _ (k - f) f h j a (omega arith)))

ages-are : (tags : List Tag) (ways f : ℕ) → Ages tags ways f → set_aged tags ways f ≡ true
unfolding set_aged age_good
ages-are tags ways f h =
    all-by _ ways f (λ k a b.
    and_both _ _ (lt-ltb _ ways (h.small k a b))
    (all-by _ (k - f) f (λ j c d. ap not (ne_eqb _ _ (λ q. let z = h.same j k c (omega arith) a b q in omega arith)))))

ages-same :
    (old new : List Tag) (ways f : ℕ) → ((k : ℕ) → f ≤ k → k < f + ways → (tag_at new k).age ≡ (tag_at old k).age)
    → Ages old ways f → Ages new ways f
ages-same old new ways f h g =
    record {
      small = λ k a b. omega (arith, h k a b, g.small k a b);
      same = λ j k a b c d q. g.same j k a b c d (sym (h j a b) ∙ (q ∙ h k c d));
    }

-- ---- what is asked of a hierarchy

pub record Recency (b : Hierarchy) : Type 0 where
  ages : (s : ℕ) → s < b.figures.sets → Ages b.tags b.figures.ways (set_start b s)

-- the ages of each set, and back
pub recency-ages : (b : Hierarchy) → Recency b → (s : ℕ) → s < b.figures.sets → Ages b.tags b.figures.ways (set_start b s)
recency-ages b r = r.ages

pub ages-recency : (b : Hierarchy) → ((s : ℕ) → s < b.figures.sets → Ages b.tags b.figures.ways (set_start b s)) → Recency b
ages-recency b h = record { ages = h }

-- the clause of well-formed, and back
pub recency-tells : (b : Hierarchy) → recency_formed b ≡ true → Recency b
recency-tells b e =
    record {
      ages = λ s h. ages-tell b.tags b.figures.ways (set_start b s) (all-at _ b.figures.sets 0 e s (omega arith) (omega arith));
    }

pub recency-are : (b : Hierarchy) → Recency b → recency_formed b ≡ true
recency-are b r =
    all-by _ b.figures.sets 0 (λ s a h. ages-are b.tags b.figures.ways (set_start b s) (r.ages s (omega arith)))

-- ---- other records and bytes

module _ (b : Hierarchy) (cache memory : List ℕ) (r : Recency b) where
  -- records with the same ages
  pub recency-same :
      (tags : List Tag) → ((k : ℕ) → (tag_at tags k).age ≡ (tag_at b.tags k).age) → Recency (holding b tags cache memory)
  recency-same tags h =
      record { ages = λ s i. ages-same b.tags tags b.figures.ways (set_start b s) (λ k p q. h k) (r.ages s i) }

  -- a record is written that has the age of the one before it
  pub set-recency :
      (v : ℕ) (t : Tag) → v < length b.tags → t.age ≡ (tag_at b.tags v).age → Recency (holding b (set b.tags v t) cache memory)
  set-recency v t h e =
      recency-same (set b.tags v t) (at_set b.tags v t h (λ k u. u.age ≡ (tag_at b.tags k).age) e (λ k d. refl))

-- ---- use

-- what a use does to the age of slot k
pub data Aged (v a k old new : ℕ) : Type 0 where
  used : k ≡ v → new ≡ 0 → Aged v a k old new
  grown : old < a → new ≡ old + 1 → Aged v a k old new
  kept : a < old → new ≡ old → Aged v a k old new

aged-small : {v a k old new ways : ℕ} → a < ways → old < ways → Aged v a k old new → new < ways
aged-small p q (used e n) = omega arith
aged-small p q (grown l n) = omega arith
aged-small p q (kept l n) = omega arith

aged-same : {v a j k x y x' y' : ℕ} → (x ≡ y → j ≡ k) → Aged v a j x x' → Aged v a k y y' → x' ≡ y' → j ≡ k
aged-same h (used e n) (used f m) q = omega arith
aged-same h (used e n) (grown l m) q = omega arith
aged-same h (used e n) (kept l m) q = omega arith
aged-same h (grown r n) (used f m) q = omega arith
aged-same h (grown r n) (grown l m) q = h (omega arith)
aged-same h (grown r n) (kept l m) q = omega arith
aged-same h (kept r n) (used f m) q = omega arith
aged-same h (kept r n) (grown l m) q = omega arith
aged-same h (kept r n) (kept l m) q = h (omega arith)

module _ (f ways v a k : ℕ) (t : Tag) where
  -- nothing but the age changes
  aged-keeps : {A : Type 0} (h : Tag → A) → ((x : ℕ) → h (with_age x t) ≡ h t) → h (aged_at f ways v a k t) ≡ h t
  unfolding aged_at
  aged-keeps h q =
      either (λ u. h u ≡ h t) (eqb k v) (λ e. q 0)
      (λ e. either (λ u. h u ≡ h t) (leb f k && (ltb k (f + ways) && ltb t.age a)) (λ e. q (t.age + 1)) (λ e. refl))

  -- outside the set nothing changes
  aged-out : (f ≤ k → k < f + ways → ⊥) → f ≤ v → v < f + ways → aged_at f ways v a k t ≡ t
  unfolding aged_at
  aged-out o p q =
      either (λ u. u ≡ t) (eqb k v) (λ e. let z = eqb-true k v e in absurd (o (omega arith) (omega arith)))
      (λ e. either (λ u. u ≡ t) (leb f k && (ltb k (f + ways) && ltb t.age a))
      (λ e. absurd (o (leb-true f k (and_left _ _ e)) (ltb-true k (f + ways) (and_left _ _ (and_right (leb f k) _ e)))))
      (λ e. refl))

  aged-in : f ≤ k → k < f + ways → (t.age ≡ a → k ≡ v) → Aged v a k t.age (aged_at f ways v a k t).age
  unfolding aged_at
  aged-in p q h =
      either (λ (u : Tag). Aged v a k t.age u.age) (eqb k v) (λ e. used (eqb-true k v e) refl)
      (λ e. rw (le-leb f k p, lt-ltb k (f + ways) q) (either (λ (u : Tag). Aged v a k t.age u.age) (ltb t.age a)
      (λ l. grown (ltb-true t.age a l) refl)
      (λ l. kept
      (let m = ltb-false t.age a l in elim (ℕ_discrete t.age a) [ yes z ↦ absurd (eqb-false k v e (h z)) | no z ↦ omega arith ])
      refl)))

module _ (s v : ℕ) (b : Hierarchy) where
  -- nothing but the ages changes
  used-keeps :
      {A : Type 0} (h : Tag → A) → ((x : ℕ) (t : Tag) → h (with_age x t) ≡ h t) → (k : ℕ)
      → h (tag_at (use_slot s v b).tags k) ≡ h (tag_at b.tags k)
  unfolding use_slot
  used-keeps h q k =
      elim (dec_lt k (length b.tags)) [
        | yes l ↦ ap h (each_at _ b.tags no_tag k l) ∙ aged-keeps (set_start b s) _ v _ k _ h (λ x. q x _)
        | no l ↦ ap h (each-past _ 0 b.tags no_tag k (omega arith) ∙ sym (get_or-eq_default b.tags no_tag (omega arith)))
      ]

  -- a use leaves the lines and their marks
  pub use-lines : SameLines b.tags (use_slot s v b).tags
  use-lines =
      record { valid = used-keeps (λ t. t.valid) (λ x t. refl); line = used-keeps (λ t. t.line) (λ x t. refl) }

  pub use-dirty : (k : ℕ) → is_dirty (tag_at (use_slot s v b).tags k) ≡ is_dirty (tag_at b.tags k)
  use-dirty = used-keeps is_dirty (λ x t. aged-dirty t x)

  pub use-marks : (k : ℕ) → (tag_at (use_slot s v b).tags k).dirty ≡ (tag_at b.tags k).dirty
  use-marks = used-keeps (λ t. t.dirty) (λ x t. refl)

  pub use-dirty-at : (i k : ℕ) → dirty_at (tag_at (use_slot s v b).tags k) i ≡ dirty_at (tag_at b.tags k) i
  use-dirty-at i = used-keeps (λ t. dirty_at t i) (λ x t. aged-byte t i x)

  -- and the length of the table
  pub use-table : length (use_slot s v b).tags ≡ length b.tags
  unfolding use_slot
  use-table = each-length _ 0 b.tags

module _ (b : Hierarchy) (s v : ℕ) (s-in : s < b.figures.sets) (low : set_start b s ≤ v) (high : v < set_start b s + b.figures.ways) where
  abbrev new : Hierarchy
  new = use_slot s v b

  pub use-out : (k : ℕ) → (set_start b s ≤ k → k < set_start b s + b.figures.ways → ⊥) → tag_at new.tags k ≡ tag_at b.tags k
  unfolding use_slot
  use-out k o = each_same _ b.tags no_tag k (λ t. aged-out _ _ v _ k t o low high)

  -- the records that are not in use stay as they are
  pub use-unused : (k : ℕ) → slots b ≤ k → tag_at new.tags k ≡ tag_at b.tags k
  use-unused k h = use-out k (λ p q. omega (arith, set_room s b.figures.sets b.figures.ways s-in))

  module _ (room : slots b ≤ length b.tags) (r : Recency b) where
    pub use-in :
        (k : ℕ) → set_start b s ≤ k → k < set_start b s + b.figures.ways
        → Aged v (tag_at b.tags v).age k (tag_at b.tags k).age (tag_at new.tags k).age
    unfolding use_slot
    use-in k p q =
        let in-table : k < length b.tags = omega (arith, set_room s b.figures.sets b.figures.ways s-in) in
        rw (each_at (aged_at (set_start b s) b.figures.ways v (tag_at b.tags v).age) b.tags no_tag k in-table)
        (aged-in _ _ v _ k (tag_at b.tags k) p q ((r.ages s s-in).same k v p q low high))

    use-ages : (i : ℕ) → i < b.figures.sets → Ages new.tags b.figures.ways (set_start b i)
    use-ages i h =
        elim (ℕ_discrete i s) [
          | yes e ↦ subst (λ (j : ℕ). Ages new.tags b.figures.ways (set_start b j)) (sym e) (record {
            small = λ k p q. aged-small ((r.ages s s-in).small v low high) ((r.ages s s-in).small k p q) (use-in k p q);
            same = λ j k p q m n e. aged-same ((r.ages s s-in).same j k p q m n) (use-in j p q) (use-in k m n) e;
          })
          | no d ↦ ages-same b.tags _ b.figures.ways (set_start b i) (λ k p q. ap (λ (t : Tag). t.age) (use-out k (sets-apart i s b.figures.ways k d p q))) (r.ages i h)
        ]

    pub use-recency : Recency new
    unfolding use_slot
    use-recency = record { ages = use-ages }

-- ---- the victim is a slot of the line's set

pub victim-range : (b : Hierarchy) (l : ℕ) → 0 < b.figures.ways → (first_slot b l ≤ victim b l) × (victim b l < first_slot b l + b.figures.ways)
unfolding victim
victim-range b l h =
    let f = first_slot b l in
    let p : ℕ → Bool = λ k. not (tag_at b.tags k).valid in
    either (λ k. (f ≤ k) × (k < f + b.figures.ways)) (ltb (first_from p f b.figures.ways) (f + b.figures.ways))
    (λ e. (first-low p b.figures.ways f, ltb-true _ _ e))
    (λ e. greatest-in (λ k. (tag_at b.tags k).age) f (f + b.figures.ways) b.figures.ways f f (omega arith, omega arith) (omega arith) (omega arith))

-- ---- start

module _ (f : Figures) (k : ℕ) where
  start-tag : k < 256 → tag_at (start_tags f) k ≡ cond (ltb k (f.sets * f.ways)) (with_age (k % f.ways) no_tag) no_tag
  unfolding start_tags
  start-tag l =
      each_at _ (replicate 256 no_tag) no_tag k (omega (arith, length-replicate 256 no_tag))
      ∙ rw (get_or-replicate 256 k no_tag no_tag l)

  start-past : 256 ≤ k → tag_at (start_tags f) k ≡ no_tag
  unfolding start_tags
  start-past l = each-past _ 0 (replicate 256 no_tag) no_tag k (omega (arith, length-replicate 256 no_tag))

  -- but for their ages the records are zero
  start-zero : {A : Type 0} (h : Tag → A) → ((x : ℕ) → h (with_age x no_tag) ≡ h no_tag) → h (tag_at (start_tags f) k) ≡ h no_tag
  start-zero h q =
      elim (dec_lt k 256) [
        | yes l ↦ ap h (start-tag l) ∙ either (λ (t : Tag). h t ≡ h no_tag) (ltb k (f.sets * f.ways)) (λ e. q (k % f.ways)) (λ e. refl)
        | no l ↦ ap h (start-past (omega arith))
      ]

  pub start-invalid : (tag_at (start_tags f) k).valid ≡ false
  start-invalid = start-zero (λ t. t.valid) (λ x. refl)

  pub start-clean : is_dirty (tag_at (start_tags f) k) ≡ false
  start-clean = start-zero is_dirty (aged-dirty no_tag) ∙ no-tag-clean

  pub start-few : (tag_at (start_tags f) k).dirty ≤ 15
  start-few = clean-few (tag_at (start_tags f) k) start-clean

  pub start-line : (tag_at (start_tags f) k).line ≡ 0
  start-line = start-zero (λ t. t.line) (λ x. refl)

  pub start-unused : f.sets * f.ways ≤ k → tag_at (start_tags f) k ≡ no_tag
  start-unused h =
      elim (dec_lt k 256) [
        | yes l ↦ start-tag l ∙ rw (le-ltb k (f.sets * f.ways) h)
        | no l ↦ start-past (omega arith)
      ]

pub start-table : (f : Figures) → length (start_tags f) ≡ 256
unfolding start_tags
start-table f = each-length _ 0 (replicate 256 no_tag) ∙ length-replicate 256 no_tag

module _ (f : Figures) (room : f.sets * f.ways ≤ 256) where
  -- a slot's age is its way
  pub start-age :
      (s k : ℕ) → s < f.sets → s * f.ways ≤ k → k < s * f.ways + f.ways → (tag_at (start_tags f) k).age ≡ k - s * f.ways
  start-age s k h p q =
      let r = set_room s f.sets f.ways h in
      let e : s * f.ways + (k - s * f.ways) ≡ k = omega arith in
      ap (λ (t : Tag). t.age) (start-tag f k (omega arith))
      ∙ rw (lt-ltb k (f.sets * f.ways) (omega arith))
      (ap (λ (j : ℕ). j % f.ways) (sym e) ∙ (mul-add-mod_self_right s f.ways (k - s * f.ways) ∙ mod-eq_of_lt (omega arith)))

  pub start-recency : (memory : List ℕ) → Recency (started f memory).hierarchy
  unfolding started
  start-recency memory =
      record {
        ages = λ s h. record {
          small = λ k p q. omega (arith, start-age s k h p q);
          same = λ j k p q m n e. omega (arith, start-age s j h p q, start-age s k h m n);
        };
      }

-- What check 1 and the clauses of the lines tell, as facts, and the clauses from the facts.
use mathlib.Core.Path.{◌≡◌, refl, sym, ap, subst, ◌∙◌}
use mathlib.Core.Bool.{Bool, true, false, not, ◌||◌}
use mathlib.Core.List.{List, [], ◌∷◌}
use Prim.Native.Nat.{ℕ, zero, suc, ◌+◌, ◌*◌, ◌-◌, ◌%◌, ◌<◌, ◌≤◌}
use native.Mathlib.Nat.{mul-le-mul}
use native.Mathlib.Omega.{arith}
use native.Mathlib.Decide.{dec_lt}
use lib.Dec.{leb, eqb}
use lib.ListN.{length, get_or, get_or-eq_default}
use borrow.Author.Tests.{ltb-true, leb-true, eqb-true, lt-ltb, le-leb, eq-eqb, not-true, not-false}
use Rattle.lists.specs.Padded.{every}
use Rattle.lists.specs.Counted.{first_from, all_from}
use Rattle.lists.proofs.Cond.{cases, and_left, and_right, and_both, or-then, or-by, wrong}
use Rattle.lists.proofs.Counting.{first-low, first-hits, first-least, all-at, all-by, every_drop}
use Rattle.rules.specs.declared.Tag.{Tag}
use Rattle.rules.specs.Shape.{Hierarchy, no_tag, tag_at, slots, first_slot, writes_through, sets_allowed, ways_allowed, memory_allowed, figures_allowed, fits}
use Rattle.rules.specs.Lines.{holds_line, slot_of, present, dirty_at, is_dirty}
use Rattle.rules.specs.WellFormed.{zero_tag, lines_inside_at, lines_in_set_at, lines_once_at, only_valid_dirty_at, invalid_zero_at, invalid_bytes_at, clean_equal_at, is_clean_at, four_marks_at, table_length, unused_zero, recency_formed, lines_inside, lines_in_set, lines_once, only_valid_dirty, invalid_zero, invalid_bytes, clean_equal, none_dirty, four_marks, line_clauses, lines_formed}
use Rattle.rules.proofs.Dirty.{dirty-byte, no-tag-clean, no-tag-few}
use Rattle.rules.proofs.Recency.{Recency, recency-tells, recency-are}
pub use Rattle.rules.proofs.Records.{set_room}

-- ---- the facts

pub record Fits (b : Hierarchy) : Type 0 where
  pub some-set : 0 < b.figures.sets
  pub some-way : 0 < b.figures.ways
  pub most-ways : b.figures.ways ≤ 4
  pub room : slots b ≤ 256
  pub by_lines : b.size % 16 ≡ 0
  pub memory-long : length b.memory ≡ b.size
  pub cache-long : length b.cache ≡ slots b * 16

-- the valid lines
pub record Lines (b : Hierarchy) : Type 0 where
  pub inside : (k : ℕ) → (tag_at b.tags k).valid ≡ true → 16 * (tag_at b.tags k).line < b.size
  pub own :
      (k : ℕ) → (tag_at b.tags k).valid ≡ true
      → (first_slot b (tag_at b.tags k).line ≤ k) × (k < first_slot b (tag_at b.tags k).line + b.figures.ways)
  pub once :
      (j k : ℕ) → (tag_at b.tags j).valid ≡ true → (tag_at b.tags k).valid ≡ true
      → (tag_at b.tags j).line ≡ (tag_at b.tags k).line → j ≡ k

pub record Good (b : Hierarchy) : Type 0 where
  pub table : length b.tags ≡ 256
  pub unused : (k : ℕ) → slots b ≤ k → tag_at b.tags k ≡ no_tag
  pub recency : Recency b
  pub lines : Lines b
  pub clean :
      (k i : ℕ) → (tag_at b.tags k).valid ≡ true → dirty_at (tag_at b.tags k) i ≡ false → i < 16
      → get_or b.cache (16 * k + i) 0 ≡ get_or b.memory (16 * (tag_at b.tags k).line + i) 0
  pub empty :
      (k : ℕ) → (tag_at b.tags k).valid ≡ false → (is_dirty (tag_at b.tags k) ≡ false) × ((tag_at b.tags k).line ≡ 0)
  pub zeroed :
      (k i : ℕ) → k < slots b → (tag_at b.tags k).valid ≡ false → i < 16 → get_or b.cache (16 * k + i) 0 ≡ 0
  pub none-dirty : writes_through b ≡ true → (k : ℕ) → is_dirty (tag_at b.tags k) ≡ false
  pub four-marks : (k : ℕ) → (tag_at b.tags k).dirty ≤ 15

-- where a present line stands
pub record At (b : Hierarchy) (l : ℕ) : Type 0 where
  pub low : first_slot b l ≤ slot_of b l
  pub high : slot_of b l < first_slot b l + b.figures.ways
  pub valid : (tag_at b.tags (slot_of b l)).valid ≡ true
  pub line : (tag_at b.tags (slot_of b l)).line ≡ l

-- ---- check 1

pub sets-bound : (n : ℕ) → sets_allowed n ≡ true → (0 < n) × (n ≤ 64)
unfolding sets_allowed
sets-bound n e =
    cases (eqb n 1) (λ h. let q = eqb-true n 1 h in (omega arith, omega arith)) λ h1.
    cases (eqb n 2) (λ h. let q = eqb-true n 2 h in (omega arith, omega arith)) λ h2.
    cases (eqb n 4) (λ h. let q = eqb-true n 4 h in (omega arith, omega arith)) λ h3.
    cases (eqb n 8) (λ h. let q = eqb-true n 8 h in (omega arith, omega arith)) λ h4.
    cases (eqb n 16) (λ h. let q = eqb-true n 16 h in (omega arith, omega arith)) λ h5.
    cases (eqb n 32) (λ h. let q = eqb-true n 32 h in (omega arith, omega arith)) λ h6.
    let q = eqb-true n 64 (rw (h1, h2, h3, h4, h5, h6) at e) in (omega arith, omega arith)

pub fits-tells : (b : Hierarchy) → fits b ≡ true → Fits b
unfolding fits figures_allowed
fits-tells b e =
    let figures = and_left (figures_allowed b.figures b.size) _ e in
    let lengths = and_right (figures_allowed b.figures b.size) _ e in
    let sets = sets-bound b.figures.sets (and_left (sets_allowed b.figures.sets) _ figures) in
    let rest = and_right (sets_allowed b.figures.sets) _ figures in
    let ways = and_left (ways_allowed b.figures.ways) _ rest in
    let size = and_right (ways_allowed b.figures.ways) (memory_allowed b.size) rest in
    record {
      some-set = sets.0;
      some-way = leb-true 1 b.figures.ways (and_left _ _ ways);
      most-ways = leb-true b.figures.ways 4 (and_right (leb 1 b.figures.ways) _ ways);
      room = mul-le-mul sets.1 (leb-true b.figures.ways 4 (and_right (leb 1 b.figures.ways) _ ways));
      by_lines = eqb-true (b.size % 16) 0 (and_left _ _ size);
      memory-long = eqb-true (length b.memory) b.size (and_left _ _ lengths);
      cache-long =
          eqb-true (length b.cache) (slots b * 16) (and_right (eqb (length b.memory) b.size) _ lengths);
    }

-- ---- looking a line up

pub holds-tells : (l : ℕ) (t : Tag) → holds_line l t ≡ true → (t.valid ≡ true) × (t.line ≡ l)
unfolding holds_line
holds-tells l t e = (and_left t.valid _ e, eqb-true t.line l (and_right t.valid _ e))

pub holds-is : (l : ℕ) (t : Tag) → t.valid ≡ true → t.line ≡ l → holds_line l t ≡ true
unfolding holds_line
holds-is l t v e = and_both t.valid _ v (eq-eqb t.line l e)

pub present-tells : (b : Hierarchy) (l : ℕ) → present b l ≡ true → At b l
unfolding present slot_of
present-tells b l e =
    let p : ℕ → Bool = λ k. holds_line l (tag_at b.tags k) in
    let h = ltb-true (first_from p (first_slot b l) b.figures.ways) (first_slot b l + b.figures.ways) e in
    let n = holds-tells l _ (first-hits p b.figures.ways (first_slot b l) h) in
    record { low = first-low p b.figures.ways (first_slot b l); high = h; valid = n.0; line = n.1 }

-- a valid line is found in its slot
pub look :
    (b : Hierarchy) → Lines b → (k l : ℕ) → (tag_at b.tags k).valid ≡ true → (tag_at b.tags k).line ≡ l
    → (present b l ≡ true) × (slot_of b l ≡ k)
unfolding present slot_of
look b g k l v e =
    let o = g.own k v in
    let lo : first_slot b l ≤ k = subst (λ (l : ℕ). first_slot b l ≤ k) e o.0 in
    let hi : k < first_slot b l + b.figures.ways = subst (λ (l : ℕ). k < first_slot b l + b.figures.ways) e o.1 in
    let p : ℕ → Bool = λ k. holds_line l (tag_at b.tags k) in
    let least = first-least p b.figures.ways (first_slot b l) k lo hi (holds-is l (tag_at b.tags k) v e) in
    let h : first_from p (first_slot b l) b.figures.ways < first_slot b l + b.figures.ways = omega arith in
    let n = holds-tells l _ (first-hits p b.figures.ways (first_slot b l) h) in
    (lt-ltb _ _ h, g.once _ k n.0 v (n.1 ∙ sym e))

pub absent-tells :
    (b : Hierarchy) → Lines b → (l : ℕ) → present b l ≡ false → (k : ℕ) → (tag_at b.tags k).valid ≡ true
    → (tag_at b.tags k).line ≡ l → ⊥
absent-tells b g l e k v q = wrong (look b g k l v q).0 e

-- a valid record is none of the unused ones
valid-used :
    (b : Hierarchy) → ((k : ℕ) → slots b ≤ k → tag_at b.tags k ≡ no_tag) → (k : ℕ) → (tag_at b.tags k).valid ≡ true
    → k < slots b
valid-used b h k v =
    elim (dec_lt k (slots b)) [ yes l ↦ l | no l ↦ wrong v (ap (λ (t : Tag). t.valid) (h k (omega arith))) ]

pub used-slot : (b : Hierarchy) → Good b → (k : ℕ) → (tag_at b.tags k).valid ≡ true → k < slots b
used-slot b g = valid-used b g.unused

-- a dirty record is valid
pub dirty-valid : (b : Hierarchy) → Good b → (k : ℕ) → is_dirty (tag_at b.tags k) ≡ true → (tag_at b.tags k).valid ≡ true
dirty-valid b g k d = cases (tag_at b.tags k).valid (λ v. v) (λ v. wrong d (g.empty k v).0)

pub byte-valid :
    (b : Hierarchy) → Good b → (k i : ℕ) → dirty_at (tag_at b.tags k) i ≡ true → (tag_at b.tags k).valid ≡ true
byte-valid b g k i d = dirty-valid b g k (dirty-byte (tag_at b.tags k) i d)

-- ---- the clauses, one by one

every-at : (l : List Bool) → every (λ t. t) l ≡ true → (k : ℕ) → get_or l k true ≡ true
unfolding every
every-at [] e k = refl
every-at (t ∷ l) e zero = and_left t _ e
every-at (t ∷ l) e (suc k) = every-at l (and_right t _ e) k

record Clauses (b : Hierarchy) : Type 0 where
  table : table_length b ≡ true
  unused : unused_zero b ≡ true
  recency : recency_formed b ≡ true
  inside : lines_inside b ≡ true
  own : lines_in_set b ≡ true
  once : lines_once b ≡ true
  dirty : only_valid_dirty b ≡ true
  line : invalid_zero b ≡ true
  bytes : invalid_bytes b ≡ true
  clean : clean_equal b ≡ true
  none-dirty : none_dirty b ≡ true
  four-marks : four_marks b ≡ true

clauses-tell : (b : Hierarchy) → lines_formed b ≡ true → Clauses b
unfolding lines_formed
clauses-tell b e =
    let at = every-at (line_clauses b) e in
    record {
      table = at 0;
      unused = at 1;
      recency = at 2;
      inside = at 3;
      own = at 4;
      once = at 5;
      dirty = at 6;
      line = at 7;
      bytes = at 8;
      clean = at 9;
      none-dirty = at 10;
      four-marks = at 11;
    }

clauses-are : (b : Hierarchy) → Clauses b → lines_formed b ≡ true
unfolding lines_formed every
clauses-are b c =
    and_both _ _ c.table
    (and_both _ _ c.unused
    (and_both _ _ c.recency
    (and_both _ _ c.inside
    (and_both _ _ c.own
    (and_both _ _ c.once
    (and_both _ _ c.dirty (and_both _ _ c.line (and_both _ _ c.bytes
    (and_both _ _ c.clean (and_both _ _ c.none-dirty (and_both _ _ c.four-marks refl)))))))))))

-- ---- zero records

-- neither is the smaller
level : (j k : ℕ) → (j < k → ⊥) → (k < j → ⊥) → j ≡ k
level j k p q = omega arith

zero-tells : (t : Tag) → zero_tag t ≡ true → t ≡ no_tag
unfolding zero_tag
zero-tells t e =
    let e₁ = and_right (not t.valid) _ e in
    let e₂ = and_right (eqb t.dirty 0) _ e₁ in
    let p = not-true _ (and_left (not t.valid) _ e) in
    let q = eqb-true t.dirty 0 (and_left _ _ e₁) in
    let r = eqb-true t.line 0 (and_left _ _ e₂) in
    let s = eqb-true t.age 0 (and_right (eqb t.line 0) _ e₂) in
    λ i. record { valid = p i; dirty = q i; line = r i; age = s i }

zero_is : (t : Tag) → t ≡ no_tag → zero_tag t ≡ true
unfolding zero_tag
zero_is t e = rw e

-- ---- well-formed, from the clauses and back

module _ (b : Hierarchy) where
  -- a clause at one slot
  at_slot : (p : ℕ → Bool) → all_from p 0 (slots b) ≡ true → (k : ℕ) → k < slots b → p k ≡ true
  at_slot p e k h = all-at p (slots b) 0 e k (omega arith) (omega arith)

  module _ (k : ℕ) where
    abbrev tag : Tag
    tag = tag_at b.tags k

    -- a clause that speaks of valid records
    if-valid : {t : Bool} → (not tag.valid || t) ≡ true → tag.valid ≡ true → t ≡ true
    if-valid e v = or-then (not tag.valid) _ e (ap not v)

    inside-tells : lines_inside_at b k ≡ true → tag.valid ≡ true → 16 * tag.line < b.size
    unfolding lines_inside_at
    inside-tells e v = ltb-true _ b.size (if-valid e v)

    own-tells :
        lines_in_set_at b k ≡ true → tag.valid ≡ true → (first_slot b tag.line ≤ k) × (k < first_slot b tag.line + b.figures.ways)
    unfolding lines_in_set_at
    own-tells e v =
        let h = if-valid e v in
        (leb-true _ k (and_left _ _ h), ltb-true k _ (and_right (leb (first_slot b tag.line) k) _ h))

    once-tells :
        lines_once_at b k ≡ true → tag.valid ≡ true → (j : ℕ) → first_slot b tag.line ≤ j → j < k
        → (tag_at b.tags j).valid ≡ true → (tag_at b.tags j).line ≡ tag.line → ⊥
    unfolding lines_once_at
    once-tells e v j a l u q =
        wrong (holds-is tag.line (tag_at b.tags j) u q)
        (not-true _ (all-at _ (k - first_slot b tag.line) (first_slot b tag.line) (if-valid e v) j a (omega arith)))

    clean-tells :
        clean_equal_at b k ≡ true → tag.valid ≡ true → (i : ℕ) → dirty_at tag i ≡ false → i < 16
        → get_or b.cache (16 * k + i) 0 ≡ get_or b.memory (16 * tag.line + i) 0
    unfolding clean_equal_at
    clean-tells e v i d h =
        eqb-true _ _ (or-then (dirty_at tag i) _ (all-at _ 16 0 (if-valid e v) i (omega arith) (omega arith)) d)

    empty-tells : only_valid_dirty_at b k ≡ true → invalid_zero_at b k ≡ true → tag.valid ≡ false → (is_dirty tag ≡ false) × (tag.line ≡ 0)
    unfolding only_valid_dirty_at invalid_zero_at
    empty-tells e f v =
        (cases (is_dirty tag) (λ d. wrong (or-then (not (is_dirty tag)) _ e (ap not d)) v) (λ d. d), eqb-true _ 0 (or-then tag.valid _ f v))

    zeroed-tells : invalid_bytes_at b k ≡ true → tag.valid ≡ false → (i : ℕ) → i < 16 → get_or b.cache (16 * k + i) 0 ≡ 0
    unfolding invalid_bytes_at
    zeroed-tells e v i h = eqb-true _ 0 (all-at _ 16 0 (or-then tag.valid _ e v) i (omega arith) (omega arith))

    undirty-tells : is_clean_at b k ≡ true → is_dirty tag ≡ false
    unfolding is_clean_at
    undirty-tells e = not-true _ e

    checkpoints-tell : four_marks_at b k ≡ true → tag.dirty ≤ 15
    unfolding four_marks_at
    checkpoints-tell e = leb-true tag.dirty 15 e

pub good-tells : (b : Hierarchy) → lines_formed b ≡ true → Good b
good-tells b e =
    record {
      table = long;
      unused = past;
      recency = recency-tells b c.recency;
      lines = record {
        inside = λ k v. inside-tells b k (at_slot b (lines_inside_at b) c.inside k (here k v)) v;
        own = own;
        once = λ j k u v q. level j k (twice j k u v q) (twice k j v u (sym q));
      };
      clean = λ k i v d h. clean-tells b k (at_slot b (clean_equal_at b) c.clean k (here k v)) v i d h;
      empty = λ k v.
          elim (dec_lt k (slots b)) [
            | yes h ↦ empty-tells b k (at_slot b (only_valid_dirty_at b) c.dirty k h) (at_slot b (invalid_zero_at b) c.line k h) v
            | no h ↦ let q = past k (omega arith) in (ap is_dirty q ∙ no-tag-clean, ap (λ (t : Tag). t.line) q)
          ];
      zeroed = λ k i h v l. zeroed-tells b k (at_slot b (invalid_bytes_at b) c.bytes k h) v i l;
      none-dirty = λ t k.
          elim (dec_lt k (slots b)) [
            | yes h ↦ undirty-tells b k (at_slot b (is_clean_at b) (or-then (not (writes_through b)) _ c.none-dirty (ap not t)) k h)
            | no h ↦ ap is_dirty (past k (omega arith)) ∙ no-tag-clean
          ];
      four-marks = λ k.
          elim (dec_lt k (slots b)) [
            | yes h ↦ checkpoints-tell b k (at_slot b (four_marks_at b) c.four-marks k h)
            | no h ↦ rw (past k (omega arith)) no-tag-few
          ];
    }
  where
    c : Clauses b
    c = clauses-tell b e

    long : length b.tags ≡ 256
    long = eqb-true (length b.tags) 256 c.table

    past : (k : ℕ) → slots b ≤ k → tag_at b.tags k ≡ no_tag
    past k h =
        elim (dec_lt k 256) [
          | yes l ↦ zero-tells _ (all-at _ (length b.tags - slots b) (slots b) (sym (every_drop zero_tag no_tag (slots b) b.tags) ∙ c.unused) k h (omega (arith, long)))
          | no l ↦ get_or-eq_default b.tags no_tag (omega (arith, long))
        ]

    here : (k : ℕ) → (tag_at b.tags k).valid ≡ true → k < slots b
    here = valid-used b past

    own :
        (k : ℕ) → (tag_at b.tags k).valid ≡ true
        → (first_slot b (tag_at b.tags k).line ≤ k) × (k < first_slot b (tag_at b.tags k).line + b.figures.ways)
    own k v = own-tells b k (at_slot b (lines_in_set_at b) c.own k (here k v)) v

    twice :
        (j k : ℕ) → (tag_at b.tags j).valid ≡ true → (tag_at b.tags k).valid ≡ true
        → (tag_at b.tags j).line ≡ (tag_at b.tags k).line → j < k → ⊥
    twice j k u v q l =
        once-tells b k (at_slot b (lines_once_at b) c.once k (here k v)) v j (subst (λ (n : ℕ). first_slot b n ≤ j) q (own j u).0) l u q

module _ (b : Hierarchy) (g : Good b) (k : ℕ) where
  inside_is : lines_inside_at b k ≡ true
  unfolding lines_inside_at
  inside_is = or-by _ _ (λ n. lt-ltb _ b.size (g.lines.inside k (not-false _ n)))

  own_is : lines_in_set_at b k ≡ true
  unfolding lines_in_set_at
  own_is = or-by _ _ (λ n. let o = g.lines.own k (not-false _ n) in and_both _ _ (le-leb _ k o.0) (lt-ltb k _ o.1))

  once_is : lines_once_at b k ≡ true
  unfolding lines_once_at
  once_is =
      or-by _ _ (λ n.
      let v = not-false _ n in
      let o = g.lines.own k v in
      all-by _ (k - first_slot b (tag_at b.tags k).line) _ (λ j a h.
      ap not (cases (holds_line (tag_at b.tags k).line (tag_at b.tags j))
      (λ e.
      let m = holds-tells _ (tag_at b.tags j) e in
      let z = g.lines.once j k m.0 v m.1 in
      let no : ⊥ = omega arith in
      absurd no)
      (λ e. e))))

  dirty-is : only_valid_dirty_at b k ≡ true
  unfolding only_valid_dirty_at
  dirty-is = or-by _ _ (λ n. dirty-valid b g k (not-false _ n))

  empty-is : invalid_zero_at b k ≡ true
  unfolding invalid_zero_at
  empty-is = or-by _ _ (λ v. eq-eqb _ 0 (g.empty k v).1)

  zeroed-is : k < slots b → invalid_bytes_at b k ≡ true
  unfolding invalid_bytes_at
  zeroed-is h = or-by _ _ (λ v. all-by _ 16 0 (λ i a l. eq-eqb _ 0 (g.zeroed k i h v (omega arith))))

  clean_is : clean_equal_at b k ≡ true
  unfolding clean_equal_at
  clean_is =
      or-by _ _ (λ n. all-by _ 16 0 (λ i a l. or-by _ _ (λ d. eq-eqb _ _ (g.clean k i (not-false _ n) d (omega arith)))))

  undirty-is : writes_through b ≡ true → is_clean_at b k ≡ true
  unfolding is_clean_at
  undirty-is t = ap not (g.none-dirty t k)

  marks-are : four_marks_at b k ≡ true
  unfolding four_marks_at
  marks-are = le-leb _ 15 (g.four-marks k)

pub good-is : (b : Hierarchy) → Good b → lines_formed b ≡ true
good-is b g =
    clauses-are b (record {
      table = eq-eqb _ 256 g.table;
      unused =
          every_drop zero_tag no_tag (slots b) b.tags
          ∙ all-by _ (length b.tags - slots b) (slots b) (λ k a h. zero_is _ (g.unused k a));
      recency = recency-are b g.recency;
      inside = all-by (lines_inside_at b) (slots b) 0 (λ k a h. inside_is b g k);
      own = all-by (lines_in_set_at b) (slots b) 0 (λ k a h. own_is b g k);
      once = all-by (lines_once_at b) (slots b) 0 (λ k a h. once_is b g k);
      dirty = all-by (only_valid_dirty_at b) (slots b) 0 (λ k a h. dirty-is b g k);
      line = all-by (invalid_zero_at b) (slots b) 0 (λ k a h. empty-is b g k);
      bytes = all-by (invalid_bytes_at b) (slots b) 0 (λ k a h. zeroed-is b g k (omega arith));
      clean = all-by (clean_equal_at b) (slots b) 0 (λ k a h. clean_is b g k);
      none-dirty = or-by (not (writes_through b)) _ (λ n. all-by (is_clean_at b) (slots b) 0 (λ k a h. undirty-is b g k (not-false _ n)));
      four-marks = all-by (four_marks_at b) (slots b) 0 (λ k a h. marks-are b g k);
    })

-- The tests of the records one by one are the clauses of the lines: a table passes them if and only if its lines are well formed.
use mathlib.Core.Path.{◌≡◌, refl, sym, ap, subst, ◌∙◌}
use mathlib.Core.Bool.{Bool, true, false, not, ◌&&◌}
use mathlib.Core.List.{List, [], ◌∷◌}
use Prim.Native.Nat.{ℕ, zero, suc, ◌+◌, ◌*◌, ◌-◌, ◌/◌, ◌%◌, ◌<◌, ◌≤◌}
use native.Mathlib.Nat.{mod-lt, div-add-mod', div-lt_iff_lt-mul}
use native.Mathlib.Omega.{arith}
use native.Mathlib.Decide.{dec_lt}
use lib.Dec.{ltb, leb, eqb}
use lib.ListN.{length, get_or, take, drop, get_or-eq_default}
use lib.Seq.{length-take-le}
use borrow.Author.Tests.{ltb-true, leb-true, eqb-true, lt-ltb, le-leb, eq-eqb, ne_eqb, not-true, not-false}
use Rattle.std.specs.Cmp.Lexicographic.{bytes_decides}
use Rattle.std.specs.Simd.{first_chunks}
use Rattle.std.proofs.lemmas.List.{get_or-replicate, get_or-take}
use Rattle.std.proofs.lemmas.List.Edits.{length-between, get_or-between}
use Rattle.std.proofs.lemmas.Grind.{same_number_lists}
use Rattle.lists.specs.Padded.{any, every}
use Rattle.lists.proofs.Cond.{cases, and_left, and_right, and_both, or-one, or-two, or-then, or_left, or_right, or-by, none_or, wrong}
use Rattle.lists.proofs.Counting.{all-at, all-by, every_drop}
use Rattle.rules.specs.declared.Figures.{Figures}
use Rattle.rules.specs.declared.Tag.{Tag}
use Rattle.rules.specs.Shape.{Hierarchy, no_tag, tag_at, slots, first_slot, is_through}
use Rattle.rules.specs.Lines.{holds_line, is_dirty_word, dirty_at, is_dirty}
use Rattle.rules.specs.WellFormed.{zero_tag, lines_formed}
use Rattle.rules.proofs.Records.{set_room}
use Rattle.rules.proofs.Dirty.{clean-byte, clean-few, no-tag-clean, no-tag-few}
use Rattle.rules.proofs.Recency.{Ages, recency-ages, ages-recency}
use Rattle.rules.proofs.LineFacts.{Fits, Good, good-tells, good-is}
use Rattle.line_checks.specs.SlotTests.{same_bytes, word_at, line_at, word_good, marks_good, valid_good, invalid_good, record_good, same_age_or_line, way_good, set_good, of_set, sets_good}
use Rattle.line_checks.proofs.Chunks.{chunks-long, chunk-long, chunk-at}

-- ---- numbers

-- neither is the smaller
level : (j k : ℕ) → (j < k → ⊥) → (k < j → ⊥) → j ≡ k
level j k p q = omega arith

-- the set of a slot
same_set : (r s w ways : ℕ) → w < ways → r * ways ≤ s * ways + w → s * ways + w < r * ways + ways → r ≡ s
same_set r s w ways h low high =
    level r s (λ l. let m = set_room r s ways l in omega arith) (λ l. let m = set_room s r ways l in omega arith)

-- ---- one record

-- a dirty line passes if there are four marks, and each clean byte equals memory's
module _ (t : Tag) (line home : List ℕ) (long : length line ≡ 16) (far : length home ≡ 16) where
  abbrev Clean : Type 0
  Clean = (i : ℕ) → dirty_at t i ≡ false → i < 16 → get_or line i 0 ≡ get_or home i 0

  four : (xs : List ℕ) → length xs ≡ 16 → length xs / 4 ≡ 4
  four xs e = rw e

  word-byte : (xs : List ℕ) → length xs ≡ 16 → (n j : ℕ) → n < 4 → j < 4 → get_or (word_at xs n) j 0 ≡ get_or xs (4 * n + j) 0
  word-byte xs e n j h l = rw (four xs e) (chunk-at 4 4 xs n j h l)

  word-long : (xs : List ℕ) → length xs ≡ 16 → (n : ℕ) → n < 4 → length (word_at xs n) ≡ 4
  word-long xs e n h = rw (four xs e) (chunk-long 4 4 xs n h (omega arith))

  marks-tell : marks_good t.dirty line home ≡ true → (t.dirty ≤ 15) × Clean
  unfolding marks_good word_good dirty_at
  marks-tell e = (
    leb-true t.dirty 15 (and_left _ _ e),
    λ i d h.
        let same : word_at line (i / 4) ≡ word_at home (i / 4) =
        (bytes_decides _ _).0 (or-then (is_dirty_word t.dirty (i / 4)) _ (all-at _ 4 0 (and_right (leb t.dirty 15) _ e) (i / 4) (omega arith) (omega arith)) d) in
        let p : 4 * (i / 4) + i % 4 ≡ i = omega arith in
        let q : get_or line (4 * (i / 4) + i % 4) 0 ≡ get_or home (4 * (i / 4) + i % 4) 0 =
        sym (word-byte line long (i / 4) (i % 4) (omega arith) (omega arith))
        ∙ (ap (λ (w : List ℕ). get_or w (i % 4) 0) same ∙ word-byte home far (i / 4) (i % 4) (omega arith) (omega arith)) in
        rw p at q,
  )

  marks-are : t.dirty ≤ 15 → Clean → marks_good t.dirty line home ≡ true
  unfolding marks_good word_good dirty_at
  marks-are few clean =
      and_both (leb t.dirty 15) _ (le-leb t.dirty 15 few)
      (all-by _ 4 0 (λ n low high.
      or-by (is_dirty_word t.dirty n) _ (λ d.
      (bytes_decides _ _).1
      (same_number_lists _ _ (word-long line long n (omega arith) ∙ sym (word-long home far n (omega arith))) (λ j h.
      let l : j < 4 = omega (arith, word-long line long n (omega arith)) in
      let m : (4 * n + j) / 4 ≡ n = omega arith in
      word-byte line long n j (omega arith) l
      ∙ (clean (4 * n + j) (ap (is_dirty_word t.dirty) m ∙ d) (omega arith) ∙ sym (word-byte home far n j (omega arith) l)))))))

module _ (f : Figures) (memory : List (List ℕ)) (s : ℕ) (line : List ℕ) (t : Tag) where
  abbrev good : Bool
  good = record_good f memory s line t

  abbrev home : List ℕ
  home = line_at memory t.line

  -- what is asked of a valid record
  pub record Valid : Type 0 where
    pub inside : t.line < length memory
    pub own : t.line % f.sets ≡ s
    pub clean : (i : ℕ) → dirty_at t i ≡ false → i < 16 → get_or line i 0 ≡ get_or home i 0
    pub undirty : is_through f.policy ≡ true → is_dirty t ≡ false
    pub few : t.dirty ≤ 15

  -- and of an invalid one
  pub record Invalid : Type 0 where
    pub undirty : is_dirty t ≡ false
    pub line-zero : t.line ≡ 0
    pub zeroed : (i : ℕ) → i < 16 → get_or line i 0 ≡ 0

  age-tells : good ≡ true → t.age < f.ways
  unfolding record_good
  age-tells e = ltb-true t.age f.ways (and_left (ltb t.age f.ways) _ e)

  module _ (long : length line ≡ 16) (far : t.line < length memory → length home ≡ 16) where
    valid-tells : good ≡ true → t.valid ≡ true → Valid
    unfolding record_good valid_good
    valid-tells e v =
        let g : valid_good f memory s line t ≡ true = rw v at (and_right (ltb t.age f.ways) _ e) in
        let h = and_right (ltb t.line (length memory)) _ g in
        let rest = and_right (eqb (t.line % f.sets) s) _ h in
        let inside = ltb-true t.line (length memory) (and_left (ltb t.line (length memory)) _ g) in
        let own = eqb-true (t.line % f.sets) s (and_left (eqb (t.line % f.sets) s) _ h) in
        cases (is_dirty t)
        (λ d.
        let dirty : (not (is_through f.policy) && marks_good t.dirty line home) ≡ true = rw d at rest in
        let marks = marks-tell t line home long (far inside) (and_right (not (is_through f.policy)) _ dirty) in
        record { inside = inside; own = own; clean = marks.1; undirty = λ w. wrong w (not-true _ (and_left _ _ dirty)); few = marks.0 })
        (λ d.
        let same : same_bytes line home ≡ true = rw d at rest in
        record { inside = inside; own = own; clean = λ i c l. ap (λ (b : List ℕ). get_or b i 0) ((bytes_decides _ _).0 same); undirty = λ w. d; few = clean-few t d })

    record-is : t.age < f.ways → (t.valid ≡ true → Valid) → (t.valid ≡ false → Invalid) → good ≡ true
    unfolding record_good valid_good invalid_good
    record-is a p g =
        and_both (ltb t.age f.ways) _ (lt-ltb t.age f.ways a)
        (cases t.valid
        (λ v.
        let h = p v in
        rw v
        (and_both _ _ (lt-ltb t.line (length memory) h.inside)
        (and_both _ _ (eq-eqb (t.line % f.sets) s h.own)
        (cases (is_dirty t)
        (λ d. rw d (and_both (not (is_through f.policy)) _ (cases (is_through f.policy) (λ w. wrong d (h.undirty w)) (λ w. ap not w))
        (marks-are t line home long (far h.inside) h.few h.clean)))
        (λ d.
        rw d ((bytes_decides _ _).1
        (same_number_lists _ _ (long ∙ sym (far h.inside)) (λ i l. h.clean i (clean-byte t i d) (omega arith)))))))))
        (λ v.
        let h = g v in
        rw v
        (and_both _ _ (not-false (eqb t.dirty 0) h.undirty)
        (and_both _ _ (eq-eqb t.line 0 h.line-zero)
        ((bytes_decides _ _).1
        (same_number_lists _ _ long (λ i l. h.zeroed i (omega arith) ∙ sym (get_or-replicate 16 i 0 0 (omega arith)))))))))

  invalid-tells : good ≡ true → t.valid ≡ false → Invalid
  unfolding record_good invalid_good
  invalid-tells e v =
      let g : invalid_good line t ≡ true = rw v at (and_right (ltb t.age f.ways) _ e) in
      let h = and_right (eqb t.dirty 0) _ g in
      let same = (bytes_decides _ _).0 (and_right (eqb t.line 0) _ h) in
      record {
        undirty = ap not (and_left (eqb t.dirty 0) _ g);
        line-zero = eqb-true t.line 0 (and_left (eqb t.line 0) _ h);
        zeroed = λ i l. ap (λ (b : List ℕ). get_or b i 0) same ∙ get_or-replicate 16 i 0 0 l;
      }

-- ---- two records

module _ (u t : Tag) where
  same-age : u.age ≡ t.age → same_age_or_line u t ≡ true
  unfolding same_age_or_line
  same-age e = or-one (eqb u.age t.age) _ (eq-eqb _ _ e)

  same_line : u.valid ≡ true → t.valid ≡ true → u.line ≡ t.line → same_age_or_line u t ≡ true
  unfolding same_age_or_line holds_line
  same_line v w e =
      or-two (eqb u.age t.age) _ (and_both t.valid _ w (and_both u.valid _ v (eq-eqb u.line t.line e)))

  apart-is : (u.age ≡ t.age → ⊥) → (u.valid ≡ true → t.valid ≡ true → u.line ≡ t.line → ⊥) → same_age_or_line u t ≡ false
  unfolding same_age_or_line holds_line
  apart-is a l =
      none_or (eqb u.age t.age) _ (ne_eqb _ _ a)
      (cases (t.valid && (u.valid && eqb u.line t.line))
      (λ e.
      let h = and_right t.valid _ e in
      absurd (l (and_left u.valid _ h) (and_left t.valid _ e) (eqb-true u.line t.line (and_right u.valid _ h))))
      (λ e. e))

zero-tells : (t : Tag) → zero_tag t ≡ true → t ≡ no_tag
unfolding zero_tag
zero-tells t e =
    let f = and_right (not t.valid) _ e in
    let g = and_right (eqb t.dirty 0) _ f in
    let p = not-true _ (and_left (not t.valid) _ e) in
    let q = eqb-true t.dirty 0 (and_left _ _ f) in
    let r = eqb-true t.line 0 (and_left _ _ g) in
    let s = eqb-true t.age 0 (and_right (eqb t.line 0) _ g) in
    λ i. record { valid = p i; dirty = q i; line = r i; age = s i }

-- ---- the lines of the table

-- no entry before place w passes the test
none-at : {A : Type 0} (p : A → Bool) (d : A) (w : ℕ) (xs : List A) (j : ℕ) → any p (take w xs) ≡ false → j < w → j < length xs → p (get_or xs j d) ≡ false
unfolding any
none-at p d zero xs j e h l = absurd (omega arith)
none-at p d (suc w) [] j e h l = absurd (omega arith)
none-at p d (suc w) (x ∷ xs) zero e h l = or_left (p x) _ e
none-at p d (suc w) (x ∷ xs) (suc j) e h l = none-at p d w xs j (or_right (p x) _ e) (omega arith) (omega arith)

none-by : {A : Type 0} (p : A → Bool) (d : A) (w : ℕ) (xs : List A) → ((j : ℕ) → j < w → p (get_or xs j d) ≡ false) → any p (take w xs) ≡ false
unfolding any
none-by p d zero xs h = refl
none-by p d (suc w) [] h = refl
none-by p d (suc w) (x ∷ xs) h = none_or (p x) _ (h 0 (omega arith)) (none-by p d w xs (λ j l. h (suc j) (omega arith)))

module _ (b : Hierarchy) where
  -- the lines of the cache and of memory
  abbrev pub cache_lines : List (List ℕ)
  cache_lines = first_chunks 16 (length b.cache / 16) b.cache

  abbrev pub memory_lines : List (List ℕ)
  memory_lines = first_chunks 16 (length b.memory / 16) b.memory

  -- the record of way w of set s
  abbrev tag : ℕ → ℕ → Tag
  tag s w = tag_at b.tags (s * b.figures.ways + w)

  -- its line
  abbrev line : ℕ → ℕ → List ℕ
  line s w = line_at cache_lines (s * b.figures.ways + w)

  pub record Passed (s w : ℕ) : Type 0 where
    pub alone : record_good b.figures memory_lines s (line s w) (tag s w) ≡ true
    pub apart : (j : ℕ) → j < w → same_age_or_line (tag s j) (tag s w) ≡ false

module _ (b : Hierarchy) (fit : Fits b) where
  as_many : length b.cache / 16 ≡ slots b
  as_many = omega (arith, fit.cache-long)

  line-long : (k : ℕ) → k < slots b → length (line_at (cache_lines b) k) ≡ 16
  line-long k h = chunk-long 16 (length b.cache / 16) b.cache k (omega (arith, as_many)) (omega arith)

  line-byte : (k i : ℕ) → k < slots b → i < 16 → get_or (line_at (cache_lines b) k) i 0 ≡ get_or b.cache (16 * k + i) 0
  line-byte k i h l = chunk-at 16 (length b.cache / 16) b.cache k i (omega (arith, as_many)) l

  home-in : (l : ℕ) → l < length (memory_lines b) → l < length b.memory / 16
  home-in l h = omega (arith, chunks-long 16 (length b.memory / 16) b.memory)

  home-long : (l : ℕ) → l < length (memory_lines b) → length (line_at (memory_lines b) l) ≡ 16
  home-long l h = chunk-long 16 (length b.memory / 16) b.memory l (home-in l h) (omega arith)

  home-byte : (l i : ℕ) → l < length (memory_lines b) → i < 16 → get_or (line_at (memory_lines b) l) i 0 ≡ get_or b.memory (16 * l + i) 0
  home-byte l i h m = chunk-at 16 (length b.memory / 16) b.memory l i (home-in l h) m

  -- a line lies in memory
  in-size : (l : ℕ) → l < length (memory_lines b) → 16 * l < b.size
  in-size l h = omega (arith, home-in l h, fit.memory-long)

  in-lines : (l : ℕ) → 16 * l < b.size → l < length (memory_lines b)
  in-lines l h = omega (arith, chunks-long 16 (length b.memory / 16) b.memory, fit.memory-long, fit.by_lines)

-- a well-formed table passes
module _ (b : Hierarchy) (fit : Fits b) (g : Good b) (s w : ℕ) (s-in : s < b.figures.sets) (w-in : w < b.figures.ways) where
  abbrev k : ℕ
  k = s * b.figures.ways + w

  in_use : k < slots b
  in_use = let h = set_room s b.figures.sets b.figures.ways s-in in omega arith

  ages-in : Ages b.tags b.figures.ways (s * b.figures.ways)
  ages-in = recency-ages b g.recency s s-in

  pub good-passes : Passed b s w
  good-passes =
      record {
        alone =
            record-is b.figures (memory_lines b) s (line b s w) (tag b s w)
            (line-long b fit k in_use) (home-long b fit (tag b s w).line)
            (ages-in.small k (omega arith) (omega arith))
            (λ v.
            let inside = in-lines b fit (tag b s w).line (g.lines.inside k v) in
            record {
              inside = inside;
              own = same_set _ s w b.figures.ways w-in (g.lines.own k v).0 (g.lines.own k v).1;
              clean = λ i d l. line-byte b fit k i in_use l ∙ (g.clean k i v d l ∙ sym (home-byte b fit (tag b s w).line i inside l));
              undirty = λ w. g.none-dirty w k;
              few = g.four-marks k;
            })
            (λ v. record {
              undirty = (g.empty k v).0;
              line-zero = (g.empty k v).1;
              zeroed = λ i l. line-byte b fit k i in_use l ∙ g.zeroed k i in_use v l;
            });
        apart = λ j l.
            apart-is (tag b s j) (tag b s w)
            (λ e. let z = ages-in.same (s * b.figures.ways + j) k (omega arith) (omega arith) (omega arith) (omega arith) e in omega arith)
            (λ u v e. let z = g.lines.once (s * b.figures.ways + j) k u v e in omega arith);
      }

-- a table that passes is well formed
module _ (b : Hierarchy) (fit : Fits b) (table : length b.tags ≡ 256) (unused : every zero_tag (drop (slots b) b.tags) ≡ true)
    (passes : (s w : ℕ) → s < b.figures.sets → w < b.figures.ways → Passed b s w) where
  -- a fact of each slot in use, by its set and way
  by_way : (P : ℕ → Type 0) → ((s w : ℕ) → s < b.figures.sets → w < b.figures.ways → P (s * b.figures.ways + w)) → (k : ℕ) → k < slots b → P k
  by_way P h k l =
      subst P (div-add-mod' k b.figures.ways)
      (h (k / b.figures.ways) (k % b.figures.ways) ((div-lt_iff_lt-mul fit.some-way).1 l) (mod-lt k fit.some-way))

  in_table : (s w : ℕ) → s < b.figures.sets → w < b.figures.ways → s * b.figures.ways + w < slots b
  in_table s w p q = let m = set_room s b.figures.sets b.figures.ways p in omega arith

  past : (k : ℕ) → slots b ≤ k → tag_at b.tags k ≡ no_tag
  past k h =
      elim (dec_lt k 256) [
        | yes l ↦ zero-tells _ (all-at _ (length b.tags - slots b) (slots b) (sym (every_drop zero_tag no_tag (slots b) b.tags) ∙ unused) k h (omega (arith, table)))
        | no l ↦ get_or-eq_default b.tags no_tag (omega (arith, table))
      ]

  here : (k : ℕ) → (tag_at b.tags k).valid ≡ true → k < slots b
  here k v =
      elim (dec_lt k (slots b)) [ yes l ↦ l | no l ↦ wrong v (ap (λ (t : Tag). t.valid) (past k (omega arith))) ]

  valid-at :
      (s w : ℕ) → s < b.figures.sets → w < b.figures.ways → (tag b s w).valid ≡ true
      → Valid b.figures (memory_lines b) s (line b s w) (tag b s w)
  valid-at s w p q v = valid-tells _ _ s _ _ (line-long b fit _ (in_table s w p q)) (home-long b fit _) (passes s w p q).alone v

  invalid-at :
      (s w : ℕ) → s < b.figures.sets → w < b.figures.ways → (tag b s w).valid ≡ false
      → Invalid b.figures (memory_lines b) s (line b s w) (tag b s w)
  invalid-at s w p q v = invalid-tells _ _ s _ _ (passes s w p q).alone v

  -- two ways of a set that may not stand together are the same
  one_way :
      (s v w : ℕ) → s < b.figures.sets → v < b.figures.ways → w < b.figures.ways → same_age_or_line (tag b s v) (tag b s w) ≡ true
      → same_age_or_line (tag b s w) (tag b s v) ≡ true → v ≡ w
  one_way s v w p q r e f =
      level v w (λ l. wrong e ((passes s w p r).apart v l)) (λ l. wrong f ((passes s v p q).apart w l))

  ages : (s : ℕ) → s < b.figures.sets → Ages b.tags b.figures.ways (s * b.figures.ways)
  ages s h =
      record {
        small = λ k p q. in-set (λ k. (tag_at b.tags k).age < b.figures.ways) (λ w l. age-tells _ _ s _ _ (passes s w h l).alone) k p q;
        same = λ j k p q r t. in-set (λ j. (tag_at b.tags j).age ≡ (tag_at b.tags k).age → j ≡ k)
            (λ v m. in-set (λ k. (tag b s v).age ≡ (tag_at b.tags k).age → s * b.figures.ways + v ≡ k)
            (λ w n e. let z = one_way s v w h m n (same-age _ _ e) (same-age _ _ (sym e)) in omega arith) k r t)
            j p q;
      }
    where
      in-set :
          (P : ℕ → Type 0) → ((w : ℕ) → w < b.figures.ways → P (s * b.figures.ways + w)) → (k : ℕ) → s * b.figures.ways ≤ k
          → k < s * b.figures.ways + b.figures.ways → P k
      in-set P f k p q =
          let e : s * b.figures.ways + (k - s * b.figures.ways) ≡ k = omega arith in
          subst P e (f (k - s * b.figures.ways) (omega arith))

  once-in :
      (r v s w : ℕ) → r < b.figures.sets → v < b.figures.ways → s < b.figures.sets → w < b.figures.ways → (tag b r v).valid ≡ true → (tag b s w).valid ≡ true
      → (tag b r v).line ≡ (tag b s w).line → r * b.figures.ways + v ≡ s * b.figures.ways + w
  once-in r v s w p q m n x y e =
      let same : r ≡ s = sym (valid-at r v p q x).own ∙ (ap (λ (l : ℕ). l % b.figures.sets) e ∙ (valid-at s w m n y).own) in
      let x' : (tag b s v).valid ≡ true = subst (λ (r : ℕ). (tag b r v).valid ≡ true) same x in
      let e' : (tag b s v).line ≡ (tag b s w).line = subst (λ (r : ℕ). (tag b r v).line ≡ (tag b s w).line) same e in
      let z = one_way s v w m q n (same_line _ _ x' y e') (same_line _ _ y x' (sym e')) in
      ap (λ (r : ℕ). r * b.figures.ways + v) same ∙ omega arith

  pub passes-good : Good b
  passes-good =
      record {
        table = table;
        unused = past;
        recency = ages-recency b ages;
        lines = record {
          inside = λ k v. by_way (λ k. (tag_at b.tags k).valid ≡ true → 16 * (tag_at b.tags k).line < b.size) (λ s w p q v. in-size b fit _ (valid-at s w p q v).inside) k (here k v) v;
          own = λ k v.
              by_way (λ k. (tag_at b.tags k).valid ≡ true → (first_slot b (tag_at b.tags k).line ≤ k) × (k < first_slot b (tag_at b.tags k).line + b.figures.ways))
              (λ s w p q v. rw (valid-at s w p q v).own (omega arith, omega arith)) k (here k v) v;
          once = λ j k u v e.
              by_way (λ j. (tag_at b.tags j).valid ≡ true → (tag_at b.tags j).line ≡ (tag_at b.tags k).line → j ≡ k)
              (λ r x p q u. by_way (λ k. (tag_at b.tags k).valid ≡ true → (tag b r x).line ≡ (tag_at b.tags k).line → r * b.figures.ways + x ≡ k)
              (λ s w m n v e. once-in r x s w p q m n u v e) k (here k v) v)
              j (here j u) u e;
        };
        clean = λ k i v d l.
            by_way (λ k. (tag_at b.tags k).valid ≡ true → dirty_at (tag_at b.tags k) i ≡ false → get_or b.cache (16 * k + i) 0 ≡ get_or b.memory (16 * (tag_at b.tags k).line + i) 0)
            (λ s w p q v d.
            let h = valid-at s w p q v in
            sym (line-byte b fit _ i (in_table s w p q) l) ∙ (h.clean i d l ∙ home-byte b fit _ i h.inside l)) k (here k v) v d;
        empty = λ k v.
            elim (dec_lt k (slots b)) [
              | yes h ↦ by_way (λ k. (tag_at b.tags k).valid ≡ false → (is_dirty (tag_at b.tags k) ≡ false) × ((tag_at b.tags k).line ≡ 0))
                  (λ s w p q v. ((invalid-at s w p q v).undirty, (invalid-at s w p q v).line-zero)) k h v
              | no h ↦ let q = past k (omega arith) in (ap is_dirty q ∙ no-tag-clean, ap (λ (t : Tag). t.line) q)
            ];
        zeroed = λ k i h v l.
            by_way (λ k. (tag_at b.tags k).valid ≡ false → get_or b.cache (16 * k + i) 0 ≡ 0) (λ s w p q v. sym (line-byte b fit _ i (in_table s w p q) l) ∙ (invalid-at s w p q v).zeroed i l) k h v;
        none-dirty = λ t k.
            elim (dec_lt k (slots b)) [
              | yes h ↦ by_way (λ k. is_dirty (tag_at b.tags k) ≡ false)
                  (λ s w p q. cases (tag b s w).valid (λ v. (valid-at s w p q v).undirty t) (λ v. (invalid-at s w p q v).undirty)) k h
              | no h ↦ ap is_dirty (past k (omega arith)) ∙ no-tag-clean
            ];
        four-marks = λ k.
            elim (dec_lt k (slots b)) [
              | yes h ↦ by_way (λ k. (tag_at b.tags k).dirty ≤ 15)
                  (λ s w p q. cases (tag b s w).valid (λ v. (valid-at s w p q v).few) (λ v. clean-few (tag b s w) (invalid-at s w p q v).undirty)) k h
              | no h ↦ rw (past k (omega arith)) no-tag-few
            ];
      }

-- ---- the tests of the code

module _ (b : Hierarchy) (fit : Fits b) (table : length b.tags ≡ 256) where
  -- the records in use
  abbrev pub used : List Tag
  used = take (slots b) b.tags

  used-long : length used ≡ slots b
  used-long = length-take-le (slots b) b.tags (omega (arith, table, fit.room))

  module _ (s : ℕ) (s-in : s < b.figures.sets) where
    abbrev set : List Tag
    set = of_set b.figures used s

    abbrev lines : List (List ℕ)
    lines = of_set b.figures (cache_lines b) s

    room : s * b.figures.ways + b.figures.ways ≤ slots b
    room = set_room s b.figures.sets b.figures.ways s-in

    set_long : length set ≡ b.figures.ways
    set_long = length-between used (s * b.figures.ways) (s * b.figures.ways + b.figures.ways) (omega (arith, room, used-long)) ∙ omega arith

    set-tag : (w : ℕ) → w < b.figures.ways → tag_at set w ≡ tag b s w
    set-tag w h = get_or-between used (s * b.figures.ways) (s * b.figures.ways + b.figures.ways) w no_tag (omega arith) ∙ get_or-take (slots b) b.tags _ no_tag (omega (arith, room))

    set-line : (w : ℕ) → w < b.figures.ways → line_at lines w ≡ line b s w
    set-line w h = get_or-between (cache_lines b) (s * b.figures.ways) (s * b.figures.ways + b.figures.ways) w [] (omega arith)

    way-tells : (w : ℕ) → w < b.figures.ways → way_good b.figures (memory_lines b) s set lines w ≡ true → Passed b s w
    unfolding way_good
    way-tells w h e =
        let f : (record_good b.figures (memory_lines b) s (line b s w) (tag b s w) && not (any (λ u. same_age_or_line u (tag b s w)) (take w set))) ≡ true =
        rw (set-tag w h, set-line w h) at e in
        record {
          alone = and_left _ _ f;
          apart = λ j l. rw (set-tag j (omega arith)) at
              (none-at (λ u. same_age_or_line u (tag b s w)) no_tag w set j (not-true _ (and_right (record_good b.figures (memory_lines b) s (line b s w) (tag b s w)) _ f)) l (omega (arith, set_long)));
        }

    way-is : (w : ℕ) → w < b.figures.ways → Passed b s w → way_good b.figures (memory_lines b) s set lines w ≡ true
    unfolding way_good
    way-is w h p =
        rw (set-tag w h, set-line w h)
        (and_both _ _ p.alone (ap not (none-by (λ u. same_age_or_line u (tag b s w)) no_tag w set (λ j l. rw (set-tag j (omega arith)) (p.apart j l)))))

    set-tells : set_good b.figures (memory_lines b) s set lines ≡ true → (w : ℕ) → w < b.figures.ways → Passed b s w
    unfolding set_good
    set-tells e w h = way-tells w h (all-at _ (length set) 0 e w (omega arith) (omega (arith, set_long)))

    set-is : ((w : ℕ) → w < b.figures.ways → Passed b s w) → set_good b.figures (memory_lines b) s set lines ≡ true
    unfolding set_good
    set-is p = all-by _ (length set) 0 (λ w low high. let h : w < b.figures.ways = omega (arith, set_long) in way-is w h (p w h))

  sets-tell : sets_good b.figures (memory_lines b) used (cache_lines b) ≡ true → (s w : ℕ) → s < b.figures.sets → w < b.figures.ways → Passed b s w
  unfolding sets_good
  sets-tell e s w h l = set-tells s h (all-at _ b.figures.sets 0 e s (omega arith) (omega arith)) w l

  sets-are : ((s w : ℕ) → s < b.figures.sets → w < b.figures.ways → Passed b s w) → sets_good b.figures (memory_lines b) used (cache_lines b) ≡ true
  unfolding sets_good
  sets-are p = all-by _ b.figures.sets 0 (λ s low high. let h : s < b.figures.sets = omega arith in set-is s h (λ w l. p s w h l))

  -- the records in use pass: the clauses hold if the unused ones are zero
  pub lines-are : every zero_tag (drop (slots b) b.tags) ≡ true → sets_good b.figures (memory_lines b) used (cache_lines b) ≡ lines_formed b
  lines-are unused =
      cases (lines_formed b)
      (λ e. sets-are (λ s w p q. good-passes b fit (good-tells b e) s w p q) ∙ sym e)
      (λ e.
      cases (sets_good b.figures (memory_lines b) used (cache_lines b))
      (λ t. wrong (good-is b (passes-good b fit table unused (sets-tell t))) e)
      (λ t. t ∙ sym e))

pub unused-failed : (b : Hierarchy) → every zero_tag (drop (slots b) b.tags) ≡ false → lines_formed b ≡ false
unfolding lines_formed every
unused-failed b e = cases (eqb (length b.tags) 256) (λ t. rw (t, e)) (λ t. rw t)

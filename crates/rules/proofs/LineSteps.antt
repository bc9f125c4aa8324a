-- Each step on one slot (use, put a store, write back, install) keeps the lines well formed.
use mathlib.Core.Path.{◌≡◌, refl, sym, ap, fun_ext, ◌∙◌}
use mathlib.Core.Bool.{Bool, true, false, ◌&&◌}
use mathlib.Core.List.{List}
use Prim.Native.Nat.{ℕ, suc, ◌+◌, ◌*◌, ◌-◌, ◌/◌, ◌%◌, ◌<◌, ◌≤◌}
use native.Mathlib.Omega.{arith}
use native.Mathlib.Decide.{dec_lt}
use lib.Dec.{ltb, leb, eqb}
use lib.ListN.{length, get_or, set, length-set}
use lib.Seq.{get_or-set_same, get_or-set_other}
use borrow.Author.Tests.{ltb-true, leb-true, leb-false, eqb-true, lt-ltb, le-leb, lt-leb, eq-eqb, ne_eqb}
use Rattle.lists.specs.Counted.{first_from}
use Rattle.lists.specs.Bytes.{among, overlaid}
use Rattle.lists.proofs.Cond.{either, cases, and_left, and_right, and_both, wrong}
use Rattle.lists.proofs.Counting.{each_at, each_same}
use Rattle.rules.specs.declared.Tag.{Tag}
use Rattle.rules.specs.declared.StoreEntry.{StoreEntry}
use Rattle.rules.specs.declared.WritePolicy.{WritePolicy}
use Rattle.rules.specs.declared.WritePolicy.TheVariants.{WriteBack, WriteThrough}
use Rattle.rules.specs.Shape.{Hierarchy, holding, no_tag, tag_at, slots, set_start, first_slot, line_of, is_through, writes_through}
use Rattle.rules.specs.Lines.{holds_line, slot_of, present, use_slot, dirty_at, is_dirty, marked, cleaned, written_through_at, stored_memory, put_store, written_back_at, write_back_slot, copied_at, install}
use Rattle.rules.proofs.Records.{at_set, SameLines}
use Rattle.rules.proofs.Dirty.{marked-tells, marked-few, marked-clean, cleaned-clean, clean-few}
use Rattle.rules.proofs.Recency.{recency-same, set-recency, use-lines, use-dirty, use-marks, use-dirty-at, use-table, use-unused, use-recency}
use Rattle.rules.proofs.LineFacts.{Fits, Lines, Good, absent-tells, used-slot, byte-valid}

-- ---- what a change of records leaves

names-by : (l : ℕ) (t u : Tag) → t.valid ≡ u.valid → t.line ≡ u.line → holds_line l t ≡ holds_line l u
unfolding holds_line
names-by l t u v e = rw (v, e)

module _ (b : Hierarchy) (tags : List Tag) (c m : List ℕ) (h : SameLines b.tags tags) where
  pub slot_same : (l : ℕ) → slot_of (holding b tags c m) l ≡ slot_of b l
  unfolding slot_of
  slot_same l =
      ap (λ (p : ℕ → Bool). first_from p (first_slot b l) b.figures.ways)
      (fun_ext (λ k. names-by l (tag_at tags k) (tag_at b.tags k) (h.valid k) (h.line k)))

  pub present-same : (l : ℕ) → present (holding b tags c m) l ≡ present b l
  unfolding present
  present-same l = ap (λ (k : ℕ). ltb k (first_slot b l + b.figures.ways)) (slot_same l)

  lines_same : Lines b → Lines (holding b tags c m)
  lines_same g =
      record {
        inside = λ k v. omega (arith, h.line k, g.inside k (sym (h.valid k) ∙ v));
        own = λ k v. rw (h.line k) (g.own k (sym (h.valid k) ∙ v));
        once = λ j k u v q. g.once j k (sym (h.valid j) ∙ u) (sym (h.valid k) ∙ v) (sym (h.line j) ∙ (q ∙ h.line k));
      }

module _ (b : Hierarchy) (fit : Fits b) (g : Good b) (s v : ℕ) (s-in : s < b.figures.sets) (low : set_start b s ≤ v)
    (high : v < set_start b s + b.figures.ways) where
  pub use-good : Good (use_slot s v b)
  unfolding use_slot
  use-good =
      let same = use-lines s v b in
      record {
        table = use-table s v b ∙ g.table;
        unused = λ k h. use-unused b s v s-in low high k h ∙ g.unused k h;
        recency = use-recency b s v s-in low high (omega (arith, fit.room, g.table)) g.recency;
        lines = lines_same b _ b.cache b.memory same g.lines;
        clean = λ k i e d h. rw (same.line k) (g.clean k i (sym (same.valid k) ∙ e) (sym (use-dirty-at s v b i k) ∙ d) h);
        empty = λ k n. let e = g.empty k (sym (same.valid k) ∙ n) in (use-dirty s v b k ∙ e.0, same.line k ∙ e.1);
        zeroed = λ k i h v l. g.zeroed k i h (sym (same.valid k) ∙ v) l;
        none-dirty = λ t k. use-dirty s v b k ∙ g.none-dirty t k;
        four-marks = λ k. omega (arith, use-marks s v b k, g.four-marks k);
      }

-- ---- a record is written

pub same_lines : (tags : List Tag) → SameLines tags tags
same_lines tags = record { valid = λ k. refl; line = λ k. refl }

module _ (b : Hierarchy) (fit : Fits b) (g : Good b) (v : ℕ) (v-in : v < slots b) (t : Tag) where
  in-table : v < length b.tags
  in-table = omega (arith, fit.room, g.table)

  set-unused : (k : ℕ) → slots b ≤ k → tag_at (set b.tags v t) k ≡ no_tag
  set-unused =
      at_set b.tags v t in-table (λ k u. slots b ≤ k → u ≡ no_tag) (λ h. let no : ⊥ = omega arith in absurd no) (λ k d. g.unused k)

  set_lines :
      t.valid ≡ (tag_at b.tags v).valid → t.line ≡ (tag_at b.tags v).line → SameLines b.tags (set b.tags v t)
  set_lines p q =
      record {
        valid = at_set b.tags v t in-table (λ k u. u.valid ≡ (tag_at b.tags k).valid) p (λ k d. refl);
        line = at_set b.tags v t in-table (λ k u. u.line ≡ (tag_at b.tags k).line) q (λ k d. refl);
      }

-- ---- a store

pub among-tells : (p w j : ℕ) → among p w j ≡ true → (p ≤ j) × (j < p + w)
among-tells p w j e = (leb-true p j (and_left _ _ e), ltb-true j (p + w) (and_right (leb p j) _ e))

overlaid-out : (p w v j : ℕ) → (p ≤ j → j < p + w → ⊥) → (x : ℕ) → overlaid p w v j x ≡ x
unfolding overlaid
overlaid-out p w v j o x =
    either (λ r. r ≡ x) (among p w j) (λ e. let h = among-tells p w j e in absurd (o h.0 h.1)) (λ e. refl)

same-leb : (m n x y : ℕ) → (m ≤ n → x ≤ y) → (x ≤ y → m ≤ n) → leb m n ≡ leb x y
same-leb m n x y f g =
    cases (leb m n) (λ e. e ∙ sym (le-leb x y (f (leb-true m n e))))
    (λ e. e ∙ sym (lt-leb x y (elim (dec_lt y x) [
      | yes h ↦ h
      | no h ↦ let no : ⊥ = omega (arith, leb-false m n e, g (omega arith)) in absurd no
    ])))

-- what stands at place j of bytes from p on stands at place k of bytes from q on
pub overlaid-moved : (p j q k w v x : ℕ) → p + k ≡ q + j → overlaid p w v j x ≡ overlaid q w v k x
unfolding overlaid
overlaid-moved p j q k w v x e =
    let low : leb p j ≡ leb q k = same-leb p j q k (λ h. omega arith) (λ h. omega arith) in
    let high : ltb j (p + w) ≡ ltb k (q + w) = same-leb (suc j) (p + w) (suc k) (q + w) (λ h. omega arith) (λ h. omega arith) in
    let byte : j - p ≡ k - q = omega arith in
    rw (low, high, byte)

-- an access in one word is an access in one line
pub word-in-line : (a w : ℕ) → a % 4 + w ≤ 4 → a % 16 + w ≤ 16
word-in-line a w h = omega arith

-- what write-through does to a byte of memory, and that write-back does nothing to it
pub through-is :
    (w : WritePolicy) (s : StoreEntry) (a x : ℕ) → is_through w ≡ true → written_through_at w s a x ≡ overlaid s.address s.width s.value a x
unfolding written_through_at
through-is WriteBack s a x t = wrong t refl
through-is WriteThrough s a x t = refl

back_is : (w : WritePolicy) (s : StoreEntry) (a : ℕ) → is_through w ≡ false → (x : ℕ) → written_through_at w s a x ≡ x
unfolding written_through_at
back_is WriteBack s a t x = refl
back_is WriteThrough s a t x = wrong refl t

-- neither changes a byte that is none of the store's
pub through-out :
    (w : WritePolicy) (s : StoreEntry) (a : ℕ) → (s.address ≤ a → a < s.address + s.width → ⊥) → (x : ℕ) → written_through_at w s a x ≡ x
unfolding written_through_at
through-out WriteBack s a o x = refl
through-out WriteThrough s a o x = overlaid-out s.address s.width s.value a o x

-- the bytes of memory of another line
memory-other :
    (b : Hierarchy) (s : StoreEntry) → s.address % 16 + s.width ≤ 16 → (l i : ℕ) → (l ≡ line_of s.address → ⊥) → i < 16
    → get_or (stored_memory s b) (16 * l + i) 0 ≡ get_or b.memory (16 * l + i) 0
unfolding stored_memory line_of
memory-other b s in-line l i d h =
    each_same _ b.memory 0 (16 * l + i) (through-out b.figures.policy s (16 * l + i) (λ p q. d (omega arith)))

-- memory alone is written, where the store's line is absent
pub memory-good :
    (b : Hierarchy) → Good b → (s : StoreEntry) → s.address % 16 + s.width ≤ 16 → present b (line_of s.address) ≡ false
    → Good (holding b b.tags b.cache (stored_memory s b))
memory-good b g s in-line absent =
    record {
      table = g.table;
      unused = g.unused;
      recency = recency-same b b.cache (stored_memory s b) g.recency b.tags (λ k. refl);
      lines = lines_same b b.tags b.cache (stored_memory s b) (same_lines b.tags) g.lines;
      clean = λ k i v d h.
          g.clean k i v d h
          ∙ sym (memory-other b s in-line (tag_at b.tags k).line i (absent-tells b g.lines (line_of s.address) absent k v) h);
      empty = g.empty;
      zeroed = g.zeroed;
      none-dirty = g.none-dirty;
      four-marks = g.four-marks;
    }

-- a byte that is none of the store's
put-outside :
    (b : Hierarchy) (v : ℕ) (s : StoreEntry) (j : ℕ) → (16 * v + s.address % 16 ≤ j → j < 16 * v + s.address % 16 + s.width → ⊥)
    → get_or (put_store v s b).cache j 0 ≡ get_or b.cache j 0
unfolding put_store
put-outside b v s j o = each_same _ b.cache 0 j (overlaid-out _ _ _ j o)

-- such a byte of the store's slot
put-beside :
    (b : Hierarchy) (v : ℕ) (s : StoreEntry) (i : ℕ) → among (s.address % 16) s.width i ≡ false
    → get_or (put_store v s b).cache (16 * v + i) 0 ≡ get_or b.cache (16 * v + i) 0
put-beside b v s i e =
    put-outside b v s (16 * v + i) (λ p q.
    wrong (and_both (leb (s.address % 16) i) _ (le-leb (s.address % 16) i (omega arith)) (lt-ltb i (s.address % 16 + s.width) (omega arith))) e)

-- the bytes of another slot
pub put_other :
    (b : Hierarchy) (v : ℕ) (s : StoreEntry) → s.address % 16 + s.width ≤ 16 → (k i : ℕ) → (k ≡ v → ⊥) → i < 16
    → get_or (put_store v s b).cache (16 * k + i) 0 ≡ get_or b.cache (16 * k + i) 0
put_other b v s in-line k i d h = put-outside b v s (16 * k + i) (λ p q. omega arith)

module _ (b : Hierarchy) (fit : Fits b) (g : Good b) (v : ℕ) (s : StoreEntry) (here : (tag_at b.tags v).valid ≡ true) where
  pub put-lines : SameLines b.tags (put_store v s b).tags
  unfolding put_store
  put-lines = set_lines b fit g v (used-slot b g v here) (marked b.figures.policy s (tag_at b.tags v)) refl refl

  -- with write-through a byte of the line in the cache is that in memory, if it was
  put-through :
      (tag_at b.tags v).line ≡ line_of s.address → writes_through b ≡ true → (i : ℕ) → dirty_at (tag_at b.tags v) i ≡ false → i < 16
      → get_or (put_store v s b).cache (16 * v + i) 0 ≡ get_or (stored_memory s b) (16 * (tag_at b.tags v).line + i) 0
  unfolding put_store stored_memory line_of
  put-through line-is t i d h =
      let a = 16 * (tag_at b.tags v).line + i in
      each_at (overlaid (16 * v + s.address % 16) s.width s.value) b.cache 0 (16 * v + i) (omega (arith, used-slot b g v here, fit.cache-long))
      ∙ (overlaid-moved (16 * v + s.address % 16) (16 * v + i) s.address a s.width s.value _ (omega arith)
      ∙ (ap (overlaid s.address s.width s.value a) (g.clean v i here d h)
      ∙ sym (each_at (written_through_at b.figures.policy s) b.memory 0 a (omega (arith, g.lines.inside v here, fit.by_lines, fit.memory-long))
      ∙ through-is b.figures.policy s a _ t)))

  -- with write-back a byte that is clean is none of the store's, and memory stays
  put_back :
      writes_through b ≡ false → (i : ℕ) → among (s.address % 16) s.width i ≡ false → dirty_at (tag_at b.tags v) i ≡ false → i < 16
      → get_or (put_store v s b).cache (16 * v + i) 0 ≡ get_or (stored_memory s b) (16 * (tag_at b.tags v).line + i) 0
  unfolding stored_memory
  put_back t i o d h =
      put-beside b v s i o ∙ (g.clean v i here d h ∙ sym (each_same _ b.memory 0 _ (back_is b.figures.policy s _ t)))

  pub put-good : s.address % 4 + s.width ≤ 4 → (tag_at b.tags v).line ≡ line_of s.address → Good (put_store v s b)
  unfolding put_store
  put-good in-word line-is =
      let in-line = word-in-line s.address s.width in-word in
      let v-in = used-slot b g v here in
      let t = marked b.figures.policy s (tag_at b.tags v) in
      let at = at_set b.tags v t (in-table b fit g v v-in t) in
      record {
        table = length-set b.tags v t ∙ g.table;
        unused = set-unused b fit g v v-in t;
        recency = set-recency b _ _ g.recency v t (in-table b fit g v v-in t) refl;
        lines = lines_same b _ _ _ put-lines g.lines;
        clean = λ k i.
            at
            (λ k u. u.valid ≡ true → dirty_at u i ≡ false → i < 16 → get_or (put_store v s b).cache (16 * k + i) 0 ≡ get_or (stored_memory s b) (16 * u.line + i) 0)
            (λ e f l.
            let m = marked-tells (tag_at b.tags v) i b.figures.policy s (g.four-marks v) in-word l f in
            cases (writes_through b) (λ t. put-through line-is t i m.0 l) (λ t. put_back t i (m.1 t) m.0 l))
            (λ k d e f l.
            put_other b v s in-line k i d l
            ∙ (g.clean k i e f l
            ∙ sym (memory-other b s in-line (tag_at b.tags k).line i (λ z. d (g.lines.once k v e here (z ∙ sym line-is))) l))) k;
        empty =
            at (λ k u. u.valid ≡ false → (is_dirty u ≡ false) × (u.line ≡ 0)) (λ e. wrong here e) (λ k d. g.empty k);
        zeroed = λ k i h.
            at (λ k u. k < slots b → u.valid ≡ false → i < 16 → get_or (put_store v s b).cache (16 * k + i) 0 ≡ 0)
            (λ h e. wrong here e) (λ k d h e l. put_other b v s in-line k i d l ∙ g.zeroed k i h e l) k h;
        none-dirty = λ h. at (λ k u. is_dirty u ≡ false) (marked-clean b.figures.policy s (tag_at b.tags v) h (g.none-dirty h v)) (λ k d. g.none-dirty h k);
        four-marks = at (λ k u. u.dirty ≤ 15) (marked-few b.figures.policy s (tag_at b.tags v) (g.four-marks v)) (λ k d. g.four-marks k);
      }

-- ---- a line goes to memory

module _ (t : Tag) (cache : List ℕ) (v a x : ℕ) where
  pub saved-hit : dirty_at t (a % 16) ≡ true → line_of a ≡ t.line → written_back_at t cache v a x ≡ get_or cache (16 * v + a % 16) 0
  unfolding written_back_at
  saved-hit d e = rw (d, eq-eqb _ _ e)

  saved-clean : dirty_at t (a % 16) ≡ false → written_back_at t cache v a x ≡ x
  unfolding written_back_at
  saved-clean d = rw d

  -- a byte of another line, or a clean one
  pub saved-else : (dirty_at t (a % 16) ≡ true → line_of a ≡ t.line → ⊥) → written_back_at t cache v a x ≡ x
  unfolding written_back_at
  saved-else o =
      either (λ r. r ≡ x) (dirty_at t (a % 16) && eqb (line_of a) t.line)
      (λ e. absurd (o (and_left _ _ e) (eqb-true _ _ (and_right (dirty_at t (a % 16)) _ e)))) (λ e. refl)

module _ (b : Hierarchy) (fit : Fits b) (g : Good b) (v : ℕ) (v-in : v < slots b) where
  pub save-lines : SameLines b.tags (write_back_slot v b).tags
  unfolding write_back_slot
  save-lines = set_lines b fit g v v-in (cleaned (tag_at b.tags v)) refl refl

  pub save-good : Good (write_back_slot v b)
  unfolding write_back_slot line_of
  save-good =
      let t = cleaned (tag_at b.tags v) in
      let at = at_set b.tags v t (in-table b fit g v v-in t) in
      record {
        table = length-set b.tags v t ∙ g.table;
        unused = set-unused b fit g v v-in t;
        recency = set-recency b _ _ g.recency v t (in-table b fit g v v-in t) refl;
        lines = lines_same b _ b.cache _ save-lines g.lines;
        clean = λ k i.
            at
            (λ k u. u.valid ≡ true → dirty_at u i ≡ false → i < 16 → get_or b.cache (16 * k + i) 0 ≡ get_or (write_back_slot v b).memory (16 * u.line + i) 0)
            (λ e f l. cases (dirty_at (tag_at b.tags v) i) (written i e l) (unwritten i e l))
            (λ k d e f l. g.clean k i e f l ∙ sym (untouched k i d e l)) k;
        empty = at (λ k u. u.valid ≡ false → (is_dirty u ≡ false) × (u.line ≡ 0)) (λ e. (cleaned-clean (tag_at b.tags v), (g.empty v e).1)) (λ k d. g.empty k);
        zeroed = λ k i h. at (λ k u. k < slots b → u.valid ≡ false → i < 16 → get_or b.cache (16 * k + i) 0 ≡ 0) (g.zeroed v i) (λ k d. g.zeroed k i) k h;
        none-dirty = λ h. at (λ k u. is_dirty u ≡ false) (cleaned-clean (tag_at b.tags v)) (λ k d. g.none-dirty h k);
        four-marks = at (λ k u. u.dirty ≤ 15) (clean-few t (cleaned-clean (tag_at b.tags v))) (λ k d. g.four-marks k);
      }
    where
      -- the byte's place in memory is that of the line's byte i
      byte-is : (i : ℕ) {d : Bool} → i < 16 → dirty_at (tag_at b.tags v) i ≡ d → dirty_at (tag_at b.tags v) ((16 * (tag_at b.tags v).line + i) % 16) ≡ d
      byte-is i l e = let m : (16 * (tag_at b.tags v).line + i) % 16 ≡ i = omega arith in ap (dirty_at (tag_at b.tags v)) m ∙ e

      unwritten :
          (i : ℕ) → (tag_at b.tags v).valid ≡ true → i < 16 → dirty_at (tag_at b.tags v) i ≡ false
          → get_or b.cache (16 * v + i) 0 ≡ get_or (write_back_slot v b).memory (16 * (tag_at b.tags v).line + i) 0
      unwritten i e l d = g.clean v i e d l ∙ sym (each_same _ b.memory 0 _ (λ x. saved-clean _ _ v _ x (byte-is i l d)))

      written :
          (i : ℕ) → (tag_at b.tags v).valid ≡ true → i < 16 → dirty_at (tag_at b.tags v) i ≡ true
          → get_or b.cache (16 * v + i) 0 ≡ get_or (write_back_slot v b).memory (16 * (tag_at b.tags v).line + i) 0
      written i e l d =
          let m : (16 * (tag_at b.tags v).line + i) % 16 ≡ i = omega arith in
          sym (each_at _ b.memory 0 _ (omega (arith, g.lines.inside v e, fit.by_lines, fit.memory-long))
          ∙ (saved-hit _ _ v _ _ (byte-is i l d) (omega arith) ∙ ap (λ (i : ℕ). get_or b.cache (16 * v + i) 0) m))

      untouched :
          (k i : ℕ) → (k ≡ v → ⊥) → (tag_at b.tags k).valid ≡ true → i < 16
          → get_or (write_back_slot v b).memory (16 * (tag_at b.tags k).line + i) 0 ≡ get_or b.memory (16 * (tag_at b.tags k).line + i) 0
      untouched k i d e l =
          each_same _ b.memory 0 _ (λ x. saved-else _ _ v _ x (λ p q. d (g.lines.once k v e (byte-valid b g v _ p) (omega arith))))

-- ---- a line comes from memory

module _ (memory : List ℕ) (v l j x : ℕ) where
  copied-hit : j / 16 ≡ v → copied_at memory v l j x ≡ get_or memory (16 * l + j % 16) 0
  unfolding copied_at
  copied-hit e = rw (eq-eqb _ _ e)

  copied-else : (j / 16 ≡ v → ⊥) → copied_at memory v l j x ≡ x
  unfolding copied_at
  copied-else e = rw (ne_eqb _ _ e)

-- the record and the bytes of the slot
module _ (b : Hierarchy) (fit : Fits b) (v l : ℕ) (v-in : v < slots b) where
  pub install-tag : Good b → ((tag_at (install v l b).tags v).valid ≡ true) × ((tag_at (install v l b).tags v).line ≡ l)
  unfolding install
  install-tag g =
      let e = get_or-set_same b.tags v _ no_tag (omega (arith, fit.room, g.table)) in
      (ap (λ (t : Tag). t.valid) e, ap (λ (t : Tag). t.line) e)

  pub install-here : (i : ℕ) → i < 16 → get_or (install v l b).cache (16 * v + i) 0 ≡ get_or b.memory (16 * l + i) 0
  unfolding install
  install-here i h =
      let m : (16 * v + i) % 16 ≡ i = omega arith in
      each_at _ b.cache 0 (16 * v + i) (omega (arith, fit.cache-long))
      ∙ (copied-hit _ v l _ _ (omega arith) ∙ ap (λ (i : ℕ). get_or b.memory (16 * l + i) 0) m)

-- the record and the bytes of another slot
module _ (b : Hierarchy) (v l k : ℕ) (d : k ≡ v → ⊥) where
  pub install-other-tag : tag_at (install v l b).tags k ≡ tag_at b.tags k
  unfolding install
  install-other-tag = get_or-set_other b.tags v k _ no_tag d

  pub install-other : (i : ℕ) → i < 16 → get_or (install v l b).cache (16 * k + i) 0 ≡ get_or b.cache (16 * k + i) 0
  unfolding install
  install-other i h =
      each_same _ b.cache 0 (16 * k + i) (λ x. copied-else _ v l (16 * k + i) x (λ q. d (omega arith)))

module _ (b : Hierarchy) (fit : Fits b) (g : Good b) (v l : ℕ) (v-in : v < slots b) (low : first_slot b l ≤ v)
    (high : v < first_slot b l + b.figures.ways) (inside : 16 * l < b.size)
    (absent : (k : ℕ) → (tag_at b.tags k).valid ≡ true → (tag_at b.tags k).line ≡ l → ⊥) where
  pub install-good : Good (install v l b)
  unfolding install
  install-good =
      let t : Tag = record { valid = true; dirty = 0; line = l; age = (tag_at b.tags v).age } in
      let at = at_set b.tags v t (in-table b fit g v v-in t) in
      record {
        table = length-set b.tags v t ∙ g.table;
        unused = set-unused b fit g v v-in t;
        recency = set-recency b _ _ g.recency v t (in-table b fit g v v-in t) refl;
        lines = record {
          inside = at (λ k u. u.valid ≡ true → 16 * u.line < b.size) (λ e. inside) (λ k d. g.lines.inside k);
          own = at (λ k u. u.valid ≡ true → (first_slot b u.line ≤ k) × (k < first_slot b u.line + b.figures.ways)) (λ e. (low, high)) (λ k d. g.lines.own k);
          once = λ j k.
              at (λ j u. u.valid ≡ true → (tag_at (set b.tags v t) k).valid ≡ true → u.line ≡ (tag_at (set b.tags v t) k).line → j ≡ k)
              (λ e. at (λ k w. w.valid ≡ true → l ≡ w.line → v ≡ k) (λ f q. refl) (λ k d f q. absurd (absent k f (sym q))) k)
              (λ j c e. at (λ k w. w.valid ≡ true → (tag_at b.tags j).line ≡ w.line → j ≡ k) (λ f q. absurd (absent j e q)) (λ k d f q. g.lines.once j k e f q) k)
              j;
        };
        clean = λ k i.
            at
            (λ k u. u.valid ≡ true → dirty_at u i ≡ false → i < 16 → get_or (install v l b).cache (16 * k + i) 0 ≡ get_or b.memory (16 * u.line + i) 0)
            (λ e f h. install-here b fit v l v-in i h)
            (λ k d e f h. install-other b v l k d i h ∙ g.clean k i e f h) k;
        empty = at (λ k u. u.valid ≡ false → (is_dirty u ≡ false) × (u.line ≡ 0)) (λ e. wrong refl e) (λ k d. g.empty k);
        zeroed = λ k i h.
            at (λ k u. k < slots b → u.valid ≡ false → i < 16 → get_or (install v l b).cache (16 * k + i) 0 ≡ 0)
            (λ h e. wrong refl e) (λ k d h e m. install-other b v l k d i m ∙ g.zeroed k i h e m) k h;
        none-dirty = λ h. at (λ k u. is_dirty u ≡ false) refl (λ k d. g.none-dirty h k);
        four-marks = at (λ k u. u.dirty ≤ 15) (omega arith) (λ k d. g.four-marks k);
      }

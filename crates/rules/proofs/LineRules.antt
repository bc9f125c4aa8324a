-- What the rules do to the lines (use, write a store, write back, fill) keeps them well formed, and which lines are present afterwards.
use mathlib.Core.Path.{◌≡◌, refl, sym, ap, ◌∙◌}
use mathlib.Core.Bool.{true, false}
use Prim.Native.Nat.{ℕ, ◌+◌, ◌*◌, ◌%◌, ◌<◌, ◌≤◌}
use native.Mathlib.Nat.{mod-lt}
use native.Mathlib.Omega.{arith}
use native.Mathlib.Decide.{ℕ_discrete}
use lib.ListN.{length}
use Rattle.lists.proofs.Cond.{either, wrong}
use Rattle.lists.proofs.Counting.{steps-keep, each-length}
use Rattle.rules.specs.declared.Tag.{Tag}
use Rattle.rules.specs.declared.StoreEntry.{StoreEntry}
use Rattle.rules.specs.Shape.{Hierarchy, holding, tag_at, slots, set_of, first_slot, line_of, fits}
use Rattle.rules.specs.Lines.{slot_of, present, use_slot, use_line, stored_memory, put_store, write_store, write_back_slot, write_back_all, victim, install, fill_line}
use Rattle.rules.proofs.Records.{set_room}
use Rattle.rules.proofs.Recency.{use-lines, victim-range}
use Rattle.rules.proofs.LineFacts.{Fits, Good, fits-tells, present-tells, look, absent-tells}
use Rattle.rules.proofs.LineSteps.{same_lines, word-in-line, present-same, memory-good, use-good, put-lines, put-good, save-lines, save-good, install-tag, install-other-tag, install-good}

-- ---- what stays

-- the same figures and the same lengths
pub record Shaped (old new : Hierarchy) : Type 0 where
  pub figures : new.figures ≡ old.figures
  pub size : new.size ≡ old.size
  pub memory : length new.memory ≡ length old.memory
  pub cache : length new.cache ≡ length old.cache

pub shaped-then : (a b c : Hierarchy) → Shaped a b → Shaped b c → Shaped a c
shaped-then a b c p q =
    record {
      figures = q.figures ∙ p.figures;
      size = q.size ∙ p.size;
      memory = q.memory ∙ p.memory;
      cache = q.cache ∙ p.cache;
    }

pub shaped-fits : (old new : Hierarchy) → Shaped old new → fits new ≡ fits old
unfolding fits
shaped-fits old new h = rw (h.figures, h.size, h.memory, h.cache)

pub shaped-slots : (old new : Hierarchy) → Shaped old new → slots new ≡ slots old
shaped-slots old new h = rw h.figures

-- the lines are still well formed, and the same lines are present
pub record LinesKept (old new : Hierarchy) : Type 0 where
  pub shaped : Shaped old new
  pub good : Good new
  pub lines : (l : ℕ) → present new l ≡ present old l

pub kept_refl : (b : Hierarchy) → Good b → LinesKept b b
kept_refl b g =
    record {
      shaped = record { figures = refl; size = refl; memory = refl; cache = refl };
      good = g;
      lines = λ l. refl;
    }

pub kept_then : (a b c : Hierarchy) → LinesKept a b → LinesKept b c → LinesKept a c
kept_then a b c p q =
    record {
      shaped = shaped-then a b c p.shaped q.shaped;
      good = q.good;
      lines = λ l. q.lines l ∙ p.lines l;
    }

pub kept-fits : (a b : Hierarchy) → fits a ≡ true → LinesKept a b → fits b ≡ true
kept-fits a b e k = shaped-fits a b k.shaped ∙ e

-- ---- use

set-in : (b : Hierarchy) → Fits b → (l : ℕ) → set_of b l < b.figures.sets
set-in b fit l = mod-lt l fit.some-set

use_kept :
    (b : Hierarchy) → Fits b → Good b → (l v : ℕ) → first_slot b l ≤ v → v < first_slot b l + b.figures.ways
    → LinesKept b (use_slot (set_of b l) v b)
unfolding use_slot
use_kept b fit g l v p q =
    record {
      shaped = record { figures = refl; size = refl; memory = refl; cache = refl };
      good = use-good b fit g (set_of b l) v (set-in b fit l) p q;
      lines = present-same b _ b.cache b.memory (use-lines (set_of b l) v b);
    }

pub use-line : (l : ℕ) (b : Hierarchy) → fits b ≡ true → Good b → LinesKept b (use_line l b)
unfolding use_line
use-line l b e g =
    either (LinesKept b) (present b l)
    (λ p. let h = present-tells b l p in use_kept b (fits-tells b e) g l (slot_of b l) h.low h.high)
    (λ p. kept_refl b g)

-- ---- a store is written

put-kept :
    (b : Hierarchy) → Fits b → Good b → (v : ℕ) (s : StoreEntry) → (tag_at b.tags v).valid ≡ true
    → (tag_at b.tags v).line ≡ line_of s.address → s.address % 4 + s.width ≤ 4 → LinesKept b (put_store v s b)
unfolding put_store stored_memory
put-kept b fit g v s h e w =
    record {
      shaped = record { figures = refl; size = refl; memory = each-length _ 0 b.memory; cache = each-length _ 0 b.cache };
      good = put-good b fit g v s h w e;
      lines = present-same b _ _ _ (put-lines b fit g v s h);
    }

-- where its line is absent
memory_kept :
    (b : Hierarchy) → Good b → (s : StoreEntry) → s.address % 16 + s.width ≤ 16 → present b (line_of s.address) ≡ false
    → LinesKept b (holding b b.tags b.cache (stored_memory s b))
unfolding stored_memory
memory_kept b g s w a =
    record {
      shaped = record { figures = refl; size = refl; memory = each-length _ 0 b.memory; cache = refl };
      good = memory-good b g s w a;
      lines = present-same b b.tags b.cache _ (same_lines b.tags);
    }

pub write_store_lem :
    (s : StoreEntry) (b : Hierarchy) → fits b ≡ true → Good b → s.address % 4 + s.width ≤ 4 → LinesKept b (write_store s b)
unfolding write_store put_store
write_store_lem s b e g w =
    let l = line_of s.address in
    either (LinesKept b) (present b l)
    (λ p.
    let h = present-tells b l p in
    let k = put-kept b (fits-tells b e) g (slot_of b l) s h.valid h.line w in
    kept_then b _ _ k (use_kept _ (fits-tells _ (kept-fits b _ e k)) k.good l (slot_of b l) h.low h.high))
    (λ p. memory_kept b g s (word-in-line s.address s.width w) p)

-- ---- write back

pub save-kept : (b : Hierarchy) → Fits b → Good b → (v : ℕ) → v < slots b → LinesKept b (write_back_slot v b)
unfolding write_back_slot
save-kept b fit g v h =
    record {
      shaped = record { figures = refl; size = refl; memory = each-length _ 0 b.memory; cache = refl };
      good = save-good b fit g v h;
      lines = present-same b _ b.cache _ (save-lines b fit g v h);
    }

pub save-all : (b : Hierarchy) → fits b ≡ true → Good b → LinesKept b (write_back_all b)
unfolding write_back_all
save-all b e g =
    steps-keep (LinesKept b) write_back_slot (slots b) 0
    (λ v c p q k. kept_then b c _ k (save-kept c (fits-tells c (kept-fits b c e k)) k.good v (omega (arith, shaped-slots b c k.shaped))))
    b (kept_refl b g)

-- ---- fill

-- the victim is a slot of the line's set
pub record VictimIn (b : Hierarchy) (l : ℕ) : Type 0 where
  pub low : first_slot b l ≤ victim b l
  pub high : victim b l < first_slot b l + b.figures.ways
  pub used : victim b l < slots b

pub victim-in : (b : Hierarchy) (l : ℕ) → Fits b → VictimIn b l
victim-in b l fit =
    let h = victim-range b l fit.some-way in
    record {
      low = h.0;
      high = h.1;
      used = omega (arith, h.1, set_room (set_of b l) b.figures.sets b.figures.ways (set-in b fit l));
    }

-- after the fill: the line is present, no other line came, and at most one is lost
pub record Filled (l : ℕ) (old new : Hierarchy) : Type 0 where
  pub shaped : Shaped old new
  pub good : Good new
  pub here : present new l ≡ true
  pub no_other : (m : ℕ) → (m ≡ l → ⊥) → present new m ≡ true → present old m ≡ true
  pub one-lost :
      (m n : ℕ) → present old m ≡ true → present new m ≡ false → present old n ≡ true → present new n ≡ false → m ≡ n

module _ (b : Hierarchy) (fit : Fits b) (g : Good b) (v l : ℕ) (v-in : v < slots b) (low : first_slot b l ≤ v)
    (high : v < first_slot b l + b.figures.ways) (inside : 16 * l < b.size)
    (absent : (k : ℕ) → (tag_at b.tags k).valid ≡ true → (tag_at b.tags k).line ≡ l → ⊥) where
  new-good : Good (install v l b)
  new-good = install-good b fit g v l v-in low high inside absent

  here-tag : ((tag_at (install v l b).tags v).valid ≡ true) × ((tag_at (install v l b).tags v).line ≡ l)
  here-tag = install-tag b fit v l v-in g

  -- a line that is lost stood in the slot
  lost : (m : ℕ) → present b m ≡ true → present (install v l b) m ≡ false → slot_of b m ≡ v
  lost m p n =
      let h = present-tells b m p in
      elim (ℕ_discrete (slot_of b m) v) [
        | yes e ↦ e
        | no d ↦
            let e = install-other-tag b v l (slot_of b m) d in
            wrong (look (install v l b) new-good.lines (slot_of b m) m (ap (λ (t : Tag). t.valid) e ∙ h.valid) (ap (λ (t : Tag). t.line) e ∙ h.line)).0 n
      ]

  no_other : (m : ℕ) → (m ≡ l → ⊥) → present (install v l b) m ≡ true → present b m ≡ true
  no_other m d p =
      let h = present-tells (install v l b) m p in
      let k = slot_of (install v l b) m in
      elim (ℕ_discrete k v) [
        | yes e ↦ absurd (d (sym h.line ∙ (ap (λ (k : ℕ). (tag_at (install v l b).tags k).line) e ∙ here-tag.1)))
        | no n ↦
            let e = install-other-tag b v l k n in
            (look b g.lines k m (ap (λ (t : Tag). t.valid) (sym e) ∙ h.valid) (ap (λ (t : Tag). t.line) (sym e) ∙ h.line)).0
      ]

  installed : Filled l b (install v l b)
  unfolding install
  installed =
      record {
        shaped = record { figures = refl; size = refl; memory = refl; cache = each-length _ 0 b.cache };
        good = new-good;
        here = (look (install v l b) new-good.lines v l here-tag.0 here-tag.1).0;
        no_other = no_other;
        one-lost = λ m n p q r s.
            let h = present-tells b m p in
            let i = present-tells b n r in
            sym h.line ∙ (ap (λ (k : ℕ). (tag_at b.tags k).line) (lost m p q ∙ sym (lost n r s)) ∙ i.line);
      }

filled-after : (l : ℕ) (a b c d : Hierarchy) → LinesKept a b → Filled l b c → LinesKept c d → Filled l a d
filled-after l a b c d p f q =
    record {
      shaped = shaped-then a b d p.shaped (shaped-then b c d f.shaped q.shaped);
      good = q.good;
      here = q.lines l ∙ f.here;
      no_other = λ m e h. sym (p.lines m) ∙ f.no_other m e (sym (q.lines m) ∙ h);
      one-lost = λ m n e h i j.
          f.one-lost m n (p.lines m ∙ e) (sym (q.lines m) ∙ h) (p.lines n ∙ i) (sym (q.lines n) ∙ j);
    }

pub fill-line :
    (l : ℕ) (b : Hierarchy) → fits b ≡ true → Good b → present b l ≡ false → 16 * l < b.size → Filled l b (fill_line l b)
unfolding fill_line write_back_slot install
fill-line l b e g a i =
    let fit = fits-tells b e in
    let v = victim b l in
    let h = victim-in b l fit in
    let k = save-kept b fit g v h.used in
    let fit₁ = fits-tells (write_back_slot v b) (kept-fits b _ e k) in
    let f = installed (write_back_slot v b) fit₁ k.good v l h.used h.low h.high i (absent-tells (write_back_slot v b) k.good.lines l (k.lines l ∙ a)) in
    let fit₂ = fits-tells (install v l (write_back_slot v b)) (shaped-fits _ _ f.shaped ∙ kept-fits b _ e k) in
    filled-after l b (write_back_slot v b) (install v l (write_back_slot v b)) _ k f (use_kept (install v l (write_back_slot v b)) fit₂ f.good l v h.low h.high)

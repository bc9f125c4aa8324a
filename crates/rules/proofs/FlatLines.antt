-- The laws of flat memory: what use, a store, a fill, a write back and a start do to each byte of it.
use mathlib.Core.Path.{◌≡◌, refl, sym, ap, subst, ◌∙◌}
use mathlib.Core.Bool.{true, false, cond, ◌||◌}
use mathlib.Core.List.{List}
use mathlib.Core.Option.{some, none}
use Prim.Native.Nat.{ℕ, zero, suc, ◌+◌, ◌*◌, ◌%◌, ◌<◌, ◌≤◌}
use native.Mathlib.Omega.{arith}
use native.Mathlib.Decide.{ℕ_discrete}
use lib.ListN.{length, get_or}
use lib.Seq.{get_or-set_same, get_or-set_other}
use Rattle.lists.specs.Counted.{steps_from}
use Rattle.lists.specs.Bytes.{among, overlaid}
use Rattle.lists.proofs.Cond.{either, cases, or-then, wrong}
use Rattle.lists.proofs.Counting.{steps-keep, each-length, each_at, each_same}
use Rattle.rules.specs.declared.Figures.{Figures}
use Rattle.rules.specs.declared.Tag.{Tag}
use Rattle.rules.specs.declared.StoreEntry.{StoreEntry}
use Rattle.rules.specs.Shape.{Hierarchy, holding, no_tag, tag_at, slots, set_of, first_slot, line_of, writes_through, fits}
use Rattle.rules.specs.Lines.{slot_of, present, place_of, cached_byte, use_slot, use_line, dirty_at, is_dirty, cleaned, written_through_at, stored_memory, put_store, write_store, written_back_at, write_back_slot, write_back_all, victim, install, fill_line}
use Rattle.rules.specs.Forward.{store_byte}
use Rattle.rules.specs.WellFormed.{lines_formed}
use Rattle.rules.specs.Runs.{started}
use Rattle.rules.specs.Flat.{flat_byte}
use Rattle.rules.proofs.Records.{SameLines}
use Rattle.rules.proofs.Dirty.{clean-byte, cleaned-clean}
use Rattle.rules.proofs.Recency.{use-lines, start-invalid}
use Rattle.rules.proofs.LineFacts.{Fits, Lines, Good, At, fits-tells, present-tells, look, absent-tells, used-slot, byte-valid, good-tells}
use Rattle.rules.proofs.LineSteps.{same_lines, word-in-line, among-tells, overlaid-moved, through-is, through-out, slot_same, present-same, put-lines, put_other, put-good, saved-else, save-lines, install-tag, install-here, install-other-tag, install-other, install-good}
use Rattle.rules.proofs.LineRules.{LinesKept, kept_refl, kept_then, kept-fits, shaped-slots, save-kept, victim-in}

-- ---- reading flat memory

-- the byte of a valid line
pub flat-here :
    (b : Hierarchy) → Lines b → (k a : ℕ) → (tag_at b.tags k).valid ≡ true → (tag_at b.tags k).line ≡ line_of a
    → flat_byte b a ≡ get_or b.cache (16 * k + a % 16) 0
unfolding flat_byte place_of
flat-here b g k a v e = let p = look b g k (line_of a) v e in rw (p.0, p.1)

-- the byte of an absent line
flat-gone : (b : Hierarchy) (a : ℕ) → present b (line_of a) ≡ false → flat_byte b a ≡ get_or b.memory a 0
unfolding flat_byte
flat-gone b a e = rw e

flat-none :
    (b : Hierarchy) (a : ℕ) → ((k : ℕ) → (tag_at b.tags k).valid ≡ true → (tag_at b.tags k).line ≡ line_of a → ⊥)
    → flat_byte b a ≡ get_or b.memory a 0
flat-none b a h =
    cases (present b (line_of a))
    (λ e. let p = present-tells b (line_of a) e in absurd (h (slot_of b (line_of a)) p.valid p.line))
    (flat-gone b a)

-- a clean byte of a valid line
flat-clean :
    (b : Hierarchy) → Good b → (k a : ℕ) → (tag_at b.tags k).valid ≡ true → (tag_at b.tags k).line ≡ line_of a
    → dirty_at (tag_at b.tags k) (a % 16) ≡ false → flat_byte b a ≡ get_or b.memory a 0
unfolding line_of
flat-clean b g k a v e d =
    let place : 16 * (tag_at b.tags k).line + a % 16 ≡ a = omega arith in
    flat-here b g.lines k a v e
    ∙ (g.clean k (a % 16) v d (omega arith) ∙ ap (λ (n : ℕ). get_or b.memory n 0) place)

-- records with the same lines
flat-lines :
    (b : Hierarchy) (tags : List Tag) → SameLines b.tags tags → (a : ℕ)
    → flat_byte (holding b tags b.cache b.memory) a ≡ flat_byte b a
unfolding flat_byte place_of
flat-lines b tags h a =
    rw (present-same b tags b.cache b.memory h (line_of a), slot_same b tags b.cache b.memory h (line_of a))

-- the cached byte is the byte of flat memory, if the line is present
pub cached : (b : Hierarchy) (a : ℕ) → cached_byte b a ≡ cond (present b (line_of a)) (some (flat_byte b a)) none
unfolding cached_byte flat_byte
cached b a = cases (present b (line_of a)) (λ e. rw e) (λ e. rw e)

pub fits-memory : (b : Hierarchy) → fits b ≡ true → length b.memory ≡ b.size
fits-memory b f = (fits-tells b f).memory-long

-- ---- use

slot-flat : (s v : ℕ) (b : Hierarchy) (a : ℕ) → flat_byte (use_slot s v b) a ≡ flat_byte b a
unfolding use_slot
slot-flat s v b a = flat-lines b (use_slot s v b).tags (use-lines s v b) a

-- no byte changes
pub use-flat : (l : ℕ) (b : Hierarchy) (a : ℕ) → flat_byte (use_line l b) a ≡ flat_byte b a
unfolding use_line
use-flat l b a =
    either (λ (c : Hierarchy). flat_byte c a ≡ flat_byte b a) (present b l)
    (λ e. slot-flat (set_of b l) (slot_of b l) b a) (λ e. refl)

-- ---- a store is written

-- no byte of the store stands in another line
module _ (s : StoreEntry) (in-line : s.address % 16 + s.width ≤ 16) (a : ℕ) (d : line_of a ≡ line_of s.address → ⊥) where
  other_byte : s.address ≤ a → a < s.address + s.width → ⊥
  unfolding line_of
  other_byte p q = d (omega arith)

  not-among : among s.address s.width a ≡ false
  not-among =
      cases (among s.address s.width a)
      (λ e. let h = among-tells s.address s.width a e in absurd (other_byte h.0 h.1))
      (λ e. e)

-- its line is present
module _ (s : StoreEntry) (b : Hierarchy) (fit : Fits b) (g : Good b) (here : present b (line_of s.address) ≡ true)
    (in-word : s.address % 4 + s.width ≤ 4) (a : ℕ) where
  in-line : s.address % 16 + s.width ≤ 16
  in-line = word-in-line s.address s.width in-word

  abbrev v : ℕ
  v = slot_of b (line_of s.address)

  abbrev put : Hierarchy
  put = put_store v s b

  at : At b (line_of s.address)
  at = present-tells b (line_of s.address) here

  put_same : SameLines b.tags put.tags
  put_same = put-lines b fit g v s at.valid

  put-fine : Good put
  put-fine = put-good b fit g v s at.valid in-word at.line

  -- a byte of the store's line
  put-hit : line_of a ≡ line_of s.address → flat_byte put a ≡ overlaid s.address s.width s.value a (flat_byte b a)
  unfolding put_store line_of
  put-hit e =
      flat-here put put-fine.lines v a (put_same.valid v ∙ at.valid) (put_same.line v ∙ (at.line ∙ sym e))
      ∙ (each_at (overlaid (16 * v + s.address % 16) s.width s.value) b.cache 0 (16 * v + a % 16) (omega (arith, used-slot b g v at.valid, fit.cache-long))
      ∙ (overlaid-moved (16 * v + s.address % 16) (16 * v + a % 16) s.address a s.width s.value _ (omega arith)
      ∙ ap (overlaid s.address s.width s.value a) (sym (flat-here b g.lines v a at.valid (at.line ∙ sym e)))))

  -- a byte of another line
  put-miss : (line_of a ≡ line_of s.address → ⊥) → flat_byte put a ≡ flat_byte b a
  unfolding put_store stored_memory
  put-miss d =
      cases (present b (line_of a))
      (λ e.
      let p = present-tells b (line_of a) e in
      let k = slot_of b (line_of a) in
      flat-here put put-fine.lines k a (put_same.valid k ∙ p.valid) (put_same.line k ∙ p.line)
      ∙ (put_other b v s in-line k (a % 16) (λ z. d (sym p.line ∙ (ap (λ (j : ℕ). (tag_at b.tags j).line) z ∙ at.line))) (omega arith)
      ∙ sym (flat-here b g.lines k a p.valid p.line)))
      (λ e.
      flat-gone put a (present-same b put.tags put.cache put.memory put_same (line_of a) ∙ e)
      ∙ (each_same _ b.memory 0 a (through-out b.figures.policy s a (other_byte s in-line a d)) ∙ sym (flat-gone b a e)))

  hit-flat :
      flat_byte (use_slot (set_of b (line_of s.address)) v put) a
      ≡ cond (among s.address s.width a) (store_byte s a) (flat_byte b a)
  unfolding overlaid
  hit-flat =
      slot-flat (set_of b (line_of s.address)) v put a
      ∙ elim (ℕ_discrete (line_of a) (line_of s.address)) [
        | yes e ↦ put-hit e
        | no d ↦ rw (not-among s in-line a d) (put-miss d)
      ]

-- its line is absent, and it is written through
module _ (s : StoreEntry) (b : Hierarchy) (through : writes_through b ≡ true) (absent : present b (line_of s.address) ≡ false)
    (in-line : s.address % 16 + s.width ≤ 16) (a : ℕ) (near : a < length b.memory) where
  abbrev left : Hierarchy
  left = holding b b.tags b.cache (stored_memory s b)

  same-there : present left (line_of a) ≡ present b (line_of a)
  same-there = present-same b b.tags b.cache (stored_memory s b) (same_lines b.tags) (line_of a)

  miss-flat : flat_byte left a ≡ cond (among s.address s.width a) (store_byte s a) (flat_byte b a)
  unfolding stored_memory overlaid
  miss-flat =
      cases (present b (line_of a))
      (λ e.
      rw (not-among s in-line a (λ z. wrong e (ap (present b) z ∙ absent)))
      (unfold flat_byte place_of in (rw (same-there, slot_same b b.tags b.cache (stored_memory s b) (same_lines b.tags) (line_of a), e))))
      (λ e.
      flat-gone left a (same-there ∙ e)
      ∙ (each_at (written_through_at b.figures.policy s) b.memory 0 a near
      ∙ (through-is b.figures.policy s a _ through
      ∙ ap (overlaid s.address s.width s.value a) (sym (flat-gone b a e)))))

-- a store is written, to its present line or through: exactly its bytes change
pub write-flat :
    (s : StoreEntry) (b : Hierarchy) → fits b ≡ true → lines_formed b ≡ true → (writes_through b || present b (line_of s.address)) ≡ true
    → s.address % 4 + s.width ≤ 4 → (a : ℕ) → a < length b.memory
    → flat_byte (write_store s b) a ≡ cond (among s.address s.width a) (store_byte s a) (flat_byte b a)
unfolding write_store
write-flat s b f g h w a near =
    either (λ (c : Hierarchy). flat_byte c a ≡ cond (among s.address s.width a) (store_byte s a) (flat_byte b a)) (present b (line_of s.address))
    (λ p. hit-flat s b (fits-tells b f) (good-tells b g) p w a)
    (λ p. miss-flat s b (cases (writes_through b) (λ t. t) (λ t. wrong (or-then (writes_through b) _ h t) p)) p (word-in-line s.address s.width w) a near)

pub write-length : (s : StoreEntry) (b : Hierarchy) → length (write_store s b).memory ≡ length b.memory
unfolding write_store use_slot put_store stored_memory
write-length s b =
    either (λ (c : Hierarchy). length c.memory ≡ length b.memory) (present b (line_of s.address))
    (λ e. each-length _ 0 b.memory) (λ e. each-length _ 0 b.memory)

-- ---- write back

module _ (b : Hierarchy) (fit : Fits b) (g : Good b) (v : ℕ) (v-in : v < slots b) where
  save-flat : (a : ℕ) → flat_byte (write_back_slot v b) a ≡ flat_byte b a
  unfolding write_back_slot flat_byte place_of
  save-flat a =
      let same = save-lines b fit g v v-in in
      let p = present-same b (write_back_slot v b).tags b.cache (write_back_slot v b).memory same (line_of a) in
      let s = slot_same b (write_back_slot v b).tags b.cache (write_back_slot v b).memory same (line_of a) in
      cases (present b (line_of a)) (λ e. rw (p, s, e)) (λ e. rw (p, s, e) (each_same _ b.memory 0 a (unsaved e)))
    where
      -- memory under an absent line is not written
      unsaved : present b (line_of a) ≡ false → (x : ℕ) → written_back_at (tag_at b.tags v) b.cache v a x ≡ x
      unsaved e x = saved-else _ _ v a x (λ d q. absent-tells b g.lines (line_of a) e v (byte-valid b g v (a % 16) d) (sym q))

  save-clean : is_dirty (tag_at (write_back_slot v b).tags v) ≡ false
  unfolding write_back_slot
  save-clean =
      ap is_dirty (get_or-set_same b.tags v (cleaned (tag_at b.tags v)) no_tag (omega (arith, fit.room, g.table)))
      ∙ cleaned-clean (tag_at b.tags v)

  save-other : (k : ℕ) → (k ≡ v → ⊥) → tag_at (write_back_slot v b).tags k ≡ tag_at b.tags k
  unfolding write_back_slot
  save-other k d = get_or-set_other b.tags v k (cleaned (tag_at b.tags v)) no_tag d

-- a fact of the steps so far
steps-run :
    {A : Type 0} (P : ℕ → A → Type 0) (f : ℕ → A → A) (n i : ℕ)
    → ((j : ℕ) (a : A) → i ≤ j → j < i + n → P j a → P (suc j) (f j a)) → (a : A) → P i a → P (i + n) (steps_from f i n a)
unfolding steps_from
steps-run P f zero i h a x = let e : i + 0 ≡ i = omega arith in rw e x
steps-run P f (suc n) i h a x =
    let e : i + suc n ≡ suc i + n = omega arith in
    rw e (steps-run P f n (suc i) (λ j c p q y. h j c (omega arith) (omega arith) y) (f i a) (h i a (omega arith) (omega arith) x))

-- c is b with the dirty words of the first j slots written to memory
record Backed (b : Hierarchy) (j : ℕ) (c : Hierarchy) : Type 0 where
  kept : LinesKept b c
  same-flat : (a : ℕ) → flat_byte c a ≡ flat_byte b a
  washed : (k : ℕ) → k < j → is_dirty (tag_at c.tags k) ≡ false

module _ (b : Hierarchy) (f : fits b ≡ true) (g : Good b) where
  backed-step : (j : ℕ) (c : Hierarchy) → j < slots b → Backed b j c → Backed b (suc j) (write_back_slot j c)
  backed-step j c lt k =
      let fit = fits-tells c (kept-fits b c f k.kept) in
      let good = k.kept.good in
      let j-in : j < slots c = omega (arith, shaped-slots b c k.kept.shaped) in
      record {
        kept = kept_then b c _ k.kept (save-kept c fit good j j-in);
        same-flat = λ a. save-flat c fit good j j-in a ∙ k.same-flat a;
        washed = λ i h.
            elim (ℕ_discrete i j) [
              | yes e ↦ subst (λ (n : ℕ). is_dirty (tag_at (write_back_slot j c).tags n) ≡ false) (sym e) (save-clean c fit good j j-in)
              | no d ↦ ap is_dirty (save-other c fit good j j-in i d) ∙ k.washed i (omega arith)
            ];
      }

  backed : Backed b (slots b) (write_back_all b)
  unfolding write_back_all
  backed =
      let e : 0 + slots b ≡ slots b = omega arith in
      rw e at (steps-run (Backed b) write_back_slot (slots b) 0 (λ j c p q k. backed-step j c (omega arith) k) b
      (record { kept = kept_refl b g; same-flat = λ a. refl; washed = λ k h. let no : ⊥ = omega arith in absurd no }))

-- where no line is dirty, memory is flat memory
washed-memory :
    (c : Hierarchy) → Good c → ((k : ℕ) → k < slots c → is_dirty (tag_at c.tags k) ≡ false) → (a : ℕ)
    → get_or c.memory a 0 ≡ flat_byte c a
washed-memory c g h a =
    cases (present c (line_of a))
    (λ e.
    let p = present-tells c (line_of a) e in
    let k = slot_of c (line_of a) in
    sym (flat-clean c g k a p.valid p.line (clean-byte _ (a % 16) (h k (used-slot c g k p.valid)))))
    (λ e. sym (flat-gone c a e))

-- every dirty word is written back: no record of a slot in use is dirty,
pub back-clean :
    (b : Hierarchy) → fits b ≡ true → lines_formed b ≡ true → (k : ℕ) → k < slots b → is_dirty (tag_at (write_back_all b).tags k) ≡ false
back-clean b f g k h = (backed b f (good-tells b g)).washed k h

-- no byte changes,
pub back-flat : (b : Hierarchy) → fits b ≡ true → lines_formed b ≡ true → (a : ℕ) → flat_byte (write_back_all b) a ≡ flat_byte b a
back-flat b f g a = (backed b f (good-tells b g)).same-flat a

-- and memory is flat memory
pub back-memory :
    (b : Hierarchy) → fits b ≡ true → lines_formed b ≡ true → (a : ℕ) → get_or (write_back_all b).memory a 0 ≡ flat_byte b a
back-memory b f g a =
    let k = backed b f (good-tells b g) in
    washed-memory (write_back_all b) k.kept.good (λ j h. k.washed j (omega (arith, shaped-slots b (write_back_all b) k.kept.shaped))) a ∙ k.same-flat a

pub back-length : (b : Hierarchy) → length (write_back_all b).memory ≡ length b.memory
unfolding write_back_all write_back_slot
back-length b =
    steps-keep (λ (c : Hierarchy). length c.memory ≡ length b.memory) write_back_slot (slots b) 0
    (λ j c p q e. each-length _ 0 c.memory ∙ e) b refl

-- ---- fill

module _ (c : Hierarchy) (fit : Fits c) (g : Good c) (v l : ℕ) (v-in : v < slots c) (low : first_slot c l ≤ v)
    (high : v < first_slot c l + c.figures.ways) (inside : 16 * l < c.size) (absent : present c l ≡ false)
    (washed : is_dirty (tag_at c.tags v) ≡ false) (a : ℕ) where
  abbrev new : Hierarchy
  new = install v l c

  gone : (k : ℕ) → (tag_at c.tags k).valid ≡ true → (tag_at c.tags k).line ≡ l → ⊥
  gone = absent-tells c g.lines l absent

  fine : Good new
  fine = install-good c fit g v l v-in low high inside gone

  tag-here : ((tag_at new.tags v).valid ≡ true) × ((tag_at new.tags v).line ≡ l)
  tag-here = install-tag c fit v l v-in g

  tag-other : (k : ℕ) → (k ≡ v → ⊥) → tag_at new.tags k ≡ tag_at c.tags k
  tag-other = install-other-tag c v l

  -- a byte of the line
  install-hit : line_of a ≡ l → flat_byte new a ≡ flat_byte c a
  unfolding line_of
  install-hit e =
      let place : 16 * l + a % 16 ≡ a = omega arith in
      flat-here new fine.lines v a tag-here.0 (tag-here.1 ∙ sym e)
      ∙ (install-here c fit v l v-in (a % 16) (omega arith)
      ∙ (ap (λ (n : ℕ). get_or c.memory n 0) place ∙ sym (flat-gone c a (ap (present c) e ∙ absent))))

  -- no slot has the line of a, if no slot but v had it
  none_left :
      (line_of a ≡ l → ⊥)
      → ((k : ℕ) → (k ≡ v → ⊥) → (tag_at c.tags k).valid ≡ true → (tag_at c.tags k).line ≡ line_of a → ⊥)
      → flat_byte new a ≡ get_or c.memory a 0
  unfolding install
  none_left d h =
      flat-none new a (λ k p q.
      elim (ℕ_discrete k v) [
        | yes e ↦ d (sym q ∙ (ap (λ (n : ℕ). (tag_at new.tags n).line) e ∙ tag-here.1))
        | no n ↦ h k n (ap (λ (t : Tag). t.valid) (sym (tag-other k n)) ∙ p) (ap (λ (t : Tag). t.line) (sym (tag-other k n)) ∙ q)
      ])

  -- a byte of another line
  install-miss : (line_of a ≡ l → ⊥) → flat_byte new a ≡ flat_byte c a
  install-miss d =
      cases (present c (line_of a))
      (λ e.
      let p = present-tells c (line_of a) e in
      let k = slot_of c (line_of a) in
      elim (ℕ_discrete k v) [
        | yes z ↦
            none_left d (λ j n q r. n (g.lines.once j k q p.valid (r ∙ sym p.line) ∙ z))
            ∙ sym (flat-clean c g k a p.valid p.line (clean-byte _ (a % 16) (ap (λ (n : ℕ). is_dirty (tag_at c.tags n)) z ∙ washed)))
        | no n ↦
            let t = tag-other k n in
            flat-here new fine.lines k a (ap (λ (t : Tag). t.valid) t ∙ p.valid) (ap (λ (t : Tag). t.line) t ∙ p.line)
            ∙ (install-other c v l k n (a % 16) (omega arith)
            ∙ sym (flat-here c g.lines k a p.valid p.line))
      ])
      (λ e. none_left d (λ j n q r. absent-tells c g.lines (line_of a) e j q r) ∙ sym (flat-gone c a e))

  install-flat : flat_byte new a ≡ flat_byte c a
  install-flat = elim (ℕ_discrete (line_of a) l) [ yes e ↦ install-hit e | no d ↦ install-miss d ]

-- an absent line of memory is filled, its victim written back: no byte changes
pub fill-flat :
    (l : ℕ) (b : Hierarchy) → fits b ≡ true → lines_formed b ≡ true → present b l ≡ false → l * 16 < b.size
    → (a : ℕ) → flat_byte (fill_line l b) a ≡ flat_byte b a
unfolding fill_line write_back_slot
fill-flat l b f formed absent inside a =
    let fit = fits-tells b f in
    let g = good-tells b formed in
    let v = victim b l in
    let h = victim-in b l fit in
    let k = save-kept b fit g v h.used in
    let fit₁ = fits-tells (write_back_slot v b) (kept-fits b _ f k) in
    slot-flat (set_of b l) v (install v l (write_back_slot v b)) a
    ∙ (install-flat (write_back_slot v b) fit₁ k.good v l h.used h.low h.high (omega arith) (k.lines l ∙ absent) (save-clean b fit g v h.used) a
    ∙ save-flat b fit g v h.used a)

-- ---- start

-- a start has no valid line
pub start-flat : (f : Figures) (found : List ℕ) (a : ℕ) → flat_byte (started f found).hierarchy a ≡ get_or found a 0
unfolding started
start-flat f found a = flat-none (started f found).hierarchy a (λ k v e. wrong v (start-invalid f k))

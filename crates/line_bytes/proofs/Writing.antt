-- Laws for the bytes of lines and of stores: what each turn of a loop does, what the loop amounts to, and what a function leaves where
-- the places lie in the bytes.
use mathlib.Core.Path.{◌≡◌, refl, sym, ap, ◌∙◌}
use mathlib.Core.Bool.{Bool, true, false, cond, ◌&&◌}
use mathlib.Core.List.{List}
use Prim.Native.Nat.{ℕ, zero, suc, ◌+◌, ◌*◌, ◌-◌, ◌/◌, ◌%◌, ◌^◌, ◌<◌, ◌≤◌}
use native.Mathlib.Decide.{dec_lt}
use native.Mathlib.Omega.{arith}
use lib.Dec.{ltb, leb, eqb}
use lib.ListN.{length, get_or, set, take, drop, length-take, length-drop}
use lib.Seq.{get_or-take, get_or-drop, get_or-set_other, set-get_or, ext_get_or}
use Rattle.std.proofs.Common.{w32}
use Rattle.std.proofs.lemmas.List.{places}
use Rattle.std.specs.Int.{to_le_bytes}
use borrow.Rule.Slice.PartMut.{put_mid}
use Rattle.store_queue.proofs.Forwarded.{le-byte}
use borrow.Author.Tests.{ltb-true, leb-true, lt-ltb, le-leb, lt-leb, eq-eqb, ne_eqb}
use Rattle.lists.specs.Counted.{steps_from, each_from}
use Rattle.lists.specs.Bytes.{byte_of, among, overlaid}
use Rattle.lists.proofs.Cond.{either, cases, and_left, and_right, and_both, wrong}
use Rattle.lists.proofs.Counting.{each-length, each_at, each_same}
use Rattle.lists.proofs.CountedLoops.{change, changes-each, steps_on, each-id, each-ext}
use Rattle.rules.specs.declared.Tag.{Tag}
use Rattle.rules.specs.declared.StoreEntry.{StoreEntry}
use Rattle.rules.specs.declared.WritePolicy.{WritePolicy}
use Rattle.rules.specs.declared.WritePolicy.TheVariants.{WriteBack, WriteThrough}
use Rattle.rules.specs.Shape.{Hierarchy, holding, no_figures, no_tag, tag_at, with_dirty, line_of}
use Rattle.rules.specs.Lines.{is_dirty_word, dirty_at, is_dirty, written_through_at, written_back_at, write_back_slot, copied_at}
use Rattle.rules.proofs.Dirty.{clean-byte}
use Rattle.dirty_words.proofs.Marks.{told-word}
use Rattle.line_bytes.specs.Writes.{line_inside, filled_at, line_filled, marked_line, line_written, lines_written, flushed_memory, DirtyInside, places_inside, store_put, stored_through}

-- ---- a part that is copied over

module _ (lo n : ℕ) (ys l : List ℕ) (h : lo + n ≤ length l) (e : length ys ≡ n) where
  part : List ℕ
  part = put_mid lo n l ys

  part-length : length part ≡ length l
  unfolding part
  part-length = grind (arith, places)

  part-below : (k : ℕ) → k < lo → get_or part k 0 ≡ get_or l k 0
  unfolding part
  part-below k p = grind (arith, places)

  part-within : (k : ℕ) → lo ≤ k → k < lo + n → get_or part k 0 ≡ get_or ys (k - lo) 0
  unfolding part
  part-within k p q = grind (arith, places)

  part-above : (k : ℕ) → lo + n ≤ k → get_or part k 0 ≡ get_or l k 0
  unfolding part
  part-above k p = grind (arith, places)

  -- is the change of each of its places
  pub part-each : (f : ℕ → ℕ → ℕ) → ((j x : ℕ) → j < n → f (lo + j) x ≡ get_or ys j 0) → ((k x : ℕ) → (lo ≤ k → k < lo + n → ⊥) → f k x ≡ x)
      → put_mid lo (lo + n - lo) l ys ≡ each_from f 0 l
  unfolding part
  part-each f within outside =
      let m : lo + n - lo ≡ n = omega arith in
      rw m (ext_get_or 0 part _ (part-length ∙ sym (each-length f 0 l)) (λ k b.
      let b' : k < length l = omega (arith, part-length) in
      elim (dec_lt k lo) [
        | yes p ↦ part-below k p ∙ sym (each_same f l 0 k (λ x. outside k x (λ a c. omega arith)))
        | no p ↦ elim (dec_lt k (lo + n)) [
          | yes q ↦
              let j : lo + (k - lo) ≡ k = omega arith in
              part-within k (omega arith) q ∙ (sym (rw j at (within (k - lo) (get_or l k 0) (omega arith))) ∙ sym (each_at f l 0 k b'))
          | no q ↦ part-above k (omega arith) ∙ sym (each_same f l 0 k (λ x. outside k x (λ a c. omega arith)))
        ]
      ]))

-- ---- a line of 16 bytes

pub fill-at : (v i : ℕ) (src : List ℕ) (x : ℕ) → i < 16 → filled_at v src (16 * v + i) x ≡ get_or src i 0
fill-at v i src x h =
    let m : (16 * v + i) % 16 ≡ i = omega arith in
    rw (eq-eqb ((16 * v + i) / 16) v (omega arith), m)

module _ (v : ℕ) (src bytes : List ℕ) where
  -- what a fill leaves
  pub filled-inside : length src ≡ 16 → 16 * v + 16 ≤ length bytes → line_filled v src bytes ≡ each_from (filled_at v src) 0 bytes
  unfolding line_filled
  filled-inside e h = rw (eq-eqb (length src) 16 e, le-leb (16 * v + 16) (length bytes) h)

  pub filled-part : length src ≡ 16 → 16 * v + 16 ≤ length bytes → put_mid (16 * v) (16 * v + 16 - 16 * v) bytes src ≡ line_filled v src bytes
  filled-part e h =
      part-each (16 * v) 16 src bytes h e (filled_at v src) (λ j x l. fill-at v j src x l)
      (λ k x o. rw (ne_eqb (k / 16) v (λ z. o (omega arith) (omega arith))))
      ∙ sym (filled-inside e h)

  pub filled-short : (length src ≡ 16 → ⊥) → bytes ≡ line_filled v src bytes
  unfolding line_filled
  filled-short d = rw (ne_eqb (length src) 16 d)

  pub filled-outside : length bytes < 16 * v + 16 → bytes ≡ line_filled v src bytes
  unfolding line_filled
  filled-outside h =
      either (λ (r : List ℕ). bytes ≡ r) (eqb (length src) 16 && line_inside v (length bytes))
      (λ e. wrong (and_right (eqb (length src) 16) _ e) (lt-leb (16 * v + 16) (length bytes) h)) (λ e. refl)

-- byte i of a line taken as a part
part-byte : (l : List ℕ) (n i : ℕ) → i < 16 → get_or (take 16 (drop (16 * n) l)) i 0 ≡ get_or l (16 * n + i) 0
part-byte l n i h = get_or-take 16 (drop (16 * n) l) i 0 h ∙ get_or-drop (16 * n) l i 0

part-long : (l : List ℕ) (n : ℕ) → 16 * n + 16 ≤ length l → length (take 16 (drop (16 * n) l)) ≡ 16
part-long l n h = omega (arith, length-take 16 (drop (16 * n) l), length-drop (16 * n) l)

-- line l of memory, filled into slot v
pub fill-copies :
    (memory : List ℕ) (v l : ℕ) (cache : List ℕ) → 16 * v + 16 ≤ length cache → 16 * l + 16 ≤ length memory
    → line_filled v (take 16 (drop (16 * l) memory)) cache ≡ each_from (copied_at memory v l) 0 cache
unfolding copied_at
fill-copies memory v l cache h k =
    filled-inside v _ cache (part-long memory l k) h
    ∙ each-ext _ (copied_at memory v l)
    (λ j x. ap (λ (y : ℕ). cond (eqb (j / 16) v) y x) (part-byte memory l (j % 16) (omega arith))) cache

-- ---- write back

module _ (t : Tag) (cache : List ℕ) (v : ℕ) where
  -- the bytes of the line, one after the other
  pub words-each :
      (memory : List ℕ) → steps_from (change (written_back_at t cache v) 0) (16 * t.line) 16 memory ≡ each_from (written_back_at t cache v) 0 memory
  unfolding written_back_at line_of
  words-each memory =
      changes-each (written_back_at t cache v) 0 (16 * t.line) 16 memory
      (λ k x o. rw (ne_eqb (k / 16) t.line (λ e. o (omega arith) (omega arith))) (cases (dirty_at t (k % 16)) (λ d. rw d) (λ d. rw d)))

  module _ (i : ℕ) (h : i < 16) (dirty : Bool) (told : dirty ≡ (ltb (i / 4) 4 && is_dirty_word t.dirty (i / 4))) where
    byte-told : dirty_at t ((16 * t.line + i) % 16) ≡ dirty
    unfolding dirty_at
    byte-told =
        let m : (16 * t.line + i) % 16 ≡ i = omega arith in
        rw m (told-word t.dirty (i / 4) (omega arith) told)

    -- byte i of the line, in a dirty word and in a clean one
    byte-written : dirty ≡ true → (x : ℕ) → written_back_at t cache v (16 * t.line + i) x ≡ get_or cache (16 * v + i) 0
    unfolding written_back_at line_of
    byte-written d x =
        let m : (16 * t.line + i) % 16 ≡ i = omega arith in
        rw (byte-told ∙ d, eq-eqb ((16 * t.line + i) / 16) t.line (omega arith), m)

    byte-kept : dirty ≡ false → (x : ℕ) → written_back_at t cache v (16 * t.line + i) x ≡ x
    unfolding written_back_at
    byte-kept d x = rw (byte-told ∙ d)

    -- a turn of the loop, from memory m to memory n
    module _ (m n : List ℕ) where
      abbrev Turn : Type 0
      Turn =
          steps_from (change (written_back_at t cache v) 0) (16 * t.line + i) (16 - i) m
          ≡ steps_from (change (written_back_at t cache v) 0) (16 * t.line + (i + 1)) (16 - (i + 1)) n

      pub turn-dirty : dirty ≡ true → n ≡ set m (16 * t.line + i) (get_or cache (16 * v + i) 0) → Turn
      turn-dirty d e = steps_on _ (16 * t.line) i 16 m h ∙ rw (e, byte-written d)

      pub turn-clean : dirty ≡ false → n ≡ m → Turn
      turn-clean d e = steps_on _ (16 * t.line) i 16 m h ∙ rw (e, byte-kept d, set-get_or m (16 * t.line + i) 0)

  -- a clean line is not written
  clean-saves : (memory : List ℕ) → is_dirty t ≡ false → memory ≡ each_from (written_back_at t cache v) 0 memory
  unfolding written_back_at
  clean-saves memory d =
      sym (each-ext (written_back_at t cache v) (λ a x. x) (λ a x. rw (clean-byte t (a % 16) d)) memory ∙ each-id memory)

module _ (t : Tag) (v : ℕ) (cache memory : List ℕ) where
  -- what a write back leaves: dirty words written, a clean line, a slot that is not in the cache, and a line that is not in memory
  pub written-words :
      16 * v + 16 ≤ length cache → 16 * t.line + 16 ≤ length memory
      → each_from (written_back_at (marked_line t.dirty t.line) cache v) 0 memory ≡ line_written t v cache memory
  unfolding line_written written_back_at dirty_at
  written-words h k = rw (le-leb (16 * v + 16) (length cache) h, le-leb (16 * t.line + 16) (length memory) k)

  pub written-clean : is_dirty t ≡ false → memory ≡ line_written t v cache memory
  unfolding line_written
  written-clean d =
      either (λ (r : List ℕ). memory ≡ r) (line_inside v (length cache) && line_inside t.line (length memory))
      (λ e. clean-saves t cache v memory d) (λ e. refl)

  pub written-outside : length cache < 16 * v + 16 → memory ≡ line_written t v cache memory
  unfolding line_written
  written-outside h = rw (lt-leb (16 * v + 16) (length cache) h)

  pub written-nowhere : length memory < 16 * t.line + 16 → memory ≡ line_written t v cache memory
  unfolding line_written
  written-nowhere h =
      rw (lt-leb (16 * t.line + 16) (length memory) h) (cases (line_inside v (length cache)) (λ e. rw e) (λ e. rw e))

  pub written-length : length (line_written t v cache memory) ≡ length memory
  unfolding line_written
  written-length =
      either (λ (r : List ℕ). length r ≡ length memory) (line_inside v (length cache) && line_inside t.line (length memory))
      (λ e. each-length _ 0 memory) (λ e. refl)

  -- where the slot lies in the cache, and the line in memory if it is dirty
  pub written-inside :
      16 * v + 16 ≤ length cache → (is_dirty t ≡ true → 16 * t.line + 16 ≤ length memory)
      → line_written t v cache memory ≡ each_from (written_back_at t cache v) 0 memory
  unfolding line_written
  written-inside h k =
      cases (is_dirty t)
      (λ d. rw (le-leb (16 * v + 16) (length cache) h, le-leb (16 * t.line + 16) (length memory) (k d)))
      (λ d. sym (written-clean d) ∙ clean-saves t cache v memory d)

-- ---- flush

-- the line of slot k is written back, by the records of a table
abbrev pub slot_written : List Tag → List ℕ → ℕ → List ℕ → List ℕ
slot_written tags cache k memory = line_written (tag_at tags k) k cache memory

pub lines-inside :
    (tags : List Tag) (n : ℕ) (cache memory : List ℕ) → n ≤ 256 → steps_from (slot_written tags cache) 0 n memory ≡ lines_written tags n cache memory
unfolding lines_written
lines-inside tags n cache memory h = rw (le-leb n 256 h)

pub lines-outside : (tags : List Tag) (n : ℕ) (cache memory : List ℕ) → 256 < n → memory ≡ lines_written tags n cache memory
unfolding lines_written
lines-outside tags n cache memory h = rw (lt-leb n 256 h)

-- the same, where the slot lies in the cache and a dirty line in memory
abbrev pub written_back : List Tag → List ℕ → ℕ → List ℕ → List ℕ
written_back tags cache k memory = each_from (written_back_at (tag_at tags k) cache k) 0 memory

module _ (tags : List Tag) (cache : List ℕ) (count size : ℕ) (h : 16 * count ≤ length cache) (d : DirtyInside tags count size) where
  slots-written :
      (n k : ℕ) (memory : List ℕ) → k + n ≤ count → length memory ≡ size
      → steps_from (slot_written tags cache) k n memory ≡ steps_from (written_back tags cache) k n memory
  unfolding steps_from
  slots-written zero k memory l e = refl
  slots-written (suc n) k memory l e =
      ap (steps_from (slot_written tags cache) (suc k) n)
      (written-inside (tag_at tags k) k cache memory (omega arith) (λ b. omega (arith, d k (omega arith) b)))
      ∙ slots-written n (suc k) (written_back tags cache k memory) (omega arith) (each-length _ 0 memory ∙ e)

abbrev pub cleaned : ℕ → Tag → Tag
cleaned k t = with_dirty 0 t

-- a flush works on the records and on memory separately, since each record is written only once
pub saves :
    (n i : ℕ) (b : Hierarchy) (tags : List Tag) → ((k : ℕ) → i ≤ k → tag_at b.tags k ≡ tag_at tags k)
    → steps_from write_back_slot i n b
    ≡ holding b (steps_from (change cleaned no_tag) i n b.tags) b.cache (steps_from (written_back tags b.cache) i n b.memory)
unfolding steps_from write_back_slot
saves zero i b tags h = refl
saves (suc n) i b tags h =
    saves n (suc i) (write_back_slot i b) tags
    (λ k l. get_or-set_other b.tags i k _ no_tag (λ e. omega arith) ∙ h k (omega arith))
    ∙ ap
    (λ (t : Tag). holding b (steps_from (change cleaned no_tag) i (suc n) b.tags) b.cache (steps_from (written_back tags b.cache) (suc i) n (each_from (written_back_at t b.cache i) 0 b.memory)))
    (h i (omega arith))

pub flushed-memory :
    (n : ℕ) (tags : List Tag) (cache memory : List ℕ)
    → steps_from (written_back tags cache) 0 n memory ≡ flushed_memory n tags cache memory
unfolding flushed_memory
flushed-memory n tags cache memory =
    sym (ap (λ (b : Hierarchy). b.memory) (saves n 0 (record { figures = no_figures; size = 0; tags = tags; cache = cache; memory = memory }) tags (λ k l. refl)))

-- where the slots lie in the cache and the dirty lines in memory, all lines written back are the rules' flush
pub lines-flushed :
    (n : ℕ) (tags : List Tag) (cache memory : List ℕ) → n ≤ 256 → 16 * n ≤ length cache → DirtyInside tags n (length memory)
    → lines_written tags n cache memory ≡ flushed_memory n tags cache memory
lines-flushed n tags cache memory h l d =
    sym (lines-inside tags n cache memory h)
    ∙ (slots-written tags cache n (length memory) l d n 0 memory (omega arith) refl ∙ flushed-memory n tags cache memory)

-- ---- the bytes of a store

module _ (p w n : ℕ) where
  pub inside-tells : places_inside p w n ≡ true → (w ≤ 4) × (p + w ≤ n)
  unfolding places_inside
  inside-tells e = (leb-true w 4 (and_left _ _ e), leb-true (p + w) n (and_right (leb w 4) _ e))

  pub is-inside : w ≤ 4 → p + w ≤ n → places_inside p w n ≡ true
  unfolding places_inside
  is-inside h k = and_both (leb w 4) (leb (p + w) n) (le-leb w 4 h) (le-leb (p + w) n k)

overlaid-out : (p w v j : ℕ) → (p ≤ j → j < p + w → ⊥) → (x : ℕ) → overlaid p w v j x ≡ x
unfolding overlaid
overlaid-out p w v j o x =
    either (λ r. r ≡ x) (among p w j)
    (λ e. absurd (o (leb-true p j (and_left _ _ e)) (ltb-true j (p + w) (and_right (leb p j) _ e)))) (λ e. refl)

module _ (p w v : ℕ) (bytes : List ℕ) where
  put-at : (i x : ℕ) → i < w → overlaid p w v (p + i) x ≡ byte_of i v
  unfolding overlaid
  put-at i x h =
      let e : p + i - p ≡ i = omega arith in
      rw (and_both (leb p (p + i)) (ltb (p + i) (p + w)) (le-leb p (p + i) (omega arith)) (lt-ltb (p + i) (p + w) (omega arith)), e)

  -- what a store leaves
  pub put-inside : w ≤ 4 → p + w ≤ length bytes → store_put p w v bytes ≡ each_from (overlaid p w v) 0 bytes
  unfolding store_put
  put-inside h k = rw (is-inside p w (length bytes) h k)

  pub put-part : (low : List ℕ) → low ≡ to_le_bytes w32 v → v < 256 ^ 4 → w ≤ 4 → p + w ≤ length bytes → put_mid p (p + w - p) bytes (take w low) ≡ store_put p w v bytes
  put-part low e f h k =
      part-each p w (take w low) bytes k (omega (arith, length-take w low, ap length e)) (overlaid p w v)
      (λ j x l. put-at j x l ∙ sym (get_or-take w low j 0 l ∙ rw e (le-byte j v f)))
      (λ j x o. overlaid-out p w v j o x)
      ∙ sym (put-inside h k)

  pub put-outside : places_inside p w (length bytes) ≡ false → bytes ≡ store_put p w v bytes
  unfolding store_put
  put-outside e = rw e

-- ---- a drained store

module _ (e : StoreEntry) (memory : List ℕ) where
  -- as the rules have it, where the store lies in memory
  pub drained-inside :
      (p : WritePolicy) → e.width ≤ 4 → e.address + e.width ≤ length memory → stored_through p e memory ≡ each_from (written_through_at p e) 0 memory
  unfolding stored_through written_through_at
  drained-inside WriteBack h k = sym (each-id memory)
  drained-inside WriteThrough h k = put-inside e.address e.width e.value memory h k

-- Lines: where a line stands, the tag lookup, use, dirty words, a store written, write back, the victim and the fill, and what a fill will do.
-- Four steps on one slot or its set (use, put a store, write back, install), and memory written past the cache, make up every change of
-- the hierarchy.
use Rattle.std.specs.Prelude.{ℕ, ◌+◌, ◌*◌, ◌-◌, ◌/◌, ◌%◌, ◌^◌, Bool, true, cond, not, ◌&&◌, List, ltb, leb, eqb, get_or, set, replicate}
use Rattle.std.proofs.Math.Option.{Option, some, none}
use Rattle.lists.specs.Padded.{total}
use Rattle.lists.specs.Counted.{first_from, greatest_from, steps_from, each_from}
use Rattle.lists.specs.Bytes.{overlaid}
use Rattle.rules.specs.declared.Tag.{Tag}
use Rattle.rules.specs.declared.StoreEntry.{StoreEntry}
use Rattle.rules.specs.declared.Request.{Request}
use Rattle.rules.specs.declared.Lookup.{Lookup}
use Rattle.rules.specs.declared.Lookup.TheVariants.{Hit, Pending, Miss}
use Rattle.rules.specs.declared.WritePolicy.{WritePolicy}
use Rattle.rules.specs.declared.WritePolicy.TheVariants.{WriteBack, WriteThrough}
use Rattle.rules.specs.Shape.{Hierarchy, holding, names, line_bytes, word_bytes, most_ways, line_of, set_of, set_start, slots, first_slot, tag_at, with_age, with_dirty, writes_through}

-- ---- where a line stands

-- a valid record that names the line
unfoldable pub holds_line : ℕ → Tag → Bool
holds_line l t = t.valid && eqb t.line l

-- the slot of the line's set that has the line; where none has it, the first slot after the set
unfoldable pub slot_of : Hierarchy → ℕ → ℕ
slot_of b l = first_from (λ k. holds_line l (tag_at b.tags k)) (first_slot b l) b.figures.ways

-- the line is present: some way of its set has it
unfoldable pub present : Hierarchy → ℕ → Bool
present b l = ltb (slot_of b l) (first_slot b l + b.figures.ways)

-- where in the cache the 16 bytes of a slot begin
abbrev pub slot_place : ℕ → ℕ
slot_place k = line_bytes * k

-- where in the cache the bytes of a present line begin, by an address in the line
unfoldable pub place_of : Hierarchy → ℕ → ℕ
place_of b a = slot_place (slot_of b (line_of a))

-- the byte at address a of the cached line, if the line is present
unfoldable pub cached_byte : Hierarchy → ℕ → Option ℕ
cached_byte b a = cond (present b (line_of a)) (some (get_or b.cache (place_of b a + a % line_bytes) 0)) none

-- ---- the tag lookup (02, card 4)

-- the way of its set that has the line, from 0 (slot s × ways + w is way w of set s); where none has it, the number of ways
unfoldable pub way_of : Hierarchy → ℕ → ℕ
way_of b l = slot_of b l - first_slot b l

-- "The tag lookup shall answer present with its way, requested, or absent.": requested is a line that is absent, and that the miss
-- register r names. (A rule that does not ask which line the register names goes by `present` and `slot_of`, of which the lookup is made.)
unfoldable pub lookup : Request → Hierarchy → ℕ → Lookup
lookup r b l = cond (present b l) (Hit (way_of b l)) (cond (names r l) Pending Miss)

-- ---- use

-- the record t of slot k, when slot v of the set of so many ways that begins at slot f is used and had age a
unfoldable pub aged_at : ℕ → ℕ → ℕ → ℕ → ℕ → Tag → Tag
aged_at f ways v a k t =
    cond (eqb k v) (with_age 0 t)
    (cond (leb f k && (ltb k (f + ways) && ltb t.age a)) (with_age (t.age + 1) t) t)

-- slot v of set s is used
unfoldable pub use_slot : ℕ → ℕ → Hierarchy → Hierarchy
use_slot s v b =
    holding b (each_from (aged_at (set_start b s) b.figures.ways v (tag_at b.tags v).age) 0 b.tags) b.cache b.memory

-- "Use gives a line age 0 and adds 1 to each smaller age in its set.": the line is used, if it is present
unfoldable pub use_line : ℕ → Hierarchy → Hierarchy
use_line l b = cond (present b l) (use_slot (set_of b l) (slot_of b l) b) b

-- ---- dirty words (02, card 2: "four dirty marks, one per aligned 4-byte word")

-- the word of its line that an address is in, 0 to 3
abbrev pub word_of : ℕ → ℕ
word_of a = a % line_bytes / word_bytes

-- mark n of the dirty marks d of a record, 0 or 1: bit n
abbrev pub mark_at : ℕ → ℕ → ℕ
mark_at d n = d / 2 ^ n % 2

-- word n is dirty: its mark is set
unfoldable pub is_dirty_word : ℕ → ℕ → Bool
is_dirty_word d n = eqb (mark_at d n) 1

-- the marks d with that of word n set
unfoldable pub with_mark : ℕ → ℕ → ℕ
with_mark n d = cond (is_dirty_word d n) d (d + 2 ^ n)

-- how many of the four marks are set
unfoldable pub mark_count : ℕ → ℕ
mark_count d = mark_at d 0 + mark_at d 1 + mark_at d 2 + mark_at d 3

-- so many words of the record's line are dirty
abbrev pub words_of : Tag → ℕ
words_of t = mark_count t.dirty

-- word n of slot k is dirty
abbrev pub dirty_word : List Tag → ℕ → ℕ → Bool
dirty_word tags k n = is_dirty_word (tag_at tags k).dirty n

-- byte i of the record's line is to be written back: its word is dirty
unfoldable pub dirty_at : Tag → ℕ → Bool
dirty_at t i = is_dirty_word t.dirty (i / word_bytes)

-- a mark of the record is set
abbrev pub is_dirty : Tag → Bool
is_dirty t = not (eqb t.dirty 0)

-- the marks after a store was written to the line, from the marks d before. 02, card 2: "Write-back draining marks the word written."
-- Write-through leaves them
abbrev pub dirty_after : WritePolicy → StoreEntry → ℕ → ℕ
dirty_after WriteBack s d = with_mark (word_of s.address) d
dirty_after WriteThrough s d = d

-- the record, when the store was written to its line
abbrev pub marked : WritePolicy → StoreEntry → Tag → Tag
marked p s t = with_dirty (dirty_after p s t.dirty) t

-- "marks it clean": the record, when its dirty words were written back
abbrev pub cleaned : Tag → Tag
cleaned t = with_dirty 0 t

-- ---- a store is written

-- byte a of memory, when the store is written: write-through "writes memory"
unfoldable pub written_through_at : WritePolicy → StoreEntry → ℕ → ℕ → ℕ
written_through_at WriteBack s a x = x
written_through_at WriteThrough s a x = overlaid s.address s.width s.value a x

-- memory, when the store is written
unfoldable pub stored_memory : StoreEntry → Hierarchy → List ℕ
stored_memory s b = each_from (written_through_at b.figures.policy s) 0 b.memory

-- the store's bytes go into slot v, with write-through into memory too; with write-back their word is now dirty
unfoldable pub put_store : ℕ → StoreEntry → Hierarchy → Hierarchy
put_store v s b =
    holding b (set b.tags v (marked b.figures.policy s (tag_at b.tags v)))
    (each_from (overlaid (slot_place v + s.address % line_bytes) s.width s.value) 0 b.cache) (stored_memory s b)

-- 01: "write it, mark the line dirty, use the line"; 02, card 2: it "marks the word written". 02, card 1: "it writes memory, and also the
-- cached line where there is one, which it uses". (Write-back is asked this of a present line only, by `can_drain`; of an absent one it
-- changes nothing.)
unfoldable pub write_store : StoreEntry → Hierarchy → Hierarchy
write_store s b =
    let l = line_of s.address in
    cond (present b l) (use_slot (set_of b l) (slot_of b l) (put_store (slot_of b l) s b))
    (holding b b.tags b.cache (stored_memory s b))

-- ---- write back: the dirty words of a line go to memory

-- byte a of memory, when the dirty words of the line of record t, in slot v, are written: a byte of a clean word stays as it was
unfoldable pub written_back_at : Tag → List ℕ → ℕ → ℕ → ℕ → ℕ
written_back_at t cache v a x =
    cond (dirty_at t (a % line_bytes) && eqb (line_of a) t.line) (get_or cache (slot_place v + a % line_bytes) 0) x

-- 02, card 2: "Eviction and flush write marked words only": the dirty words of slot v are written to memory, and the line is clean
unfoldable pub write_back_slot : ℕ → Hierarchy → Hierarchy
write_back_slot v b =
    holding b (set b.tags v (cleaned (tag_at b.tags v))) b.cache
    (each_from (written_back_at (tag_at b.tags v) b.cache v) 0 b.memory)

-- "writes every dirty line to memory, marks it clean", of each its dirty words: slot by slot
unfoldable pub write_back_all : Hierarchy → Hierarchy
write_back_all b = steps_from write_back_slot 0 (slots b) b

-- 02, card 2: "the count of words": how many words are dirty in all
unfoldable pub dirty_words : Hierarchy → ℕ
dirty_words b = total words_of b.tags

-- ---- fill: a line comes from memory

-- "the lowest invalid way of the set, else the way of greatest age", as a slot
unfoldable pub victim : Hierarchy → ℕ → ℕ
victim b l =
    let f = first_slot b l in
    let k = first_from (λ k. not (tag_at b.tags k).valid) f b.figures.ways in
    cond (ltb k (f + b.figures.ways)) k (greatest_from (λ k. (tag_at b.tags k).age) f f b.figures.ways)

-- byte j of the cache, when line l of memory is copied into slot v
unfoldable pub copied_at : List ℕ → ℕ → ℕ → ℕ → ℕ → ℕ
copied_at memory v l j x = cond (eqb (j / line_bytes) v) (get_or memory (line_bytes * l + j % line_bytes) 0) x

-- line l in slot v, valid and clean, with the 16 bytes of memory; the slot's age stays
unfoldable pub install : ℕ → ℕ → Hierarchy → Hierarchy
install v l b =
    holding b (set b.tags v (record { valid = true; dirty = 0; line = l; age = (tag_at b.tags v).age }))
    (each_from (copied_at b.memory v l) 0 b.cache) b.memory

-- "A dirty victim is first written to memory." (Its dirty words are.) "Then the reply copies the line's 16 bytes out of the middle of memory;
-- the record becomes valid and clean, is used"
unfoldable pub fill_line : ℕ → Hierarchy → Hierarchy
fill_line l b = let v = victim b l in use_slot (set_of b l) v (install v l (write_back_slot v b))

-- ---- what a fill will do (02, card 7)

-- "the way": the victim's way of its set, from 0
abbrev pub victim_way : Hierarchy → ℕ → ℕ
victim_way b l = victim b l - first_slot b l

-- "the line evicted if any": the victim's, if the victim is valid
unfoldable pub evicted_line : Hierarchy → ℕ → Option ℕ
evicted_line b l = let t = tag_at b.tags (victim b l) in cond t.valid (some t.line) none

-- "which of its four words are to be written back": the dirty ones, by the victim's marks. (In a well-formed state an invalid record has
-- none.)
abbrev pub words_written_back : Hierarchy → ℕ → ℕ
words_written_back b l = (tag_at b.tags (victim b l)).dirty

-- the ages of set s, way by way; 0 for a way that the set has not
unfoldable pub ages_of : Hierarchy → ℕ → List ℕ
ages_of b s =
    each_from (λ w x. cond (ltb w b.figures.ways) (tag_at b.tags (set_start b s + w)).age x) 0 (replicate most_ways 0)

-- what a preview gives
pub record Preview : Type 0 where
  -- from 0
  pub way : ℕ
  -- the line's number
  pub evicted : Option ℕ
  -- that of word n weighs 2 to the power n
  pub words : ℕ
  -- four, way by way
  pub ages : List ℕ

-- "The preview gives the way, the line evicted if any, which of its four words are to be written back and the ages of that set after it.":
-- of the fill of line l
unfoldable pub preview_of : Hierarchy → ℕ → Preview
preview_of b l = record {
  way = victim_way b l;
  evicted = evicted_line b l;
  words = words_written_back b l;
  ages = ages_of (fill_line l b) (set_of b l);
}

-- What is written to lent bytes, on any numbers and bytes: a line filled, dirty words written back, a store put in its place, a store drained.
-- Where the places do not lie in the bytes, nothing changes.
use Rattle.std.specs.Prelude.{ℕ, ◌+◌, ◌*◌, ◌/◌, ◌%◌, ◌<◌, ◌≤◌, ◌≡◌, Bool, true, cond, ◌&&◌, List, leb, eqb, length, get_or}
use Rattle.lists.specs.Counted.{steps_from, each_from}
use Rattle.lists.specs.Bytes.{overlaid}
use Rattle.rules.specs.declared.Tag.{Tag}
use Rattle.rules.specs.declared.StoreEntry.{StoreEntry}
use Rattle.rules.specs.declared.WritePolicy.{WritePolicy}
use Rattle.rules.specs.declared.WritePolicy.TheVariants.{WriteBack, WriteThrough}
use Rattle.rules.specs.Shape.{no_figures, line_bytes, table_size, tag_at}
use Rattle.rules.specs.Lines.{is_dirty, written_back_at, write_back_slot}

-- ---- lines

-- the 16 places of slot v of a cache, or of line v of memory, lie in so many bytes
abbrev pub line_inside : ℕ → ℕ → Bool
line_inside v n = leb (line_bytes * v + line_bytes) n

-- byte j, when slot v is filled from 16 bytes and x stood there
abbrev pub filled_at : ℕ → List ℕ → ℕ → ℕ → ℕ
filled_at v src j x = cond (eqb (j / line_bytes) v) (get_or src (j % line_bytes) 0) x

-- slot v, filled from src, if that is 16 bytes
unfoldable pub line_filled : ℕ → List ℕ → List ℕ → List ℕ
line_filled v src bytes =
    cond (eqb (length src) line_bytes && line_inside v (length bytes)) (each_from (filled_at v src) 0 bytes) bytes

-- a record with these marks and this line number: a write back reads no more of it
abbrev pub marked_line : ℕ → ℕ → Tag
marked_line marks line = record { valid = true; dirty = marks; line = line; age = 0 }

-- memory, once the dirty words of record t, in slot v, are written back: of any record, cache and memory
unfoldable pub line_written : Tag → ℕ → List ℕ → List ℕ → List ℕ
line_written t v cache memory =
    cond (line_inside v (length cache) && line_inside t.line (length memory)) (each_from (written_back_at t cache v) 0 memory) memory

-- memory, once the dirty words of the first n slots are written back, slot by slot, if the table has so many
unfoldable pub lines_written : List Tag → ℕ → List ℕ → List ℕ → List ℕ
lines_written tags n cache memory =
    cond (leb n table_size) (steps_from (λ k m. line_written (tag_at tags k) k cache m) 0 n memory) memory

-- the rules' memory, once the first n slots are written back: with no figures, which a flush does not look at
unfoldable pub flushed_memory : ℕ → List Tag → List ℕ → List ℕ → List ℕ
flushed_memory n tags cache memory =
    (steps_from write_back_slot 0 n (record { figures = no_figures; size = 0; tags = tags; cache = cache; memory = memory })).memory

-- the dirty lines of the first n slots lie in a memory of so many bytes
abbrev pub DirtyInside : List Tag → ℕ → ℕ → Type 0
DirtyInside tags n size = (k : ℕ) → k < n → is_dirty (tag_at tags k) ≡ true → 16 * (tag_at tags k).line + 16 ≤ size

-- ---- stores

-- at most 4 places from place p on lie in so many bytes
unfoldable pub places_inside : ℕ → ℕ → ℕ → Bool
places_inside p w n = leb w 4 && leb (p + w) n

-- the lowest w bytes of a value stand from place p on
unfoldable pub store_put : ℕ → ℕ → ℕ → List ℕ → List ℕ
store_put p w value bytes = cond (places_inside p w (length bytes)) (each_from (overlaid p w value) 0 bytes) bytes

-- memory, once store e is drained under a write policy
unfoldable pub stored_through : WritePolicy → StoreEntry → List ℕ → List ℕ
stored_through WriteBack e memory = memory
stored_through WriteThrough e memory = store_put e.address e.width e.value memory

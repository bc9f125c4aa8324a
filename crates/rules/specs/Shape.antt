-- The shape of the store: lines, sets, ways and slots; the tag records, the two queues, the checkpoints and the miss register; the figures that
-- are allowed.
-- The state with its cache and memory is two records here. `Queues`: last, h, the miss register, both queues and the checkpoints.
-- `Hierarchy`: figures, memory length, tag records, cache and memory. An abort changes the first only.
-- `q` is a Queues and `b` a Hierarchy throughout.
use Rattle.std.specs.Prelude.{ℕ, ◌*◌, ◌/◌, ◌%◌, Bool, true, false, ◌&&◌, ◌||◌, List, ltb, leb, eqb, length, get_or}
use Rattle.rules.specs.declared.Figures.{Figures}
use Rattle.rules.specs.declared.WritePolicy.{WritePolicy}
use Rattle.rules.specs.declared.WritePolicy.TheVariants.{WriteBack, WriteThrough}
use Rattle.rules.specs.declared.Tag.{Tag}
use Rattle.rules.specs.declared.StoreEntry.{StoreEntry}
use Rattle.rules.specs.declared.LoadEntry.{LoadEntry}
use Rattle.rules.specs.declared.Checkpoint.{Checkpoint}
use Rattle.rules.specs.declared.Request.{Request}
use Rattle.rules.specs.declared.Request.TheVariants.{Free, Line}

-- ---- figures

-- "A line is 16 bytes."
abbrev pub line_bytes : ℕ
line_bytes = 16

-- 02, card 2: "four dirty marks, one per aligned 4-byte word"
abbrev pub word_bytes : ℕ
word_bytes = 4

abbrev pub line_words : ℕ
line_words = 4

-- the marks of a line with every word dirty: 1 + 2 + 4 + 8
abbrev pub all_marks : ℕ
all_marks = 15

-- "Tag records fill a fixed table of 256"
abbrev pub table_size : ℕ
table_size = 256

-- "At most 16 held stores and 8 listed loads"
abbrev pub store_places : ℕ
store_places = 16

abbrev pub load_places : ℕ
load_places = 8

-- 02, card 3: "A mark has a name 1 to 8"; names are distinct, so there are at most so many marks
abbrev pub checkpoint_names : ℕ
checkpoint_names = 8

abbrev pub checkpoint_places : ℕ
checkpoint_places = checkpoint_names

-- "Addresses, values and operation numbers have 32 bits, unsigned."
abbrev pub top_number : ℕ
top_number = 4294967295

-- "Sets: 1, 2, 4, 8, 16, 32 or 64."
unfoldable pub sets_allowed : ℕ → Bool
sets_allowed n = eqb n 1 || (eqb n 2 || (eqb n 4 || (eqb n 8 || (eqb n 16 || (eqb n 32 || eqb n 64)))))

-- the greatest of them
abbrev pub most_sets : ℕ
most_sets = 64

-- "Ways: 1 to 4."
abbrev pub most_ways : ℕ
most_ways = 4

abbrev pub ways_allowed : ℕ → Bool
ways_allowed n = leb 1 n && leb n most_ways

-- "Memory: a multiple of 16 bytes, 16 to 65,536."
abbrev pub memory_allowed : ℕ → Bool
memory_allowed n = eqb (n % line_bytes) 0 && (leb 16 n && leb n 65536)

-- so many sets of so many ways, with a write policy
abbrev pub geometry : WritePolicy → ℕ → ℕ → Figures
geometry p sets ways = record { sets = sets; ways = ways; policy = p }

-- figures of no store: zero, and 01's write policy
abbrev pub no_figures : Figures
no_figures = geometry WriteBack 0 0

-- ---- the two halves of the store

pub record Queues : Type 0 where
  -- the last number given
  pub last : ℕ
  -- the committed number, 01's h
  pub committed : ℕ
  -- the miss register (01: the request register)
  pub request : Request
  -- the store queue (01: the held stores), in places
  pub stores : List StoreEntry
  -- the load queue (01: the list of loads), in places
  pub loads : List LoadEntry
  -- the checkpoints (02, card 3: the marks in force), in places, in order of setting
  pub checkpoints : List Checkpoint

pub record Hierarchy : Type 0 where
  -- sets, ways and the write policy
  pub figures : Figures
  -- the memory length
  pub size : ℕ
  -- the table of tag records
  pub tags : List Tag
  -- the lent cache and the lent memory
  pub cache : List ℕ
  pub memory : List ℕ

pub record World : Type 0 where
  pub queues : Queues
  pub hierarchy : Hierarchy

abbrev pub world : Queues → Hierarchy → World
world q b = record { queues = q; hierarchy = b }

-- the same figures and memory length with other records and other bytes
abbrev pub holding : Hierarchy → List Tag → List ℕ → List ℕ → Hierarchy
holding b tags cache memory =
    record { figures = b.figures; size = b.size; tags = tags; cache = cache; memory = memory }

-- ---- the write policy

-- 02, card 1: the profile "write-through .. without write-allocate"; 01 has write-back
abbrev pub is_through : WritePolicy → Bool
is_through WriteBack = false
is_through WriteThrough = true

abbrev pub writes_through : Hierarchy → Bool
writes_through b = is_through b.figures.policy

-- ---- free places, unused records

-- "Free places are zero."
abbrev pub no_store : StoreEntry
no_store = record { number = 0; address = 0; width = 0; value = 0 }

abbrev pub no_load : LoadEntry
no_load = record { number = 0; address = 0; width = 0; waiting = false; forwarded = false }

abbrev pub no_checkpoint : Checkpoint
no_checkpoint = record { name = 0; number = 0; rank = 0 }

-- "unused records are all zero"
abbrev pub no_tag : Tag
no_tag = record { valid = false; dirty = 0; line = 0; age = 0 }

-- operation numbers begin at 1: number 0 marks a free place
abbrev pub is_free_store : StoreEntry → Bool
is_free_store s = eqb s.number 0

abbrev pub is_free_load : LoadEntry → Bool
is_free_load l = eqb l.number 0

abbrev pub is_free_checkpoint : Checkpoint → Bool
is_free_checkpoint c = eqb c.number 0

-- "The request register is either free or names one line."
abbrev pub is_free : Request → Bool
is_free Free = true
is_free (Line l) = false

-- it names line l
abbrev pub names : Request → ℕ → Bool
names Free l = false
names (Line k) l = eqb k l

-- the line that the register names
abbrev pub requested_line : Request → ℕ
requested_line Free = 0
requested_line (Line l) = l

-- ---- lines, sets and slots

-- "Line number = address divided by 16, rounded down."
unfoldable pub line_of : ℕ → ℕ
line_of a = a / line_bytes

-- "Set = line number modulo sets."
abbrev pub set_of : Hierarchy → ℕ → ℕ
set_of b l = l % b.figures.sets

-- "The record of set s, way w is number s × ways + w." That number is the record's slot: set s begins at slot s × ways.
abbrev pub set_start : Hierarchy → ℕ → ℕ
set_start b s = s * b.figures.ways

-- the number of slots in use
abbrev pub slots : Hierarchy → ℕ
slots b = b.figures.sets * b.figures.ways

-- the first slot of the line's set
abbrev pub first_slot : Hierarchy → ℕ → ℕ
first_slot b l = set_start b (set_of b l)

-- the line lies in memory
abbrev pub line_in_memory : Hierarchy → ℕ → Bool
line_in_memory b l = ltb (line_bytes * l) b.size

-- the record of slot k
abbrev pub tag_at : List Tag → ℕ → Tag
tag_at tags k = get_or tags k no_tag

abbrev pub with_age : ℕ → Tag → Tag
with_age a t = record { valid = t.valid; dirty = t.dirty; line = t.line; age = a }

abbrev pub with_dirty : ℕ → Tag → Tag
with_dirty d t = record { valid = t.valid; dirty = d; line = t.line; age = t.age }

-- ---- check 1

-- sets, ways and the memory length are allowed
unfoldable pub figures_allowed : Figures → ℕ → Bool
figures_allowed f size = sets_allowed f.sets && (ways_allowed f.ways && memory_allowed size)

-- the figures are allowed, and the lent lengths agree with them: "Cache bytes: exactly sets × ways × 16."
unfoldable pub fits : Hierarchy → Bool
fits b =
    figures_allowed b.figures b.size
    && (eqb (length b.memory) b.size && eqb (length b.cache) (slots b * line_bytes))

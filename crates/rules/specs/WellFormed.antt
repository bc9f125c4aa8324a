-- Well-formed: one named clause for each part of 01's paragraph, in its order, and of what 02 adds.
use Rattle.std.specs.Prelude.{ℕ, suc, ◌+◌, ◌*◌, ◌-◌, Bool, true, not, ◌&&◌, ◌||◌, List, [], ◌∷◌, ltb, leb, eqb, length, get_or, drop}
use Rattle.lists.specs.Padded.{any, every, free_last, ascending, climbing}
use Rattle.lists.specs.Counted.{all_from}
use Rattle.rules.specs.declared.Tag.{Tag}
use Rattle.rules.specs.declared.StoreEntry.{StoreEntry}
use Rattle.rules.specs.declared.LoadEntry.{LoadEntry}
use Rattle.rules.specs.declared.Checkpoint.{Checkpoint}
use Rattle.rules.specs.declared.WritePolicy.{WritePolicy}
use Rattle.rules.specs.declared.Request.{Request}
use Rattle.rules.specs.declared.Request.TheVariants.{Free, Line}
use Rattle.rules.specs.Shape.{Queues, Hierarchy, line_bytes, all_marks, table_size, store_places, load_places, checkpoint_places, top_number, is_free_store, is_free_load, is_free_checkpoint, slots, set_start, first_slot, tag_at, line_of, line_in_memory, is_through, writes_through, fits}
use Rattle.rules.specs.Lines.{holds_line, present, slot_place, dirty_at, is_dirty}
use Rattle.rules.specs.Forward.{some_uncovered}
use Rattle.rules.specs.Checkpoints.{in_use, name_allowed}
use Rattle.rules.specs.Calls.{passes, access_checks, value_check, oldest_store, store_ready}

-- ---- "its fields keep the shapes above"
-- (the figures and the lent lengths are `fits`, which is also check 1)

-- the table has 256 records
abbrev pub table_length : Hierarchy → Bool
table_length b = eqb (length b.tags) table_size

unfoldable pub zero_tag : Tag → Bool
zero_tag t = not t.valid && (eqb t.dirty 0 && (eqb t.line 0 && eqb t.age 0))

-- the unused records are all zero
abbrev pub unused_zero : Hierarchy → Bool
unused_zero b = every zero_tag (drop (slots b) b.tags)

-- 16 places for stores, 8 for loads
abbrev pub queue_lengths : Queues → Bool
queue_lengths q = eqb (length q.stores) store_places && eqb (length q.loads) load_places

unfoldable pub free_store_zero : StoreEntry → Bool
free_store_zero s = not (is_free_store s) || (eqb s.address 0 && (eqb s.width 0 && eqb s.value 0))

unfoldable pub free_load_zero : LoadEntry → Bool
free_load_zero l = not (is_free_load l) || (eqb l.address 0 && (eqb l.width 0 && (not l.waiting && not l.forwarded)))

-- free places are zero
abbrev pub free_zero : Queues → Bool
free_zero q = every free_store_zero q.stores && every free_load_zero q.loads

-- a queue's free places stand after its entries (01 leaves this free: a list of fixed length is filled from its first place)
abbrev pub free_places_last : Queues → Bool
free_places_last q = free_last (λ s. s.number) q.stores && free_last (λ l. l.number) q.loads

-- numbers have 32 bits, and h never exceeds last
abbrev pub last_number_fits : Queues → Bool
last_number_fits q = leb q.last top_number

abbrev pub committed_up_to_last : Queues → Bool
committed_up_to_last q = leb q.committed q.last

-- ---- "each set has ages 0 to ways − 1 once each"

-- the age of slot k is below ways, and no earlier slot of the set from f on has it
unfoldable pub age_good : List Tag → ℕ → ℕ → ℕ → Bool
age_good tags ways f k =
    ltb (tag_at tags k).age ways && all_from (λ j. not (eqb (tag_at tags j).age (tag_at tags k).age)) f (k - f)

-- the set from slot f on has its ages once each: `ways` slots, each age below `ways`, no two alike
unfoldable pub set_aged : List Tag → ℕ → ℕ → Bool
set_aged tags ways f = all_from (age_good tags ways f) f ways

abbrev pub ages_once : Hierarchy → Bool
ages_once b = all_from (λ s. set_aged b.tags b.figures.ways (set_start b s)) 0 b.figures.sets

-- all that is asked of what use and the choice of a victim go by
abbrev pub recency_formed : Hierarchy → Bool
recency_formed b = ages_once b

-- ---- "a valid line lies in memory, is in its own set and is there only once"

unfoldable pub lines_inside_at : Hierarchy → ℕ → Bool
lines_inside_at b k = let t = tag_at b.tags k in not t.valid || line_in_memory b t.line

abbrev pub lines_inside : Hierarchy → Bool
lines_inside b = all_from (lines_inside_at b) 0 (slots b)

unfoldable pub lines_in_set_at : Hierarchy → ℕ → Bool
lines_in_set_at b k =
    let t = tag_at b.tags k in
    not t.valid || (leb (first_slot b t.line) k && ltb k (first_slot b t.line + b.figures.ways))

abbrev pub lines_in_set : Hierarchy → Bool
lines_in_set b = all_from (lines_in_set_at b) 0 (slots b)

-- no earlier slot, from the first of the line's set on, has the line
unfoldable pub lines_once_at : Hierarchy → ℕ → Bool
lines_once_at b k =
    let t = tag_at b.tags k in
    let f = first_slot b t.line in
    not t.valid || all_from (λ j. not (holds_line t.line (tag_at b.tags j))) f (k - f)

abbrev pub lines_once : Hierarchy → Bool
lines_once b = all_from (lines_once_at b) 0 (slots b)

-- ---- "only valid lines are dirty; an invalid record is zero but for its age, with zero cache bytes"

unfoldable pub only_valid_dirty_at : Hierarchy → ℕ → Bool
only_valid_dirty_at b k = let t = tag_at b.tags k in not (is_dirty t) || t.valid

abbrev pub only_valid_dirty : Hierarchy → Bool
only_valid_dirty b = all_from (only_valid_dirty_at b) 0 (slots b)

-- the dirty marks of an invalid record are the clause above
unfoldable pub invalid_zero_at : Hierarchy → ℕ → Bool
invalid_zero_at b k = let t = tag_at b.tags k in t.valid || eqb t.line 0

abbrev pub invalid_zero : Hierarchy → Bool
invalid_zero b = all_from (invalid_zero_at b) 0 (slots b)

unfoldable pub invalid_bytes_at : Hierarchy → ℕ → Bool
invalid_bytes_at b k =
    (tag_at b.tags k).valid || all_from (λ i. eqb (get_or b.cache (slot_place k + i) 0) 0) 0 line_bytes

abbrev pub invalid_bytes : Hierarchy → Bool
invalid_bytes b = all_from (invalid_bytes_at b) 0 (slots b)

-- ---- "clean lines equal memory". 02, card 2: "A clean word must equal memory in a well-formed state.": each byte of a valid line is in a
-- dirty word or equals memory's

unfoldable pub clean_equal_at : Hierarchy → ℕ → Bool
clean_equal_at b k =
    let t = tag_at b.tags k in
    not t.valid
    || all_from (λ i. dirty_at t i || eqb (get_or b.cache (slot_place k + i) 0) (get_or b.memory (line_bytes * t.line + i) 0)) 0 line_bytes

abbrev pub clean_equal : Hierarchy → Bool
clean_equal b = all_from (clean_equal_at b) 0 (slots b)

-- ---- 02, card 1, of write-through: "in a well-formed state no line is dirty"

unfoldable pub is_clean_at : Hierarchy → ℕ → Bool
is_clean_at b k = not (is_dirty (tag_at b.tags k))

abbrev pub none_dirty : Hierarchy → Bool
none_dirty b = not (writes_through b) || all_from (is_clean_at b) 0 (slots b)

-- ---- 02, card 2: "Each record gets four dirty marks": no fifth is set

unfoldable pub four_marks_at : Hierarchy → ℕ → Bool
four_marks_at b k = leb (tag_at b.tags k).dirty all_marks

abbrev pub four_marks : Hierarchy → Bool
four_marks b = all_from (four_marks_at b) 0 (slots b)

-- ---- "listed numbers are strictly rising, from 1 to last, and no number is in both lists"
-- (number 0 marks a free place)

abbrev pub numbers_rise : Queues → Bool
numbers_rise q = ascending (λ s. s.number) 0 q.stores && ascending (λ l. l.number) 0 q.loads

abbrev pub numbers_up_to_last : Queues → Bool
numbers_up_to_last q =
    every (λ s. leb s.number q.last) q.stores && every (λ l. leb l.number q.last) q.loads

-- no load has the store's number
unfoldable pub alone : List LoadEntry → StoreEntry → Bool
alone ls s = is_free_store s || not (any (λ l. eqb l.number s.number) ls)

abbrev pub numbers_apart : Queues → Bool
numbers_apart q = every (alone q.loads) q.stores

-- ---- "listed accesses pass the input checks"

unfoldable pub store_passes : Hierarchy → StoreEntry → Bool
store_passes b s = is_free_store s || (passes (access_checks b s.address s.width) && not (value_check s.width s.value).applies)

unfoldable pub load_passes : Hierarchy → LoadEntry → Bool
load_passes b l = is_free_load l || passes (access_checks b l.address l.width)

abbrev pub accesses_pass : Queues → Hierarchy → Bool
accesses_pass q b = every (store_passes b) q.stores && every (load_passes b) q.loads

-- ---- "a load numbered h or less is listed only while it waits; a waiting load has a byte that no older held store covers"

unfoldable pub committed_wait_at : ℕ → LoadEntry → Bool
committed_wait_at h l = is_free_load l || (l.waiting || ltb h l.number)

abbrev pub committed_wait : Queues → Bool
committed_wait q = every (committed_wait_at q.committed) q.loads

unfoldable pub waiting_uncovered_at : List StoreEntry → LoadEntry → Bool
waiting_uncovered_at ss l = is_free_load l || (not l.waiting || some_uncovered l.number ss l.address l.width)

abbrev pub waiting_uncovered : Queues → Bool
waiting_uncovered q = every (waiting_uncovered_at q.stores) q.loads

-- ---- 02, card 6: "record how the answer was found": a waiting load has none yet

unfoldable pub forwarded_answered_at : LoadEntry → Bool
forwarded_answered_at l = not l.forwarded || not l.waiting

abbrev pub forwarded_answered : Queues → Bool
forwarded_answered q = every forwarded_answered_at q.loads

-- ---- "a requested line is absent, lies in memory, and is wanted by a committed waiting load or by the oldest store,
-- committed and with no older waiting load". 02, card 1, of write-through: "only a committed waiting load can want a requested line"

unfoldable pub request_absent : Request → Hierarchy → Bool
request_absent Free b = true
request_absent (Line l) b = not (present b l)

unfoldable pub request_inside : Request → Hierarchy → Bool
request_inside Free b = true
request_inside (Line l) b = line_in_memory b l

-- a committed waiting load on the line
unfoldable pub waits_for : ℕ → ℕ → LoadEntry → Bool
waits_for h line l = not (is_free_load l) && (leb l.number h && (l.waiting && eqb (line_of l.address) line))

-- the oldest store, committed and with no older waiting load, wants the line
abbrev pub store_wants : Queues → ℕ → Bool
store_wants q line = store_ready q && eqb (line_of (oldest_store q).address) line

unfoldable pub request_wanted : Request → Queues → WritePolicy → Bool
request_wanted Free q p = true
request_wanted (Line l) q p =
    any (waits_for q.committed l) q.loads || (not (is_through p) && store_wants q l)

-- ---- 02, card 3: "In a well-formed state marks lie above h, at most at last + 1, never fall in order of setting, and have distinct names
-- and ranks 1, 2 and so on.", with the shape of their list: `cs` is the list of checkpoints

-- 8 places
abbrev pub checkpoint_length : List Checkpoint → Bool
checkpoint_length cs = eqb (length cs) checkpoint_places

unfoldable pub free_checkpoint_zero : Checkpoint → Bool
free_checkpoint_zero c = not (is_free_checkpoint c) || (eqb c.name 0 && eqb c.rank 0)

-- free places are zero
abbrev pub checkpoints_zero : List Checkpoint → Bool
checkpoints_zero cs = every free_checkpoint_zero cs

-- free places stand after the marks
abbrev pub checkpoints_last : List Checkpoint → Bool
checkpoints_last cs = free_last (λ c. c.number) cs

-- "marks lie above h, at most at last + 1"
unfoldable pub placed_at : ℕ → ℕ → Checkpoint → Bool
placed_at h last c = is_free_checkpoint c || (ltb h c.number && leb c.number (last + 1))

abbrev pub checkpoints_placed : ℕ → ℕ → List Checkpoint → Bool
checkpoints_placed h last cs = every (placed_at h last) cs

-- "never fall in order of setting"
abbrev pub checkpoints_never_fall : List Checkpoint → Bool
checkpoints_never_fall cs = climbing (λ c. c.number) 0 cs

-- "A mark has a name 1 to 8"
unfoldable pub name_fits : Checkpoint → Bool
name_fits c = is_free_checkpoint c || name_allowed c.name

abbrev pub names_fit : List Checkpoint → Bool
names_fit cs = every name_fits cs

-- "and have distinct names": no later mark has the name of an earlier one
unfoldable pub names_distinct : List Checkpoint → Bool
names_distinct [] = true
names_distinct (c ∷ cs) = (is_free_checkpoint c || not (in_use c.name cs)) && names_distinct cs

-- "and ranks 1, 2 and so on": of the marks from place i on, counted from 0
unfoldable pub ranks_from : ℕ → List Checkpoint → Bool
ranks_from i [] = true
ranks_from i (c ∷ cs) = (is_free_checkpoint c || eqb c.rank (suc i)) && ranks_from (suc i) cs

-- ---- all of them

-- the clauses of the hierarchy
abbrev pub line_clauses : Hierarchy → List Bool
line_clauses b =
    table_length b
    ∷ unused_zero b
    ∷ recency_formed b
    ∷ lines_inside b
    ∷ lines_in_set b
    ∷ lines_once b
    ∷ only_valid_dirty b
    ∷ invalid_zero b
    ∷ invalid_bytes b
    ∷ clean_equal b
    ∷ none_dirty b
    ∷ four_marks b
    ∷ []

-- the clauses of the queues
abbrev pub queue_clauses : Queues → Hierarchy → List Bool
queue_clauses q b =
    queue_lengths q
    ∷ free_zero q
    ∷ free_places_last q
    ∷ last_number_fits q
    ∷ committed_up_to_last q
    ∷ numbers_rise q
    ∷ numbers_up_to_last q
    ∷ numbers_apart q
    ∷ accesses_pass q b
    ∷ committed_wait q
    ∷ waiting_uncovered q
    ∷ forwarded_answered q
    ∷ request_absent q.request b
    ∷ request_inside q.request b
    ∷ request_wanted q.request q b.figures.policy
    ∷ []

-- the clauses of the checkpoints, with h and last
abbrev pub checkpoint_clauses : ℕ → ℕ → List Checkpoint → List Bool
checkpoint_clauses h last cs =
    checkpoint_length cs
    ∷ checkpoints_zero cs
    ∷ checkpoints_last cs
    ∷ checkpoints_placed h last cs
    ∷ checkpoints_never_fall cs
    ∷ names_fit cs
    ∷ names_distinct cs
    ∷ ranks_from 0 cs
    ∷ []

unfoldable pub lines_formed : Hierarchy → Bool
lines_formed b = every (λ t. t) (line_clauses b)

unfoldable pub queues_formed : Queues → Hierarchy → Bool
queues_formed q b = every (λ t. t) (queue_clauses q b)

unfoldable pub checkpoints_formed : ℕ → ℕ → List Checkpoint → Bool
checkpoints_formed h last cs = every (λ t. t) (checkpoint_clauses h last cs)

-- "A state is well formed when: .."
unfoldable pub well_formed : Queues → Hierarchy → Bool
well_formed q b =
    fits b && (lines_formed b && (queues_formed q b && checkpoints_formed q.committed q.last q.checkpoints))

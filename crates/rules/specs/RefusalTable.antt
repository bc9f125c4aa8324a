-- The table of refusals: for each number of 01's two tables, and of 02's cards that have landed, states and calls that give it, beside
-- neighbours that do not, on both sides of each bound; and for each call which refusal comes first where several apply. (6 is the script player's.)
-- A row is a state, a call and what the call answers there; under either write policy, unless said otherwise.
use Rattle.std.specs.Prelude.{ℕ, ◌+◌, ◌-◌, ◌≡◌, true, List, [], ◌∷◌, ◌++◌, map, replicate}
use Rattle.std.proofs.Math.Option.{none}
use Rattle.lists.specs.Counted.{each_from}
use Rattle.rules.specs.declared.StoreEntry.{StoreEntry}
use Rattle.rules.specs.declared.LoadEntry.{LoadEntry}
use Rattle.rules.specs.declared.Checkpoint.{Checkpoint}
use Rattle.rules.specs.declared.Request.{Request}
use Rattle.rules.specs.declared.Request.TheVariants.{Free, Line}
use Rattle.rules.specs.declared.WritePolicy.{WritePolicy}
use Rattle.rules.specs.declared.WritePolicy.TheVariants.{WriteBack, WriteThrough}
use Rattle.rules.specs.Shape.{Queues, World, world, top_number, geometry, no_store, no_load, no_checkpoint, no_tag}
use Rattle.rules.specs.Calls.{Call, Answer, load, store, retry, commit, abort, idle, reply, flush, show, checkpoint, restore, preview, refused, stored, waits, committed, kept, drained, idled, filled, flushed, shown, checkpointed, previewed, empty_part}
use Rattle.rules.specs.Runs.{StartAnswer, ready, start_refused, empty_queues, start_answer, answer}
use Rattle.rules.specs.Examples.{fresh}
use Rattle.rules.specs.States.{tag, held_at, waiting_load, answered_load, checkpoint_of, queues_with, queues, rich_queues, rich_lines, clean_lines, requested_by_store, broken}

pub record Row : Type 0 where
  pub at : World
  pub call : Call
  pub gives : Answer

abbrev pub row : World → Call → Answer → Row
row w c r = record { at = w; call = c; gives = r }

-- ---- the states: one set of one way over two lines of memory, unless said otherwise

-- after a start: nothing is held, listed or requested
abbrev pub empty : World
empty = fresh 1 1 32

-- these queues over lines that are all absent
abbrev pub over : Queues → World
over q = world q empty.hierarchy

-- stores 1 to n are held
abbrev pub stores : ℕ → List StoreEntry
stores n = each_from (λ k s. held_at (k + 1) 0 1 7) 0 (replicate n no_store) ++ replicate (16 - n) no_store

-- loads 1 to n are listed, and wait
abbrev pub loads : ℕ → List LoadEntry
loads n = each_from (λ k l. waiting_load (k + 1) 0 1) 0 (replicate n no_load) ++ replicate (8 - n) no_load

-- last, h, and how many stores are held
abbrev pub holding_stores : ℕ → ℕ → ℕ → World
holding_stores last h n = over (queues last h Free (stores n) (loads 0))

-- last, h, and how many loads are listed
abbrev pub listing_loads : ℕ → ℕ → ℕ → World
listing_loads last h n = over (queues last h Free (stores 0) (loads n))

-- load 1 waits, load 2 is answered, store 3 is held
abbrev pub mixed : World
mixed =
    over
    (queues 3 0 Free (held_at 3 0 1 7 ∷ replicate 15 no_store) (waiting_load 1 0 1 ∷ answered_load 2 4 1 ∷ replicate 6 no_load))

-- the committed load 1 waits for line 0, and this is in the register
abbrev pub requesting : Request → World
requesting r = over (queues 1 1 r (stores 0) (loads 1))

-- last, and the marks in force (02, card 3), in places; h is 0
abbrev pub with_marks : ℕ → List Checkpoint → World
with_marks last cs = over (queues_with cs last 0 Free (stores 0) (loads 0))

-- mark 2 is in force at 3
abbrev pub one_mark : ℕ → World
one_mark last = with_marks last (checkpoint_of 2 3 1 ∷ replicate 7 no_checkpoint)

-- every name is in use, at 3
abbrev pub every_name : World
every_name = with_marks 4 (each_from (λ k c. checkpoint_of (k + 1) 3 (k + 1)) 0 (replicate 8 no_checkpoint))

-- line 0 is present, store 1 is held, last is 1 and the register is free; with this h, and so many bytes of cache lent
abbrev pub storing : ℕ → ℕ → World
storing h lent = record {
  queues = queues 1 h Free (stores 1) (loads 0);
  hierarchy = record {
    figures = geometry WriteBack 1 1;
    size = 32;
    tags = tag true 0 0 0 ∷ replicate 255 no_tag;
    cache = replicate lent 0;
    memory = replicate 32 0;
  };
}

-- a start's records and queues, with so many bytes of cache and of memory lent
abbrev pub lending : ℕ → ℕ → World
lending cache memory = record {
  queues = empty_queues;
  hierarchy = record {
    figures = geometry WriteBack 1 1;
    size = 32;
    tags = replicate 256 no_tag;
    cache = replicate cache 0;
    memory = replicate memory 0;
  };
}

-- ---- refusals from the input

unfoldable pub input_rows : List Row
input_rows =
    -- 1: "sets .. is not allowed": 1, 2, 4, 8, 16, 32 or 64
    row (fresh 0 1 32) idle (refused 1)
    ∷ row (fresh 2 1 32) idle idled
    ∷ row (fresh 3 1 32) idle (refused 1)
    ∷ row (fresh 4 1 32) idle idled
    ∷ row (fresh 128 1 32) idle (refused 1)
    -- "ways": 1 to 4
    ∷ row (fresh 1 0 32) idle (refused 1)
    ∷ row (fresh 1 1 32) idle idled
    ∷ row (fresh 1 4 32) idle idled
    ∷ row (fresh 1 5 32) idle (refused 1)
    -- "memory": a multiple of 16 bytes, from 16 on
    ∷ row (fresh 1 1 0) idle (refused 1)
    ∷ row (fresh 1 1 16) idle idled
    ∷ row (fresh 1 1 24) idle (refused 1)
    -- "or a lent length disagrees with the state": the cache's 16 bytes, the memory's 32
    ∷ row (lending 15 32) idle (refused 1)
    ∷ row (lending 16 32) idle idled
    ∷ row (lending 17 32) idle (refused 1)
    ∷ row (lending 16 31) idle (refused 1)
    ∷ row (lending 16 48) idle (refused 1)
    -- 2: "width is not 1, 2 or 4"
    ∷ row empty (load 0 0) (refused 2)
    ∷ row empty (load 0 1) (waits 1)
    ∷ row empty (load 0 2) (waits 1)
    ∷ row empty (load 0 3) (refused 2)
    ∷ row empty (load 0 4) (waits 1)
    ∷ row empty (load 0 8) (refused 2)
    ∷ row empty (store 0 3 7) (refused 2)
    ∷ row empty (store 0 4 7) (stored 1)
    -- 3: "address is not a multiple of width"
    ∷ row empty (load 5 1) (waits 1)
    ∷ row empty (load 5 2) (refused 3)
    ∷ row empty (load 6 2) (waits 1)
    ∷ row empty (load 6 4) (refused 3)
    ∷ row empty (load 8 4) (waits 1)
    ∷ row empty (store 6 4 7) (refused 3)
    ∷ row empty (store 8 4 7) (stored 1)
    -- 4: "address + width exceeds memory length"
    ∷ row empty (load 31 1) (waits 1)
    ∷ row empty (load 32 1) (refused 4)
    ∷ row empty (load 30 2) (waits 1)
    ∷ row empty (load 32 2) (refused 4)
    ∷ row empty (load 28 4) (waits 1)
    ∷ row empty (load 32 4) (refused 4)
    ∷ row empty (store 28 4 7) (stored 1)
    ∷ row empty (store 32 4 7) (refused 4)
    -- 5: "a stored value is 256 to the power width or more"
    ∷ row empty (store 0 1 255) (stored 1)
    ∷ row empty (store 0 1 256) (refused 5)
    ∷ row empty (store 0 2 65535) (stored 1)
    ∷ row empty (store 0 2 65536) (refused 5)
    ∷ row empty (store 0 4 4294967295) (stored 1)
    ∷ row empty (store 0 4 4294967296) (refused 5)
    ∷ []

-- ---- refusals from the state

unfoldable pub state_rows : List Row
state_rows =
    -- 10: "state not well formed": h above last (`clause_rows` has every clause)
    row (listing_loads 0 0 0) idle idled
    ∷ row (listing_loads 0 1 0) idle (refused 10)
    ∷ row (listing_loads 1 1 0) idle idled
    -- 11: "store: 16 are held"
    ∷ row (holding_stores 16 0 15) (store 0 1 7) (stored 17)
    ∷ row (holding_stores 16 0 16) (store 0 1 7) (refused 11)
    -- 12: "load: 8 are listed"
    ∷ row (listing_loads 8 0 7) (load 0 1) (waits 9)
    ∷ row (listing_loads 8 0 8) (load 0 1) (refused 12)
    -- (11 is for a store alone, 12 for a load alone)
    ∷ row (holding_stores 16 0 16) (load 16 1) (waits 17)
    ∷ row (listing_loads 8 0 8) (store 0 1 7) (stored 9)
    -- 13: "load or store: last is 4294967295"
    ∷ row (holding_stores 4294967294 0 0) (load 0 1) (waits 4294967295)
    ∷ row (holding_stores 4294967295 0 0) (load 0 1) (refused 13)
    ∷ row (holding_stores 4294967294 0 0) (store 0 1 7) (stored 4294967295)
    ∷ row (holding_stores 4294967295 0 0) (store 0 1 7) (refused 13)
    -- 14: "inquiry: no waiting load of that number": a waiting load, an answered one, a store, no number, the next number
    ∷ row mixed (retry 1) (waits 1)
    ∷ row mixed (retry 2) (refused 14)
    ∷ row mixed (retry 3) (refused 14)
    ∷ row mixed (retry 0) (refused 14)
    ∷ row mixed (retry 4) (refused 14)
    -- 15: "commit: k is below h or above last": h 2, last 4
    ∷ row (holding_stores 4 2 4) (commit 1) (refused 15)
    ∷ row (holding_stores 4 2 4) (commit 2) (committed 2)
    ∷ row (holding_stores 4 2 4) (commit 4) (committed 4)
    ∷ row (holding_stores 4 2 4) (commit 5) (refused 15)
    -- 16: "abort: n is at most h or above last + 1": h 2, last 4
    ∷ row (holding_stores 4 2 4) (abort 2) (refused 16)
    ∷ row (holding_stores 4 2 4) (abort 3) (kept 2)
    ∷ row (holding_stores 4 2 4) (abort 5) (kept 4)
    ∷ row (holding_stores 4 2 4) (abort 6) (refused 16)
    -- 17: "reply: register free"
    ∷ row (requesting Free) reply (refused 17)
    ∷ row (requesting (Line 0)) reply (filled 0)
    -- 02, card 7: "refusals are the same"
    ∷ row (requesting Free) preview (refused 17)
    ∷ row (requesting (Line 0)) preview (previewed (record { way = 0; evicted = none; words = 0; ages = 0 ∷ 0 ∷ 0 ∷ 0 ∷ [] }))
    -- 18: "flush: a committed store is held": of one store, of two
    ∷ row (holding_stores 2 0 1) flush (flushed 0)
    ∷ row (holding_stores 2 1 1) flush (refused 18)
    ∷ row (holding_stores 2 0 2) flush (flushed 0)
    ∷ row (holding_stores 2 1 2) flush (refused 18)
    ∷ row (holding_stores 2 2 0) flush (flushed 0)
    -- 02, card 3. 19: "name outside 1 to 8"
    ∷ row (one_mark 4) (checkpoint 0) (refused 19)
    ∷ row (one_mark 4) (checkpoint 1) (checkpointed 5)
    ∷ row (one_mark 4) (checkpoint 8) (checkpointed 5)
    ∷ row (one_mark 4) (checkpoint 9) (refused 19)
    ∷ row (one_mark 4) (restore 0) (refused 19)
    ∷ row (one_mark 4) (restore 9) (refused 19)
    -- 20: "set, name in use"
    ∷ row (one_mark 4) (checkpoint 2) (refused 20)
    ∷ row (one_mark 4) (checkpoint 3) (checkpointed 5)
    ∷ row every_name (checkpoint 1) (refused 20)
    ∷ row every_name (checkpoint 8) (refused 20)
    -- 21: "return, name not in use,
    ∷ row (one_mark 4) (restore 2) (kept 2)
    ∷ row (one_mark 4) (restore 3) (refused 21)
    ∷ row empty (restore 2) (refused 21)
    ∷ row every_name (restore 8) (kept 2)
    -- or set when last is 4294967295"; a return is not refused for that
    ∷ row (one_mark 4294967294) (checkpoint 1) (checkpointed 4294967295)
    ∷ row (one_mark 4294967295) (checkpoint 1) (refused 21)
    ∷ row (one_mark 4294967295) (restore 2) (kept 2)
    ∷ []

-- 10 for each clause of well-formed. Not for the rich state, which keeps all of them; nor with no line dirty, under either write policy;
-- nor for a line requested for a store, with write-back. But for the states that break a clause each. (Each row has its own policy.)
unfoldable pub clause_rows : List Row
clause_rows =
    row (world rich_queues rich_lines) idle idled
    ∷ row (world rich_queues (clean_lines WriteBack)) idle idled
    ∷ row (world rich_queues (clean_lines WriteThrough)) idle (drained 2)
    ∷ row (world requested_by_store (clean_lines WriteBack)) idle idled
    ∷ map (λ w. row w idle (refused 10)) broken

-- ---- "Order: 6, 1, 10, 2, 3, 4, 5, 13, then 11 or 12; the others follow 10."

-- well formed; not well formed, with h above last; and so too, with a byte of cache too few
abbrev pub sound : World
sound = storing 1 16

abbrev pub unformed : World
unformed = storing 2 16

abbrev pub unfitting : World
unfitting = storing 2 15

-- nothing is free: 16 stores are held, 8 loads are listed, and no number is left
abbrev pub used_up : World
used_up = over (queues top_number 0 Free (stores 16) (each_from (λ k l. waiting_load (k + 17) 16 1) 0 (replicate 8 no_load)))

unfoldable pub order_rows : List Row
order_rows =
    -- 1 is first
    row unfitting (load 1 3) (refused 1)
    ∷ row unfitting (store 1 3 7) (refused 1)
    ∷ row unfitting (retry 1) (refused 1)
    ∷ row unfitting (commit 2) (refused 1)
    ∷ row unfitting (abort 1) (refused 1)
    ∷ row unfitting idle (refused 1)
    ∷ row unfitting reply (refused 1)
    ∷ row unfitting flush (refused 1)
    ∷ row unfitting (checkpoint 0) (refused 1)
    ∷ row unfitting (restore 0) (refused 1)
    ∷ row unfitting preview (refused 1)
    -- "It gives an empty part when .. check 1 or 10 fails. It is the sole call that names no refusal."
    ∷ row unfitting (show 0) empty_part
    -- 10 is next
    ∷ row unformed (load 1 3) (refused 10)
    ∷ row unformed (store 1 3 7) (refused 10)
    ∷ row unformed (retry 1) (refused 10)
    ∷ row unformed (commit 2) (refused 10)
    ∷ row unformed (abort 1) (refused 10)
    ∷ row unformed idle (refused 10)
    ∷ row unformed reply (refused 10)
    ∷ row unformed flush (refused 10)
    ∷ row unformed (checkpoint 0) (refused 10)
    ∷ row unformed (restore 0) (refused 10)
    ∷ row unformed preview (refused 10)
    ∷ row unformed (show 0) empty_part
    -- "the others follow 10"
    ∷ row sound (load 1 3) (refused 2)
    ∷ row sound (store 1 3 7) (refused 2)
    ∷ row sound (retry 1) (refused 14)
    ∷ row sound (commit 2) (refused 15)
    ∷ row sound (abort 1) (refused 16)
    ∷ row sound idle (drained 1)
    ∷ row sound reply (refused 17)
    ∷ row sound flush (refused 18)
    ∷ row sound (checkpoint 0) (refused 19)
    ∷ row sound (restore 0) (refused 19)
    ∷ row sound preview (refused 17)
    ∷ row sound (show 0) (shown 0 (replicate 16 0))
    -- "when the line is absent, the address is outside memory"
    ∷ row sound (show 15) (shown 0 (replicate 16 0))
    ∷ row sound (show 16) empty_part
    ∷ row sound (show 32) empty_part
    -- load: 2, 3, 4, 13, 12
    ∷ row used_up (load 33 3) (refused 2)
    ∷ row used_up (load 33 2) (refused 3)
    ∷ row used_up (load 32 2) (refused 4)
    ∷ row used_up (load 30 2) (refused 13)
    -- store: 2, 3, 4, 5, 13, 11
    ∷ row used_up (store 33 3 16777216) (refused 2)
    ∷ row used_up (store 33 2 65536) (refused 3)
    ∷ row used_up (store 32 2 65536) (refused 4)
    ∷ row used_up (store 30 2 65536) (refused 5)
    ∷ row used_up (store 30 2 65535) (refused 13)
    -- 02, card 3: "Refusals follow 10, in rising order." set: 19, 20, 21; return: 19, 21
    ∷ row (one_mark top_number) (checkpoint 9) (refused 19)
    ∷ row (one_mark top_number) (checkpoint 2) (refused 20)
    ∷ row (one_mark top_number) (checkpoint 3) (refused 21)
    ∷ row (one_mark top_number) (restore 9) (refused 19)
    ∷ row (one_mark top_number) (restore 3) (refused 21)
    ∷ []

-- ---- "Start reads no earlier state, so 1 alone can refuse it."

-- sets and ways, the lengths of memory and of the cache that are lent to a start, and what it answers under either write policy
pub record StartRow : Type 0 where
  pub sets : ℕ
  pub ways : ℕ
  pub memory : ℕ
  pub cache : ℕ
  pub gives : StartAnswer

abbrev pub start : ℕ → ℕ → ℕ → ℕ → StartAnswer → StartRow
start sets ways memory cache r = record { sets = sets; ways = ways; memory = memory; cache = cache; gives = r }

unfoldable pub start_rows : List StartRow
start_rows =
    -- "Sets: 1, 2, 4, 8, 16, 32 or 64."
    start 0 1 32 0 (start_refused 1)
    ∷ start 1 1 32 16 ready
    ∷ start 2 1 32 32 ready
    ∷ start 3 1 32 48 (start_refused 1)
    ∷ start 4 1 32 64 ready
    ∷ start 8 1 32 128 ready
    ∷ start 16 1 32 256 ready
    ∷ start 32 1 32 512 ready
    ∷ start 64 1 32 1024 ready
    ∷ start 128 1 32 2048 (start_refused 1)
    -- "Ways: 1 to 4."
    ∷ start 1 0 32 0 (start_refused 1)
    ∷ start 1 4 32 64 ready
    ∷ start 1 5 32 80 (start_refused 1)
    -- "Memory: a multiple of 16 bytes, 16 to 65,536."
    ∷ start 1 1 0 16 (start_refused 1)
    ∷ start 1 1 16 16 ready
    ∷ start 1 1 24 16 (start_refused 1)
    ∷ start 1 1 65536 16 ready
    ∷ start 1 1 65552 16 (start_refused 1)
    -- "Cache bytes: exactly sets × ways × 16."
    ∷ start 2 2 32 63 (start_refused 1)
    ∷ start 2 2 32 64 ready
    ∷ start 2 2 32 65 (start_refused 1)
    ∷ []

-- ---- the table holds

abbrev pub AsGiven : List Row → Type 0
AsGiven rows = map (λ r. answer r.call r.at) rows ≡ map (λ r. r.gives) rows

-- the same state under a write policy
abbrev pub under : WritePolicy → World → World
under p w = record {
  queues = w.queues;
  hierarchy = record {
    figures = geometry p w.hierarchy.figures.sets w.hierarchy.figures.ways;
    size = w.hierarchy.size;
    tags = w.hierarchy.tags;
    cache = w.hierarchy.cache;
    memory = w.hierarchy.memory;
  };
}

abbrev pub GivenUnder : WritePolicy → List Row → Type 0
GivenUnder p rows = map (λ r. answer r.call (under p r.at)) rows ≡ map (λ r. r.gives) rows

abbrev pub AsStarted : WritePolicy → List StartRow → Type 0
AsStarted p rows =
    map (λ r. start_answer (geometry p r.sets r.ways) (replicate r.cache 0) (replicate r.memory 0)) rows
    ≡ map (λ r. r.gives) rows

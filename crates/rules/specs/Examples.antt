-- The shared table: 01's bench examples marked P, each as what the rules give beside what 01 says. And 01's worked script,
-- dropped stretches, runs beside flat memory, the two write policies beside each other, and dirty words.
use Rattle.std.specs.Prelude.{ℕ, ◌+◌, Bool, true, false, List, [], ◌∷◌, ◌++◌, map, get_or, take, replicate}
use Rattle.lists.specs.Padded.{select}
use Rattle.lists.specs.Counted.{each_from}
use Rattle.lists.specs.Bytes.{value_at}
use Rattle.rules.specs.Dropped.{remaining, struck}
use Rattle.rules.specs.declared.Tag.{Tag}
use Rattle.rules.specs.declared.StoreEntry.{StoreEntry}
use Rattle.rules.specs.declared.Request.{Request}
use Rattle.rules.specs.declared.Request.TheVariants.{Free, Line}
use Rattle.rules.specs.declared.WritePolicy.{WritePolicy}
use Rattle.rules.specs.declared.WritePolicy.TheVariants.{WriteBack, WriteThrough}
use Rattle.rules.specs.Shape.{World, Hierarchy, world, geometry, no_store, no_load, no_checkpoint, tag_at, line_of, set_of}
use Rattle.rules.specs.Lines.{slot_of, use_line, write_store, victim, fill_line}
use Rattle.rules.specs.Calls.{Call, Answer, load, store, retry, commit, abort, idle, reply, flush, show, refused, stored, value, waits, committed, kept, drained, requested, idled, filled}
use Rattle.rules.specs.Runs.{empty_queues, started, start_world, answer, next, answers, after}
use Rattle.rules.specs.Flat.{History, no_history, history_of, load_of, flat_before}

-- what an example shows: answers of calls, or numbers
pub data Shown : Type 0 where
  gives : List Answer → Shown
  numbers : List ℕ → Shown

-- a state, what is looked at there, and what 01 says of it. (A function of the state, and not its value: the checker then computes it once.)
pub record Example : Type 0 where
  pub at : World
  pub looked : World → Shown
  pub expected : Shown

abbrev pub seen : Example → Shown
seen e = e.looked e.at

-- a start that found zeros
abbrev pub fresh : ℕ → ℕ → ℕ → World
fresh sets ways size = started (geometry WriteBack sets ways) (replicate size 0)

-- the answers of a run from w on
abbrev pub runs : World → List Call → Shown
runs w cs = gives (answers cs w)

-- the answer of each call alone, made at w
abbrev pub each : World → List Call → Shown
each w cs = gives (map (λ c. answer c w) cs)

-- ---- the worlds

-- "h 2, last 4": four stores are held, two of them committed
abbrev held : ℕ → StoreEntry
held i = record { number = i; address = 0; width = 1; value = i }

abbrev pub two_of_four : World
two_of_four = record {
  queues = record {
    last = 4;
    committed = 2;
    request = Free;
    stores = held 1 ∷ held 2 ∷ held 3 ∷ held 4 ∷ replicate 12 no_store;
    loads = replicate 8 no_load;
    checkpoints = replicate 8 no_checkpoint;
  };
  hierarchy = (fresh 1 1 32).hierarchy;
}

-- "one set, two ways: fill line 0, fill line 1, use 0"
abbrev pub two_filled : Hierarchy
two_filled = use_line 0 (fill_line 1 (fill_line 0 (fresh 1 2 48).hierarchy))

-- lines 0 and 1 in the two ways of one set, line 1 used last; the last number is 3, and load 3 waits for line 2
abbrev pub two_present : World
two_present = record {
  queues = record {
    last = 3;
    committed = 2;
    request = Free;
    stores = replicate 16 no_store;
    loads = record { number = 3; address = 32; width = 1; waiting = true; forwarded = false } ∷ replicate 7 no_load;
    checkpoints = replicate 8 no_checkpoint;
  };
  hierarchy = use_line 1 two_filled;
}

-- line 0 in the one way, word 0 dirty (byte 0 is written); line 1 is requested for the committed load 2
abbrev pub dirty_requested : World
dirty_requested = record {
  queues = record {
    last = 2;
    committed = 2;
    request = Line 1;
    stores = replicate 16 no_store;
    loads = record { number = 2; address = 16; width = 1; waiting = true; forwarded = false } ∷ replicate 7 no_load;
    checkpoints = replicate 8 no_checkpoint;
  };
  hierarchy = write_store (held 7) (fill_line 0 (fresh 1 1 48).hierarchy);
}

-- ---- the table

unfoldable pub table : List Example
table =
    -- "two-byte 43707 stored at 4, byte 17 at 5; a two-byte load at 4 gives 4539"
    record {
      at = fresh 1 1 32;
      looked = λ w. runs w (store 4 2 43707 ∷ store 5 1 17 ∷ load 4 2 ∷ []);
      expected = gives (stored 1 ∷ stored 2 ∷ value 3 4539 ∷ []);
    }
    -- "two sets, address 52: line 3, set 1"
    ∷ record {
      at = fresh 2 1 64;
      looked = λ w. numbers (line_of 52 ∷ set_of w.hierarchy (line_of 52) ∷ []);
      expected = numbers (3 ∷ 1 ∷ []);
    }
    -- "h 2, last 4: abort 3, 4, 5 pass; 2 and 6 give 16"
    ∷ record {
      at = two_of_four;
      looked = λ w. each w (abort 3 ∷ abort 4 ∷ abort 5 ∷ abort 2 ∷ abort 6 ∷ []);
      expected = gives (kept 2 ∷ kept 3 ∷ kept 4 ∷ refused 16 ∷ refused 16 ∷ []);
    }
    -- "same: commit 2, 3, 4 pass; 1 and 5 give 15"
    ∷ record {
      at = two_of_four;
      looked = λ w. each w (commit 2 ∷ commit 3 ∷ commit 4 ∷ commit 1 ∷ commit 5 ∷ []);
      expected = gives (committed 2 ∷ committed 3 ∷ committed 4 ∷ refused 15 ∷ refused 15 ∷ []);
    }
    -- "memory 32: a word at 28 passes, 30 gives 3, 32 gives 4"
    ∷ record {
      at = fresh 1 1 32;
      looked = λ w. each w (load 28 4 ∷ load 30 4 ∷ load 32 4 ∷ []);
      expected = gives (waits 1 ∷ refused 3 ∷ refused 4 ∷ []);
    }
    -- "byte value 255 passes, 256 gives 5"
    ∷ record {
      at = fresh 1 1 32;
      looked = λ w. each w (store 0 1 255 ∷ store 0 1 256 ∷ []);
      expected = gives (stored 1 ∷ refused 5 ∷ []);
    }
    -- "load 1 of byte 0 waits, store 2 there, commit 2, idle, reply. Idle now does nothing; inquiry 1 gives the old byte;
    -- the next idle drains 2"
    ∷ record {
      at = started (geometry WriteBack 1 1) (9 ∷ replicate 15 0);
      looked = λ w. runs w (load 0 1 ∷ store 0 1 7 ∷ commit 2 ∷ idle ∷ reply ∷ idle ∷ retry 1 ∷ idle ∷ []);
      expected =
          gives
          (waits 1 ∷ stored 2 ∷ committed 2 ∷ requested 0 ∷ filled 0 ∷ idled ∷ value 1 9 ∷ drained 2 ∷ []);
    }
    -- "one set, two ways: fill line 0, fill line 1, use 0; filling line 2 evicts 1": the victim is way 1, where line 1 was;
    -- then line 0 is in way 0, line 1 is absent (no way below 2 has it), and line 2 is in way 1
    ∷ record {
      at = world empty_queues two_filled;
      looked = λ w.
          let b = w.hierarchy in
          let c = fill_line 2 b in
          numbers (slot_of b 1 ∷ victim b 2 ∷ slot_of c 0 ∷ slot_of c 1 ∷ slot_of c 2 ∷ []);
      expected = numbers (1 ∷ 1 ∷ 0 ∷ 2 ∷ 1 ∷ []);
    }
    ∷ []

-- ---- 01's worked script

unfoldable pub script : List Call
script =
    store 4 1 7
    ∷ load 4 1
    ∷ load 5 1
    ∷ abort 3
    ∷ commit 2
    ∷ idle
    ∷ reply
    ∷ idle
    ∷ flush
    ∷ load 5 1
    ∷ []

-- ---- dropped stretches

pub record Stretch : Type 0 where
  pub from : World
  pub before : List Call
  -- what opens the stretch (of a plain one nothing, of a mark stretch the setting), its body, and its last call
  pub opens : List Call
  pub body : List Call
  pub ends : Call
  -- which of its calls are struck
  pub strikes : Call → Bool
  pub later : List Call

-- 01's: the body and then an abort naming n
abbrev pub plain : World → List Call → ℕ → List Call → List Call → Stretch
plain w before n body later =
    record { from = w; before = before; opens = []; body = body; ends = abort n; strikes = struck n; later = later }

abbrev pub stretch_of : Stretch → List Call
stretch_of s = s.opens ++ (s.body ++ s.ends ∷ [])

abbrev pub whole : Stretch → List Call
whole s = s.before ++ (stretch_of s ++ s.later)

-- which of its calls remain
abbrev pub stays : Stretch → List Bool
stays s = remaining s.strikes s.before (stretch_of s) s.later

-- the answers of the remaining calls in the whole run, and in the struck run; what each run leaves
abbrev pub seen_answers : Stretch → List Answer
seen_answers s = select (stays s) (answers (whole s) s.from)

abbrev pub struck_calls : Stretch → List Call
struck_calls s = select (stays s) (whole s)

abbrev pub struck_answers : Stretch → List Answer
struck_answers s = answers (struck_calls s) s.from

-- what a run leaves, in numbers: last, h, the first places of the queues, the ages of the first two slots, the first byte of memory
abbrev pub numbers_of : World → List ℕ
numbers_of w =
    w.queues.last
    ∷ w.queues.committed
    ∷ (get_or w.queues.stores 0 no_store).number
    ∷ (get_or w.queues.stores 0 no_store).address
    ∷ (get_or w.queues.loads 0 no_load).number
    ∷ (get_or w.queues.loads 1 no_load).number
    ∷ (tag_at w.hierarchy.tags 0).age
    ∷ (tag_at w.hierarchy.tags 1).age
    ∷ get_or w.hierarchy.memory 0 0
    ∷ []

abbrev pub seen_end : Stretch → List ℕ
seen_end s = numbers_of (after (whole s) s.from)

abbrev pub struck_end : Stretch → List ℕ
struck_end s = numbers_of (after (struck_calls s) s.from)

-- Line 0 is dirty, and line 1 is requested for the committed load 2. Then a load that waits, a held store, a refused call, and a
-- reply that evicts the dirty line.
unfoldable pub evicting : Stretch
evicting =
    plain dirty_requested (idle ∷ []) 3 (load 32 1 ∷ store 4 1 9 ∷ load 1 3 ∷ reply ∷ []) (show 16 ∷ [])

-- Lines 0 and 1 are present, line 1 used last; load 3 waits. Then a load of line 0, a store to it, an idle call, a store that
-- covers what load 3 waits for, and an inquiry about load 3.
unfoldable pub inquiring : Stretch
inquiring =
    plain two_present [] 4 (load 0 1 ∷ store 0 1 9 ∷ idle ∷ store 32 1 5 ∷ retry 3 ∷ commit 9 ∷ []) (show 0 ∷ [])

-- A load of an absent line, and an idle call.
unfoldable pub waiting_only : Stretch
waiting_only = plain (fresh 1 1 48) [] 1 (load 32 1 ∷ idle ∷ []) (idle ∷ [])

-- A store to a present line, and an idle call.
unfoldable pub draining : Stretch
draining = plain (world empty_queues two_filled) [] 1 (store 16 1 9 ∷ idle ∷ []) (show 16 ∷ [])

-- ---- runs beside flat memory

-- a start with one set and one way, its write policy, what it found, and a run after it
pub record Run : Type 0 where
  pub policy : WritePolicy
  pub found : List ℕ
  pub calls : List Call

-- the start found other bytes in the cache, which it zeroes
abbrev pub other_cache : List ℕ
other_cache = replicate 16 255

abbrev pub beginning : Run → World
beginning r = start_world (geometry r.policy 1 1) other_cache r.found

abbrev pub past : Run → History
past r = history_of no_history r.calls (beginning r)

-- what flat memory holds for the load that last took number i
abbrev pub flat_value : ℕ → Run → ℕ
flat_value i r = let h = past r in value_at (flat_before i h r.found) (load_of i h).address (load_of i h).width

-- two lines, in which byte a is a + 1
abbrev pub two_lines : List ℕ
two_lines = each_from (λ a x. a + 1) 0 (replicate 32 0)

-- Numbers 2 and 3 are dropped, a load and a store; number 2 is then a load of other bytes, one of them in store 1, and is answered
-- when its line has come.
unfoldable pub reusing : Run
reusing = record {
  policy = WriteBack;
  found = two_lines;
  calls =
      store 4 1 7 ∷ load 16 1 ∷ store 4 1 8 ∷ abort 2 ∷ load 4 2 ∷ commit 2 ∷ idle ∷ reply ∷ retry 2 ∷ [];
}

-- A younger store to the byte is accepted, and committed, before load 1 is answered; it is drained behind it.
unfoldable pub overtaken : WritePolicy → Run
overtaken p = record {
  policy = p;
  found = two_lines;
  calls = load 0 1 ∷ store 0 1 9 ∷ commit 2 ∷ idle ∷ reply ∷ idle ∷ retry 1 ∷ idle ∷ [];
}

-- Store 1 is drained to line 0, which line 1 evicts; store 3 is drained to line 1; store 4 is held, not committed; then a flush.
unfoldable pub evicted_flush : Run
evicted_flush = record {
  policy = WriteBack;
  found = two_lines;
  calls =
      store 0 1 9
      ∷ commit 1
      ∷ idle
      ∷ reply
      ∷ idle
      ∷ load 16 1
      ∷ commit 2
      ∷ idle
      ∷ reply
      ∷ retry 2
      ∷ store 16 1 5
      ∷ commit 3
      ∷ idle
      ∷ store 17 1 6
      ∷ flush
      ∷ [];
}

-- ---- the write policies (02, card 1): the same calls under each

-- one set of two ways over two lines; store 1, of the bytes 7 and 9 to line 1, is committed, and no line is present
abbrev pub store_misses : WritePolicy → World
store_misses p = record {
  queues = record {
    last = 1;
    committed = 1;
    request = Free;
    stores = record { number = 1; address = 22; width = 2; value = 2311 } ∷ replicate 15 no_store;
    loads = replicate 8 no_load;
    checkpoints = replicate 8 no_checkpoint;
  };
  hierarchy = (started (geometry p 1 2) two_lines).hierarchy;
}

-- the same with both lines present, line 0 used last
abbrev pub store_hits : WritePolicy → World
store_hits p = world (store_misses p).queues (use_line 0 (fill_line 1 (fill_line 0 (store_misses p).hierarchy)))

-- what an idle call answers and leaves: memory, the cache, the records of the two ways, the register
pub record AfterIdle : Type 0 where
  pub says : Answer
  pub memory : List ℕ
  pub cache : List ℕ
  pub records : List Tag
  pub request : Request

abbrev pub after_idle : World → AfterIdle
after_idle w =
    let v = next idle w in
    record {
      says = answer idle w;
      memory = v.hierarchy.memory;
      cache = v.hierarchy.cache;
      records = take 2 v.hierarchy.tags;
      request = v.queues.request;
    }

-- a store to an absent line; the line comes for a load; a store to the line; a flush
unfoldable pub writing_twice : WritePolicy → Run
writing_twice p = record {
  policy = p;
  found = two_lines;
  calls =
      store 5 1 7
      ∷ commit 1
      ∷ idle
      ∷ load 5 1
      ∷ commit 2
      ∷ idle
      ∷ reply
      ∷ retry 2
      ∷ store 6 1 8
      ∷ commit 3
      ∷ idle
      ∷ flush
      ∷ [];
}

-- line 0 is requested for the committed load 2 of byte 1; the older store 1, of 9 to byte 0, is committed
abbrev pub store_to_requested : WritePolicy → World
store_to_requested p = record {
  queues = record {
    last = 2;
    committed = 2;
    request = Line 0;
    stores = record { number = 1; address = 0; width = 1; value = 9 } ∷ replicate 15 no_store;
    loads = record { number = 2; address = 1; width = 1; waiting = true; forwarded = false } ∷ replicate 7 no_load;
    checkpoints = replicate 8 no_checkpoint;
  };
  hierarchy = (started (geometry p 1 1) two_lines).hierarchy;
}

-- line 0 with that store
abbrev pub stored_line : List ℕ
stored_line = 9 ∷ 2 ∷ 3 ∷ 4 ∷ 5 ∷ 6 ∷ 7 ∷ 8 ∷ 9 ∷ 10 ∷ 11 ∷ 12 ∷ 13 ∷ 14 ∷ 15 ∷ 16 ∷ []

-- With write-through: a load and a store are dropped, while the committed store is drained to its absent line.
unfoldable pub draining_through : Stretch
draining_through =
    plain (store_misses WriteThrough) [] 2 (load 0 1 ∷ store 22 1 3 ∷ idle ∷ idle ∷ reply ∷ [])
    (load 22 1 ∷ commit 2 ∷ idle ∷ reply ∷ show 16 ∷ [])

-- ---- dirty words (02, card 2)

-- one set of one way over two lines, line 0 present
abbrev pub line_present : World
line_present = world empty_queues (fill_line 0 (started (geometry WriteBack 1 1) two_lines).hierarchy)

-- the dirty marks of slot 0 after these calls
abbrev pub marks_after : List Call → ℕ
marks_after cs = (tag_at (after cs line_present).hierarchy.tags 0).dirty

-- and after one store of zeros, of so many bytes
abbrev pub mark_of : ℕ → ℕ → ℕ
mark_of a n = marks_after (store a n 0 ∷ commit 1 ∷ idle ∷ [])

-- a store of the byte that stands there
unfoldable pub same_byte : List Call
same_byte = store 4 1 5 ∷ commit 1 ∷ idle ∷ []

-- two stores to bytes 5 and 6, which are in word 1
unfoldable pub one_word : List Call
one_word = store 5 1 90 ∷ store 6 1 91 ∷ commit 2 ∷ idle ∷ idle ∷ []

-- two stores to bytes 11 and 12, which are in words 2 and 3
unfoldable pub two_words : List Call
two_words = store 11 1 90 ∷ store 12 1 91 ∷ commit 2 ∷ idle ∷ idle ∷ []

-- a store to each word
unfoldable pub four_words : List Call
four_words =
    store 0 4 0 ∷ store 6 2 0 ∷ store 8 1 0 ∷ store 15 1 0 ∷ commit 4 ∷ idle ∷ idle ∷ idle ∷ idle ∷ []

-- a store to word 1; then line 1 comes for a load, and line 0 is evicted
unfoldable pub evicted_word : List Call
evicted_word = store 6 2 0 ∷ load 16 1 ∷ commit 2 ∷ idle ∷ idle ∷ reply ∷ []

-- lines 0 and 1 in the two ways of one set; a store to word 0 and one to word 3 of line 0, and one to word 1 of line 1
abbrev pub both_present : World
both_present = world empty_queues (fill_line 1 (fill_line 0 (started (geometry WriteBack 1 2) two_lines).hierarchy))

unfoldable pub three_words : List Call
three_words = store 0 4 0 ∷ store 15 1 0 ∷ store 22 2 0 ∷ commit 3 ∷ idle ∷ idle ∷ idle ∷ flush ∷ []

-- Line 1 in slot 0 with words 1 and 3 dirty, and no byte of the cache equal to memory's. (It is not well formed: a clean word differs.)
abbrev pub all_differ : Hierarchy
all_differ = record {
  figures = geometry WriteBack 1 1;
  size = 32;
  tags = record { valid = true; dirty = 10; line = 1; age = 0 } ∷ [];
  cache = replicate 16 200;
  memory = two_lines;
}

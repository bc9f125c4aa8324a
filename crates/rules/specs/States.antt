-- States that show what well-formed asks: rich ones that keep every clause, and for each clause one or two that break it.
use Rattle.std.specs.Prelude.{ℕ, ◌+◌, Bool, true, false, cond, ◌&&◌, List, [], ◌∷◌, ◌++◌, ltb, leb, set, replicate}
use Rattle.lists.specs.Counted.{each_from}
use Rattle.rules.specs.declared.Tag.{Tag}
use Rattle.rules.specs.declared.StoreEntry.{StoreEntry}
use Rattle.rules.specs.declared.LoadEntry.{LoadEntry}
use Rattle.rules.specs.declared.Checkpoint.{Checkpoint}
use Rattle.rules.specs.declared.Request.{Request}
use Rattle.rules.specs.declared.Request.TheVariants.{Line}
use Rattle.rules.specs.declared.WritePolicy.{WritePolicy}
use Rattle.rules.specs.declared.WritePolicy.TheVariants.{WriteBack, WriteThrough}
use Rattle.rules.specs.Shape.{Queues, Hierarchy, World, geometry, no_store, no_load, no_checkpoint, no_tag}
use Rattle.rules.specs.WellFormed.{line_clauses, queue_clauses, checkpoint_clauses}

-- ---- building a state

abbrev pub tag : Bool → ℕ → ℕ → ℕ → Tag
tag v d l a = record { valid = v; dirty = d; line = l; age = a }

abbrev pub held_at : ℕ → ℕ → ℕ → ℕ → StoreEntry
held_at i a w v = record { number = i; address = a; width = w; value = v }

abbrev pub waiting_load : ℕ → ℕ → ℕ → LoadEntry
waiting_load i a w = record { number = i; address = a; width = w; waiting = true; forwarded = false }

abbrev pub answered_load : ℕ → ℕ → ℕ → LoadEntry
answered_load i a w = record { number = i; address = a; width = w; waiting = false; forwarded = false }

-- (02, card 6) answered, each byte by a held store
abbrev pub forwarded_load : ℕ → ℕ → ℕ → LoadEntry
forwarded_load i a w = record { number = i; address = a; width = w; waiting = false; forwarded = true }

-- two sets of two ways over six lines of memory, in which byte a is a + 1
abbrev lines_by : WritePolicy → List Tag → List ℕ → Hierarchy
lines_by p tags cache = record {
  figures = geometry p 2 2;
  size = 96;
  tags = tags;
  cache = cache;
  memory = each_from (λ a x. a + 1) 0 (replicate 96 0);
}

abbrev lines : List Tag → List ℕ → Hierarchy
lines tags cache = lines_by WriteBack tags cache

-- a mark (02, card 3) of name x, which remembers n and has rank r
abbrev pub checkpoint_of : ℕ → ℕ → ℕ → Checkpoint
checkpoint_of x n r = record { name = x; number = n; rank = r }

-- last, h, the register, the stores, the loads and the marks
abbrev pub queues_with : List Checkpoint → ℕ → ℕ → Request → List StoreEntry → List LoadEntry → Queues
queues_with cs last h r ss ls =
    record { last = last; committed = h; request = r; stores = ss; loads = ls; checkpoints = cs }

-- no mark is in force
abbrev pub queues : ℕ → ℕ → Request → List StoreEntry → List LoadEntry → Queues
queues = queues_with (replicate 8 no_checkpoint)

-- four marks, in order of setting: the first right above h, two at one number, the last at last + 1
unfoldable pub rich_checkpoints : List Checkpoint
rich_checkpoints = checkpoint_of 3 5 1 ∷ checkpoint_of 1 7 2 ∷ checkpoint_of 8 7 3 ∷ checkpoint_of 2 8 4 ∷ replicate 4 no_checkpoint

-- ---- the rich state

-- set 0: line 0 clean, words 1 and 2 of line 2 dirty; set 1: line 1 clean, the other way invalid
unfoldable pub rich_tags : List Tag
rich_tags =
    tag true 0 0 1
    ∷ tag true 6 2 0
    ∷ tag true 0 1 0
    ∷ tag false 0 0 1
    ∷ replicate 252 no_tag

-- each line as in memory, but for 200 in the dirty words
unfoldable pub rich_cache : List ℕ
rich_cache =
    each_from (λ j x. j + 1) 0 (replicate 16 0)
    ++ (each_from (λ j x. cond (leb 4 j && ltb j 12) 200 (j + 33)) 0 (replicate 16 0)
    ++ (each_from (λ j x. j + 17) 0 (replicate 16 0) ++ replicate 16 0))

-- store 2 is committed, store 5 is not
unfoldable pub rich_stores : List StoreEntry
rich_stores = held_at 2 48 4 77 ∷ held_at 5 4 1 9 ∷ replicate 14 no_store

-- load 3 is committed and waits for line 4, which is requested; load 6 was answered by store 5, load 7 waits
unfoldable pub rich_loads : List LoadEntry
rich_loads = waiting_load 3 64 2 ∷ forwarded_load 6 4 1 ∷ waiting_load 7 80 4 ∷ replicate 5 no_load

abbrev pub rich_lines : Hierarchy
rich_lines = lines rich_tags rich_cache

abbrev pub rich_queues : Queues
rich_queues = queues_with rich_checkpoints 7 4 (Line 4) rich_stores rich_loads

-- the same lines with none dirty, as write-through has them: the way of line 2 is invalid
unfoldable pub clean_tags : List Tag
clean_tags = set rich_tags 1 (tag false 0 0 0)

unfoldable pub clean_cache : List ℕ
clean_cache =
    each_from (λ j x. j + 1) 0 (replicate 16 0)
    ++ (replicate 16 0 ++ (each_from (λ j x. j + 17) 0 (replicate 16 0) ++ replicate 16 0))

abbrev pub clean_lines : WritePolicy → Hierarchy
clean_lines p = lines_by p clean_tags clean_cache

-- line 3 is requested for store 2, which is the oldest
abbrev pub requested_by_store : Queues
requested_by_store = queues 7 4 (Line 3) rich_stores rich_loads

-- ---- a state for each clause, and two for some

-- its clauses, those of the lines first
abbrev pub clauses : World → List Bool
clauses w =
    line_clauses w.hierarchy
    ++ (queue_clauses w.queues w.hierarchy
    ++ checkpoint_clauses w.queues.committed w.queues.last w.queues.checkpoints)

abbrev with_lines : Hierarchy → World
with_lines b = record { queues = rich_queues; hierarchy = b }

abbrev with_queues : Queues → World
with_queues q = record { queues = q; hierarchy = rich_lines }

abbrev with_checkpoints : List Checkpoint → World
with_checkpoints cs = with_queues (queues_with cs 7 4 (Line 4) rich_stores rich_loads)

-- slot k has another record
abbrev slot_has : ℕ → Tag → World
slot_has k t = with_lines (lines (set rich_tags k t) rich_cache)

-- In the order of the clauses. (Whoever wants a requested line has a listed access, which lies in memory: so a request
-- outside memory breaks the clause on wanting too, if listed accesses pass.)
unfoldable pub broken : List World
broken =
    -- a record too many
    with_lines (lines (rich_tags ++ no_tag ∷ []) rich_cache)
    -- an unused record with an age
    ∷ slot_has 200 (tag false 0 0 1)
    -- an age twice
    ∷ slot_has 3 (tag false 0 0 0)
    -- a line outside memory
    ∷ slot_has 2 (tag true 15 7 0)
    -- a line of set 0 in set 1
    ∷ slot_has 2 (tag true 15 4 0)
    -- a line twice
    ∷ slot_has 0 (tag true 15 2 1)
    -- an invalid record that is dirty
    ∷ slot_has 3 (tag false 1 0 1)
    -- an invalid record with a line
    ∷ slot_has 3 (tag false 0 1 1)
    -- an invalid record with a byte
    ∷ with_lines (lines rich_tags (set rich_cache 50 1))
    -- a clean line that differs from memory
    ∷ with_lines (lines rich_tags (set rich_cache 0 0))
    -- a clean word that differs from memory, in its last byte, in a line with dirty words
    ∷ with_lines (lines rich_tags (set rich_cache 19 0))
    -- a dirty line with write-through
    ∷ with_lines (lines_by WriteThrough rich_tags rich_cache)
    -- a fifth mark, and an eighth
    ∷ slot_has 1 (tag true 22 2 0)
    ∷ slot_has 1 (tag true 134 2 0)
    -- a place too many
    ∷ with_queues (queues 7 4 (Line 4) (rich_stores ++ no_store ∷ []) rich_loads)
    -- a free place with an address
    ∷ with_queues (queues 7 4 (Line 4) (set rich_stores 9 (held_at 0 4 0 0)) rich_loads)
    -- a free place that is forwarded
    ∷ with_queues (queues 7 4 (Line 4) rich_stores (set rich_loads 5 (forwarded_load 0 0 0)))
    -- a free place before an entry
    ∷ with_queues (queues 7 4 (Line 4) (held_at 2 48 4 77 ∷ no_store ∷ held_at 5 4 1 9 ∷ replicate 13 no_store) rich_loads)
    -- a last number of 33 bits
    ∷ with_queues (queues 4294967296 4 (Line 4) rich_stores rich_loads)
    -- h above last
    ∷ with_queues (queues 7 8 (Line 4) rich_stores (waiting_load 3 64 2 ∷ waiting_load 7 80 4 ∷ replicate 6 no_load))
    -- a number that falls
    ∷ with_queues (queues 7 4 (Line 4) (held_at 5 4 1 9 ∷ held_at 2 48 4 77 ∷ replicate 14 no_store) rich_loads)
    -- a number above last
    ∷ with_queues (queues 6 4 (Line 4) rich_stores rich_loads)
    -- a number in both lists
    ∷ with_queues (queues 7 4 (Line 4) (set rich_stores 1 (held_at 6 4 1 9)) rich_loads)
    -- an address that is no multiple of its width
    ∷ with_queues (queues 7 4 (Line 4) (set rich_stores 1 (held_at 5 5 2 9)) rich_loads)
    -- an answered load at h
    ∷ with_queues (queues 7 6 (Line 4) rich_stores rich_loads)
    -- a waiting load that an older store covers
    ∷ with_queues (queues 7 4 (Line 4) (set rich_stores 0 (held_at 2 64 4 77)) rich_loads)
    -- a waiting load that is forwarded
    ∷ with_queues
    (queues 7 4 (Line 4) rich_stores
    (set rich_loads 2 (record { number = 7; address = 80; width = 4; waiting = true; forwarded = true })))
    -- a requested line that is present
    ∷ with_queues (queues 7 4 (Line 2) rich_stores (set rich_loads 0 (waiting_load 3 32 2)))
    -- a requested line outside memory, which nobody wants
    ∷ with_queues (queues 7 4 (Line 7) rich_stores rich_loads)
    -- a requested line that only an uncommitted load wants
    ∷ with_queues (queues 7 4 (Line 5) rich_stores rich_loads)
    -- with write-through, a requested line that only the oldest store wants
    ∷ record { queues = requested_by_store; hierarchy = clean_lines WriteThrough }
    -- a place too many
    ∷ with_checkpoints (rich_checkpoints ++ no_checkpoint ∷ [])
    -- a free place with a name, and one with a rank
    ∷ with_checkpoints (set rich_checkpoints 5 (checkpoint_of 4 0 0))
    ∷ with_checkpoints (set rich_checkpoints 4 (checkpoint_of 0 0 5))
    -- a free place before a mark
    ∷ with_checkpoints (checkpoint_of 3 5 1 ∷ no_checkpoint ∷ checkpoint_of 1 7 3 ∷ replicate 5 no_checkpoint)
    -- a mark at h, a mark above last + 1
    ∷ with_checkpoints (set rich_checkpoints 0 (checkpoint_of 3 4 1))
    ∷ with_checkpoints (set rich_checkpoints 3 (checkpoint_of 2 9 4))
    -- a number that falls
    ∷ with_checkpoints (set rich_checkpoints 1 (checkpoint_of 1 8 2))
    -- a mark of name 0, and of name 9
    ∷ with_checkpoints (set rich_checkpoints 3 (checkpoint_of 0 8 4))
    ∷ with_checkpoints (set rich_checkpoints 3 (checkpoint_of 9 8 4))
    -- a name twice
    ∷ with_checkpoints (set rich_checkpoints 3 (checkpoint_of 3 8 4))
    -- a rank left out, and ranks from 0
    ∷ with_checkpoints (set rich_checkpoints 3 (checkpoint_of 2 8 5))
    ∷ with_checkpoints (checkpoint_of 3 5 0 ∷ checkpoint_of 1 7 1 ∷ replicate 6 no_checkpoint)
    ∷ []

-- all of the clauses but number i
abbrev pub all_but : ℕ → List Bool
all_but i = set (replicate 35 true) i false

unfoldable pub broken_clauses : List (List Bool)
broken_clauses =
    all_but 0 ∷ all_but 1 ∷ all_but 2 ∷ all_but 3 ∷ all_but 4 ∷ all_but 5 ∷ all_but 6 ∷ all_but 7 ∷ all_but 8 ∷ all_but 9 ∷ all_but 9
    ∷ all_but 10 ∷ all_but 11 ∷ all_but 11 ∷ all_but 12 ∷ all_but 13 ∷ all_but 13 ∷ all_but 14 ∷ all_but 15 ∷ all_but 16 ∷ all_but 17 ∷ all_but 18
    ∷ all_but 19 ∷ all_but 20 ∷ all_but 21 ∷ all_but 22 ∷ all_but 23 ∷ all_but 24 ∷ set (all_but 25) 26 false ∷ all_but 26 ∷ all_but 26 ∷ all_but 27
    ∷ all_but 28 ∷ all_but 28 ∷ all_but 29 ∷ all_but 30 ∷ all_but 30 ∷ all_but 31 ∷ all_but 32 ∷ all_but 32 ∷ all_but 33 ∷ all_but 34
    ∷ all_but 34 ∷ []

-- Flat memory: of a state, and after a start; the stores, the loads and the commits of a run, read off the run itself.
use Rattle.std.specs.Prelude.{ℕ, ◌+◌, ◌%◌, Bool, true, false, cond, not, List, [], ◌∷◌, ◌++◌, ltb, leb, eqb, get_or}
use Rattle.lists.specs.Padded.{first, filter}
use Rattle.lists.specs.Counted.{each_from}
use Rattle.lists.specs.Bytes.{put}
use Rattle.rules.specs.declared.StoreEntry.{StoreEntry}
use Rattle.rules.specs.declared.LoadEntry.{LoadEntry}
use Rattle.rules.specs.Shape.{Hierarchy, World, line_bytes, no_load, is_free_store, line_of}
use Rattle.rules.specs.Lines.{present, place_of}
use Rattle.rules.specs.Calls.{Call, Answer, load, store, retry, commit, abort, idle, reply, flush, show, checkpoint, restore, preview, refused, stored, value, waits, waits_requested, committed, kept, drained, requested, idled, filled, flushed, shown, checkpointed, previewed, is_accepted}
use Rattle.rules.specs.Runs.{answers}

-- ---- flat memory of a given state

-- "Flat memory of a given state is memory overlaid with the bytes of its valid lines." (of a well-formed one: a valid line is
-- looked for in its own set)
unfoldable pub flat_byte : Hierarchy → ℕ → ℕ
flat_byte b a =
    cond (present b (line_of a)) (get_or b.cache (place_of b a + a % line_bytes) 0) (get_or b.memory a 0)

abbrev pub flat_of : Hierarchy → List ℕ
flat_of b = each_from (λ a x. flat_byte b a) 0 b.memory

-- ---- stores, applied whole

-- a store, applied whole
unfoldable pub applied : StoreEntry → List ℕ → List ℕ
applied s m = put s.width s.address s.value m

-- stores, applied one after the other
unfoldable pub applied_all : List StoreEntry → List ℕ → List ℕ
applied_all [] m = m
applied_all (s ∷ ss) m = applied_all ss (applied s m)

-- the held stores, oldest first
abbrev pub held_store : StoreEntry → Bool
held_store s = not (is_free_store s)

abbrev pub held_stores : World → List StoreEntry
held_stores w = filter held_store w.queues.stores

-- flat memory of a world with its held stores on top, in number order
abbrev pub flat_with_held : World → List ℕ
flat_with_held w = applied_all (held_stores w) (flat_of w.hierarchy)

-- ---- the history of a run, from its calls and answers alone

pub record History : Type 0 where
  -- the accepted stores that no accepted abort or return has dropped, in number order
  pub stores : List StoreEntry
  -- the accepted loads, the latest first: number, address and width
  pub loads : List LoadEntry
  -- the number of the last accepted commit
  pub committed : ℕ

abbrev pub no_history : History
no_history = record { stores = []; loads = []; committed = 0 }

-- the operation number that an answer names, and of an abort or a return the last one kept; 0 where there is none that is asked for
abbrev pub number_in : Answer → ℕ
number_in (refused k) = 0
number_in (stored i) = i
number_in (value i v) = i
number_in (waits i) = i
number_in (waits_requested i) = i
number_in (committed k) = 0
number_in (kept k) = k
number_in (drained i) = i
number_in (requested a) = 0
number_in idled = 0
number_in (filled a) = 0
number_in (flushed k) = 0
number_in (shown p bs) = 0
number_in (checkpointed n) = n
number_in (previewed p) = 0

-- a store numbered below i; a store numbered h or less
abbrev pub below : ℕ → StoreEntry → Bool
below i s = ltb s.number i

abbrev pub up_to : ℕ → StoreEntry → Bool
up_to h s = leb s.number h

-- what an accepted call adds or drops
unfoldable pub added : Call → Answer → History → History
added (load a w) r h = record {
  stores = h.stores;
  loads = record { number = number_in r; address = a; width = w; waiting = true; forwarded = false } ∷ h.loads;
  committed = h.committed;
}
added (store a w v) r h = record {
  stores = h.stores ++ record { number = number_in r; address = a; width = w; value = v } ∷ [];
  loads = h.loads;
  committed = h.committed;
}
added (retry i) r h = h
added (commit k) r h = record { stores = h.stores; loads = h.loads; committed = k }
added (abort n) r h = record { stores = filter (below n) h.stores; loads = h.loads; committed = h.committed }
added idle r h = h
added reply r h = h
added flush r h = h
added (show a) r h = h
added (checkpoint x) r h = h
-- 02, card 3: as an abort at the mark's number, which is one above the number kept
added (restore x) r h =
    record { stores = filter (below (number_in r + 1)) h.stores; loads = h.loads; committed = h.committed }
added preview r h = h

unfoldable pub noted : Call → Answer → History → History
noted c r h = cond (is_accepted r) (added c r h) h

-- the history of calls with their answers, after this history
unfoldable pub history : List Call → List Answer → History → History
history [] rs h = h
history (c ∷ cs) [] h = h
history (c ∷ cs) (r ∷ rs) h = history cs rs (noted c r h)

-- the history of a run from w on, after this history
abbrev pub history_of : History → List Call → World → History
history_of before run w = history run (answers run w) before

-- the load that last took number i
abbrev pub load_of : ℕ → History → LoadEntry
load_of i h = first (λ l. eqb l.number i) no_load h.loads

-- ---- flat memory after a start

-- "Flat memory after a start is memory as the start found it, changed only by the stores named, each applied whole in number order."
-- At operation i the stores named are the older ones that no abort or return has dropped;
abbrev pub flat_before : ℕ → History → List ℕ → List ℕ
flat_before i h found = applied_all (filter (below i) h.stores) found

-- at a flush they are the committed ones.
abbrev pub flat_committed : History → List ℕ → List ℕ
flat_committed h found = applied_all (filter (up_to h.committed) h.stores) found

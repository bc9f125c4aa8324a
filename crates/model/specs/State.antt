-- The state as a struct, beside the two halves of the rules; answers and calls of the code as those of the rules.
use Rattle.std.specs.Prelude.{ℕ, ◌+◌, ◌*◌, ◌-◌, ◌%◌, ◌<◌, ◌≤◌, ◌≡◌, true, cond, not, List, [], ◌∷◌, get_or, replicate, Result, ⊤}
use Rattle.lists.specs.Counted.{each_from}
use Rattle.lists.specs.Padded.{any, first}
use Rattle.rules.specs.declared.Figures.{Figures}
use Rattle.rules.specs.declared.Tag.{Tag}
use Rattle.rules.specs.declared.StoreEntry.{StoreEntry}
use Rattle.rules.specs.declared.Checkpoint.{Checkpoint as Mark}
use Rattle.rules.specs.declared.Request.TheVariants.{Free}
use Rattle.rules.specs.Shape.{Queues, Hierarchy, World, world, table_size, store_places, load_places, checkpoint_places, no_store, no_load, no_checkpoint, no_tag, no_figures, is_free_store}
use Rattle.rules.specs.Calls.{Outcome, waiting_at, guarded}
use Rattle.rules.specs.Calls as rules
use Rattle.rules.specs.WellFormed.{well_formed}
use Rattle.rules.specs.Runs.{state_checks, outcome}
use Rattle.rules.specs.RefusalNumbers.{found_by}
use Rattle.records.specs.Records.{has_room, preview_given}
use Rattle.line_bytes.specs.Writes.{DirtyInside}
use Rattle.model.specs.declared.State.{State}
use Rattle.model.specs.declared.Step.{Step}
use Rattle.model.specs.declared.Call.{Call}
use Rattle.model.specs.declared.Call.TheVariants.{Load, Store, Retry, Commit, Abort, Idle, Reply, Flush, Show, Checkpoint, Restore, Preview}
use Rattle.model.specs.declared.Answer.{Answer}
use Rattle.model.specs.declared.Answer.TheVariants.{Refused, Stored, Value, Waits, WaitsRequested, Committed, Kept, Drained, Requested, Idled, Filled, Flushed, Shown, Checkpointed, Previewed}

-- ---- the state

abbrev pub queues_of : State → Queues
queues_of s = record {
  last = s.last;
  committed = s.committed;
  request = s.request;
  stores = s.stores;
  loads = s.loads;
  checkpoints = s.checkpoints;
}

abbrev pub hierarchy_of : State → List ℕ → List ℕ → Hierarchy
hierarchy_of s cache memory = record {
  figures = s.figures;
  size = s.size;
  tags = s.tags;
  cache = cache;
  memory = memory;
}

abbrev pub world_of : State → List ℕ → List ℕ → World
world_of s cache memory = world (queues_of s) (hierarchy_of s cache memory)

-- the state is well formed, with this cache and this memory
abbrev pub Formed : State → List ℕ → List ℕ → Type 0
Formed s cache memory = well_formed (queues_of s) (hierarchy_of s cache memory) ≡ true

-- the state that is all zero
abbrev pub no_state : State
no_state = record {
  figures = no_figures;
  size = 0;
  last = 0;
  committed = 0;
  request = Free;
  stores = replicate store_places no_store;
  loads = replicate load_places no_load;
  checkpoints = replicate checkpoint_places no_checkpoint;
  tags = replicate table_size no_tag;
}

-- ---- answers, with 01's numbers and values for each case

-- n bytes of the cache from place p on. (Behind its end there are none: 0 stands for each, so that the bytes tell the length.)
unfoldable pub bytes_from : ℕ → ℕ → List ℕ → List ℕ
bytes_from p n cache = each_from (λ i x. get_or cache (p + i) 0) 0 (replicate n 0)

-- the part of the lent cache that show line gives stands beside its place
abbrev pub answer_of : Answer → List ℕ → rules.Answer
answer_of (Refused k) cache = rules.refused k
answer_of (Stored i) cache = rules.stored i
answer_of (Value i v) cache = rules.value i v
answer_of (Waits i) cache = rules.waits i
answer_of (WaitsRequested i) cache = rules.waits_requested i
answer_of (Committed k) cache = rules.committed k
answer_of (Kept k) cache = rules.kept k
answer_of (Drained i) cache = rules.drained i
answer_of (Requested a) cache = rules.requested a
answer_of Idled cache = rules.idled
answer_of (Filled a) cache = rules.filled a
answer_of (Flushed k) cache = rules.flushed k
answer_of (Shown p n) cache = rules.shown p (bytes_from p n cache)
answer_of (Checkpointed n) cache = rules.checkpointed n
answer_of (Previewed p) cache = rules.previewed (preview_given p)

-- what a call hands back, with the cache and the memory that it leaves
abbrev pub outcome_of : Step → List ℕ → List ℕ → Outcome
outcome_of r cache memory =
    record { answer = answer_of r.answer cache; queues = queues_of r.next; hierarchy = hierarchy_of r.next cache memory }

-- ---- calls

-- the call c of the rules, made on w: it handed back r and left this cache and this memory
abbrev pub Does : rules.Call → World → Step → List ℕ → List ℕ → Type 0
Does c w r cache memory = outcome_of r cache memory ≡ outcome c w.queues w.hierarchy

-- the same on a state that is well formed with this cache and some memory, which the call leaves as they were
abbrev pub DoesWith : rules.Call → State → Step → List ℕ → Type 0
DoesWith c s r cache = (memory : List ℕ) → Formed s cache memory → Does c (world_of s cache memory) r cache memory

-- what an abort and a return share: everything numbered n or more is dropped, and `left` are the checkpoints that stay, whatever change of
-- them that is
abbrev pub Squashes : State → ℕ → List Mark → Step → Type 0
Squashes s n left r =
    (forget : List Mark → List Mark) (cache memory : List ℕ) → left ≡ forget s.checkpoints
    → outcome_of r cache memory
    ≡ record { answer = rules.kept (n - 1); queues = rules.squash forget n (queues_of s); hierarchy = hierarchy_of s cache memory }

abbrev pub call_of : Call → rules.Call
call_of (Load a w) = rules.load a w
call_of (Store a w v) = rules.store a w v
call_of (Retry i) = rules.retry i
call_of (Commit k) = rules.commit k
call_of (Abort n) = rules.abort n
call_of Idle = rules.idle
call_of Reply = rules.reply
call_of Flush = rules.flush
call_of (Show a) = rules.show a
call_of (Checkpoint x) = rules.checkpoint x
call_of (Restore x) = rules.restore x
call_of Preview = rules.preview

-- ---- checks 1 and 10: nothing, or the refusal's number

abbrev pub checked_state : Queues → Hierarchy → Result ⊤ ℕ
checked_state q b = found_by (state_checks q b) tt

-- ---- what check 1 and the access checks leave to the functions behind them

pub record Shaped (s : State) (cache_length : ℕ) : Type 0 where
  pub some-set : 0 < s.figures.sets
  pub some-way : 0 < s.figures.ways
  pub room : s.figures.sets * s.figures.ways ≤ 256
  pub cache-long : cache_length ≡ s.figures.sets * s.figures.ways * 16

-- what is left to the writing of a store
pub record Writable (g : Figures) (e : StoreEntry) (cache_length : ℕ) : Type 0 where
  pub some-set : 0 < g.sets
  pub some-way : 0 < g.ways
  pub room : g.sets * g.ways ≤ 256
  pub cache-long : cache_length ≡ g.sets * g.ways * 16
  pub narrow : e.width ≤ 4
  pub one_line : e.address % 16 + e.width ≤ 16

-- an access lies in one line of memory
pub record InOneLine (a w : ℕ) : Type 0 where
  pub some_byte : 0 < w
  pub narrow : w ≤ 4
  pub one_line : a % 16 + w ≤ 16
  pub inside : a + w ≤ 65536

-- what is left to the calls that only read the lent bytes
pub record Sound (s : State) (cache_length : ℕ) : Type 0 where
  pub shaped : Shaped s cache_length
  pub small : s.size ≤ 65536
  pub waiting : (i : ℕ) → any (waiting_at i) s.loads ≡ true → InOneLine (first (waiting_at i) no_load s.loads).address (first (waiting_at i) no_load s.loads).width

-- what is left to the fill of line l
pub record Fillable (g : Figures) (tags : List Tag) (l cache_length memory_length : ℕ) : Type 0 where
  pub room : has_room g ≡ true
  pub cache-long : cache_length ≡ g.sets * g.ways * 16
  pub inside : 16 * l + 16 ≤ memory_length
  pub low : l < 4096
  pub dirty-lines : DirtyInside tags 256 memory_length

-- what is left to a flush
pub record Flushable (g : Figures) (tags : List Tag) (cache_length memory_length : ℕ) : Type 0 where
  pub room : g.sets * g.ways ≤ 256
  pub cache-long : cache_length ≡ g.sets * g.ways * 16
  pub dirty-lines : DirtyInside tags (g.sets * g.ways) memory_length

-- ---- what follows the access checks of a store: checks 5, 13 and 11, then the rule

unfoldable pub store_rest : ℕ → ℕ → ℕ → Queues → Hierarchy → Outcome
store_rest a w v q b =
    guarded (rules.value_check w v ∷ rules.number_check q ∷ rules.check 11 (not (any is_free_store q.stores)) ∷ [])
    (λ k. rules.unchanged (rules.refused k) q b) (rules.store_rule a w v q b)

-- ---- idle, where nothing drains: (b), (c) and (d)

unfoldable pub idle_request : Queues → Hierarchy → Outcome
idle_request q b =
    cond (rules.can_request_load q b) (rules.request_line (rules.lowest_wanting q b).address q b)
    (cond (rules.can_request_store q b) (rules.request_line (rules.oldest_store q).address q b) (rules.unchanged rules.idled q b))

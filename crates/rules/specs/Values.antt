-- Demand 2, through flat memory and not through the rules' own load value: each value is right at its time, when a load waits, what a
-- flush leaves and counts, and what each call does to flat memory of a state.
use Rattle.std.specs.Prelude.{ℕ, ◌*◌, ◌/◌, ◌%◌, ◌≡◌, Bool, true, false, List, [], ◌∷◌, ◌++◌, ◌⊎◌}
use Rattle.lists.specs.Padded.{first, filter, increasing}
use Rattle.lists.specs.Counted.{some_from, count_from}
use Rattle.lists.specs.Bytes.{value_at}
use Rattle.rules.specs.declared.Figures.{Figures}
use Rattle.rules.specs.declared.LoadEntry.{LoadEntry}
use Rattle.rules.specs.Shape.{Hierarchy, World, line_words, no_load, slots, tag_at}
use Rattle.rules.specs.Lines.{dirty_word, dirty_words}
use Rattle.rules.specs.Forward.{lacking}
use Rattle.rules.specs.Checkpoints.{number_of}
use Rattle.rules.specs.Calls.{Call, Answer, load, store, retry, commit, abort, idle, reply, flush, show, checkpoint, restore, preview, value, waits, waits_requested, flushed, is_accepted, waiting_at, next_number}
use Rattle.rules.specs.Runs.{answer, next, after, start_world, start_answer, ready}
use Rattle.rules.specs.Kept.{Formed, EachCall}
use Rattle.rules.specs.Flat.{History, no_history, history_of, load_of, below, flat_of, applied, applied_all, held_stores, flat_with_held, flat_before, flat_committed}

-- ---- runs

-- what a given state holds, as the history of a run that begins there
abbrev pub history_at : World → History
history_at w = record { stores = held_stores w; loads = w.queues.loads; committed = w.queues.committed }

-- a claim about every run from w on: what was found there, the history before it, and the run
abbrev pub Claim : Type 1
Claim = List ℕ → History → World → List Call → Type 0

-- the claim of every run after a start, whatever memory the start found
abbrev pub AfterStart : Claim → Figures → List ℕ → List ℕ → Type 0
AfterStart claim f cache memory =
    start_answer f cache memory ≡ ready → (run : List Call) → claim memory no_history (start_world f cache memory) run

-- the claim of every run from a well-formed state on, with its flat memory as what was found and what it holds as the history
abbrev pub FromState : Claim → World → Type 0
FromState claim w = Formed w → (run : List Call) → claim (flat_of w.hierarchy) (history_at w) w run

-- ---- every load value is right, at its time

-- the call asks, as operation i, for the bytes of the load l: a load for its own, an inquiry about i; no other call answers a value
abbrev pub AsksFor : Call → ℕ → LoadEntry → Type 0
AsksFor (load a n) i l = (l.address ≡ a) × (l.width ≡ n)
AsksFor (store a n v) i l = ⊥
AsksFor (retry j) i l = j ≡ i
AsksFor (commit k) i l = ⊥
AsksFor (abort n) i l = ⊥
AsksFor idle i l = ⊥
AsksFor reply i l = ⊥
AsksFor flush i l = ⊥
AsksFor (show a) i l = ⊥
AsksFor (checkpoint x) i l = ⊥
AsksFor (restore x) i l = ⊥
AsksFor preview i l = ⊥

-- the value v that a call answers as operation i, when h is the history up to the call and with it
pub record RightValue (found : List ℕ) (h : History) (c : Call) (i v : ℕ) : Type 0 where
  -- it is asked of the latest accepted load numbered i
  pub numbered : (load_of i h).number ≡ i
  pub asked : AsksFor c i (load_of i h)
  -- it is what flat memory holds there, after the stores numbered below i that no abort or return has dropped by then,
  pub holds : v ≡ value_at (flat_before i h found) (load_of i h).address (load_of i h).width
  -- which stand in number order
  pub ordered : increasing (λ s. s.number) 0 h.stores ≡ true

-- every value that a call of the run answers
abbrev pub ValuesRight : Claim
ValuesRight found h w run =
    EachCall (λ before c. (i v : ℕ) → answer c (after before w) ≡ value i v → RightValue found (history_of h (before ++ c ∷ []) w) c i v) run

-- ---- a load waits exactly if a byte is lacking, at its time

-- some of the n bytes from a on is in no held store numbered below i, and its line is absent
abbrev pub lacks_byte : ℕ → World → ℕ → ℕ → Bool
lacks_byte i w a n = some_from (lacking i w.queues.stores w.hierarchy) a n

-- 02, card 4: "Demand 2's 'waits' now means either word."
abbrev pub IsWait : ℕ → Answer → Type 0
IsWait i r = (r ≡ waits i) ⊎ (r ≡ waits_requested i)

abbrev pub IsValue : ℕ → Answer → Type 0
IsValue i r = (v : ℕ) × (r ≡ value i v)

-- the answer r of operation i, a load of the n bytes from a on that finds w
pub record WaitsExactly (i a n : ℕ) (w : World) (r : Answer) : Type 0 where
  pub only : (j : ℕ) → IsWait j r → lacks_byte i w a n ≡ true
  pub whenever : lacks_byte i w a n ≡ true → IsWait i r
  -- else it is a value
  pub otherwise : lacks_byte i w a n ≡ false → IsValue i r

-- an accepted load
abbrev pub LoadWaits : ℕ → ℕ → World → Type 0
LoadWaits a n w = is_accepted (answer (load a n) w) ≡ true → WaitsExactly (next_number w.queues) a n w (answer (load a n) w)

-- the waiting load of number i
abbrev pub waiting_load : ℕ → World → LoadEntry
waiting_load i w = first (waiting_at i) no_load w.queues.loads

-- an accepted inquiry, about the waiting load of that number
abbrev pub RetryWaits : ℕ → World → Type 0
RetryWaits i w =
    is_accepted (answer (retry i) w) ≡ true → WaitsExactly i (waiting_load i w).address (waiting_load i w).width w (answer (retry i) w)

-- in a run that load is the latest accepted one numbered i
pub record InquiryAbout (h : History) (i : ℕ) (w : World) : Type 0 where
  pub numbered : (load_of i h).number ≡ i
  pub address_is : (waiting_load i w).address ≡ (load_of i h).address
  pub width_is : (waiting_load i w).width ≡ (load_of i h).width

abbrev pub InquiriesRight : Claim
InquiriesRight found h w run =
    EachCall (λ before c. (i : ℕ) → c ≡ retry i → is_accepted (answer c (after before w)) ≡ true
    → InquiryAbout (history_of h before w) i (after before w)) run

-- ---- flush

-- the number of dirty words among the slots in use, each word looked at by itself
abbrev pub dirty_in_use : Hierarchy → ℕ
dirty_in_use b =
    count_from (λ m. dirty_word b.tags (m / line_words) (m % line_words)) 0 (slots b * line_words)

-- an accepted flush of any state
pub record FlushExact (w : World) (k : ℕ) : Type 0 where
  -- it answers the number of dirty words before it, all of them in use
  pub counts : k ≡ dirty_words w.hierarchy
  pub in_use : k ≡ dirty_in_use w.hierarchy
  -- after it no record has a mark, and memory is flat memory
  pub cleans : (k : ℕ) → (tag_at (next flush w).hierarchy.tags k).dirty ≡ 0
  pub flattens : (next flush w).hierarchy.memory ≡ flat_of w.hierarchy

abbrev pub FlushCounts : World → Type 0
FlushCounts w = (k : ℕ) → answer flush w ≡ flushed k → FlushExact w k

-- every accepted flush of the run: memory is as found, with exactly the committed stores applied
abbrev pub FlushesRight : Claim
FlushesRight found h w run =
    EachCall (λ before c. c ≡ flush → is_accepted (answer c (after before w)) ≡ true
    → (next c (after before w)).hierarchy.memory ≡ flat_committed (history_of h before w) found) run

-- ---- flat memory of a state

-- what an accepted call does to flat memory with the held stores on top: a store gains itself,
abbrev pub FlatNext : Call → World → Type 0
FlatNext (load a n) w = flat_with_held (next (load a n) w) ≡ flat_with_held w
FlatNext (store a n v) w =
    flat_with_held (next (store a n v) w)
    ≡ applied (record { number = next_number w.queues; address = a; width = n; value = v }) (flat_with_held w)
FlatNext (retry i) w = flat_with_held (next (retry i) w) ≡ flat_with_held w
FlatNext (commit k) w = flat_with_held (next (commit k) w) ≡ flat_with_held w
-- an abort drops the held stores numbered n or more,
FlatNext (abort n) w =
    (flat_of (next (abort n) w).hierarchy ≡ flat_of w.hierarchy) × (held_stores (next (abort n) w) ≡ filter (below n) (held_stores w))
-- a return (02, card 3) those from the number on that its mark remembers,
FlatNext (restore x) w =
    (flat_of (next (restore x) w).hierarchy ≡ flat_of w.hierarchy)
    × (held_stores (next (restore x) w) ≡ filter (below (number_of x w.queues.checkpoints)) (held_stores w))
-- and every other call leaves it as it was
FlatNext idle w = flat_with_held (next idle w) ≡ flat_with_held w
FlatNext reply w = flat_with_held (next reply w) ≡ flat_with_held w
FlatNext preview w = flat_with_held (next preview w) ≡ flat_with_held w
FlatNext flush w = flat_with_held (next flush w) ≡ flat_with_held w
FlatNext (show a) w = flat_with_held (next (show a) w) ≡ flat_with_held w
FlatNext (checkpoint x) w = flat_with_held (next (checkpoint x) w) ≡ flat_with_held w

abbrev pub FlatCall : Call → World → Type 0
FlatCall c w = is_accepted (answer c w) ≡ true → FlatNext c w

-- after a run it is what was found with every store of the run applied that no abort or return has dropped
abbrev pub FlatAfter : Claim
FlatAfter found h w run = flat_with_held (after run w) ≡ applied_all (history_of h run w).stores found

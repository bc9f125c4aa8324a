-- Demand 2, said of runs of the code: each value right at its time, when a load waits and in which word, what a flush counts and leaves,
-- and flat memory.
use Rattle.std.specs.Prelude.{ℕ, ◌≡◌, true, false, List, [], ◌∷◌, ◌++◌, ◌⊎◌}
use Rattle.lists.specs.Padded.{filter}
use Rattle.rules.specs.Shape.{tag_at}
use Rattle.rules.specs.Lines.{dirty_words}
use Rattle.rules.specs.Checkpoints.{number_of}
use Rattle.rules.specs.Flat.{below, flat_of, applied, applied_all, held_stores, flat_with_held, flat_committed}
use Rattle.rules.specs.Values.{RightValue, lacks_byte, waiting_load, InquiryAbout, dirty_in_use}
use Rattle.rules.specs.TagLookup.{LineRequested, may_wait}
use Rattle.model.specs.declared.Call.{Call}
use Rattle.model.specs.declared.Call.TheVariants.{Load, Store, Retry, Commit, Abort, Idle, Reply, Flush, Show, Checkpoint, Restore, Preview}
use Rattle.model.specs.declared.Answer.TheVariants.{Value, Waits, WaitsRequested, Flushed}
use Rattle.runs.specs.Machines.{Machine, Made, world_at, number_at, left, end, call_made, accepted_call, history_by, EachMade, EveryCall, RunClaim, RunsAfterStart, RunsFromState}

-- ---- every value is right, at its time

-- a value v that the code answers as operation i is what flat memory holds at the bytes of load i: memory as found with the stores
-- applied that the run made before operation i and dropped by no abort or return
abbrev pub EachValueRight : RunClaim
EachValueRight found h m run =
    EachMade run (λ before c. (i v : ℕ) → c.gave.answer ≡ Value i v → RightValue found (history_by h (before ++ c ∷ [])) (call_made c) i v)

-- demand 2: every value that the code answers
pub record ValuesOfCode : Type 0 where
  pub after-start : RunsAfterStart EachValueRight
  pub from-state : RunsFromState EachValueRight

-- ---- a load waits exactly if a byte is lacking, at its time

-- the call answers that operation i waits, in either word
abbrev pub WaitsGiven : ℕ → Made → Type 0
WaitsGiven i c = (c.gave.answer ≡ Waits i) ⊎ (c.gave.answer ≡ WaitsRequested i)

-- what the call c on m answers as operation i, for the n bytes from a on
pub record GivesWaits (i a n : ℕ) (m : Machine) (c : Made) : Type 0 where
  -- either word only if some byte is in no older held store and its line is absent, and whenever it is so
  pub only : (j : ℕ) → WaitsGiven j c → lacks_byte i (world_at m) a n ≡ true
  pub whenever : lacks_byte i (world_at m) a n ≡ true → WaitsGiven i c
  -- else a value
  pub otherwise : lacks_byte i (world_at m) a n ≡ false → (v : ℕ) × (c.gave.answer ≡ Value i v)

-- an accepted load, as the next operation number
abbrev pub LoadGivesWaits : Machine → Made → Type 0
LoadGivesWaits m c =
    (a n : ℕ) → c.call ≡ Load a n → accepted_call c ≡ true → GivesWaits (number_at m) a n m c

-- an accepted inquiry, for the bytes of the waiting load of that number
abbrev pub RetryGivesWaits : Machine → Made → Type 0
RetryGivesWaits m c =
    (i : ℕ) → c.call ≡ Retry i → accepted_call c ≡ true
    → GivesWaits i (waiting_load i (world_at m)).address (waiting_load i (world_at m)).width m c

-- which is the latest load that the run was given as number i
abbrev pub EachInquiryRight : RunClaim
EachInquiryRight found h m run =
    EachMade run (λ before c. (i : ℕ) → c.call ≡ Retry i → accepted_call c ≡ true → InquiryAbout (history_by h before) i (world_at (end m before)))

-- demand 2: an accepted load or inquiry waits, in either word, exactly if a byte of it is lacking
pub record WaitsOfCode : Type 0 where
  pub by-load : EveryCall LoadGivesWaits
  pub by-inquiry : EveryCall RetryGivesWaits
  pub after-start : RunsAfterStart EachInquiryRight
  pub from-state : RunsFromState EachInquiryRight

-- ---- which of the two words (02, card 4)

-- what the call c on m answers as operation i, for the n bytes from a on
pub record GivesStatus (i a n : ℕ) (m : Machine) (c : Made) : Type 0 where
  -- "waits-requested" only if some byte is lacking and the register names the load's line, and whenever it is so
  pub requested-only : (j : ℕ) → c.gave.answer ≡ WaitsRequested j → (lacks_byte i (world_at m) a n ≡ true) × LineRequested (world_at m) a
  pub requested-whenever : lacks_byte i (world_at m) a n ≡ true → LineRequested (world_at m) a → c.gave.answer ≡ WaitsRequested i
  -- "waits" only if some byte is lacking and the register does not name it, and whenever it is so
  pub waits-only : (j : ℕ) → c.gave.answer ≡ Waits j → (lacks_byte i (world_at m) a n ≡ true) × (LineRequested (world_at m) a → ⊥)
  pub waits-whenever : lacks_byte i (world_at m) a n ≡ true → (LineRequested (world_at m) a → ⊥) → c.gave.answer ≡ Waits i

abbrev pub LoadGivesStatus : Machine → Made → Type 0
LoadGivesStatus m c =
    (a n : ℕ) → c.call ≡ Load a n → accepted_call c ≡ true → GivesStatus (number_at m) a n m c

abbrev pub RetryGivesStatus : Machine → Made → Type 0
RetryGivesStatus m c =
    (i : ℕ) → c.call ≡ Retry i → accepted_call c ≡ true
    → GivesStatus i (waiting_load i (world_at m)).address (waiting_load i (world_at m)).width m c

-- no other call says either word
abbrev pub OtherNeverWaits : Machine → Made → Type 0
OtherNeverWaits m c = may_wait (call_made c) ≡ false → (j : ℕ) → WaitsGiven j c → ⊥

-- an accepted load or inquiry that waits says "waits-requested" exactly if the register names its line; no other call says either word
pub record WaitStatusOfCode : Type 0 where
  pub by-load : EveryCall LoadGivesStatus
  pub by-inquiry : EveryCall RetryGivesStatus
  pub by-others : EveryCall OtherNeverWaits

-- ---- flush

-- an accepted flush c on m
pub record FlushGives (m : Machine) (c : Made) : Type 0 where
  -- it answers the number of dirty words before it, all of them in use;
  pub counts : c.gave.answer ≡ Flushed (dirty_words (world_at m).hierarchy)
  pub in_use : dirty_words (world_at m).hierarchy ≡ dirty_in_use (world_at m).hierarchy
  -- after it no record has a mark, and memory is flat memory
  pub cleans : (k : ℕ) → (tag_at (world_at (left c)).hierarchy.tags k).dirty ≡ 0
  pub flattens : c.memory ≡ flat_of (world_at m).hierarchy

abbrev pub FlushMade : Machine → Made → Type 0
FlushMade m c = c.call ≡ Flush → accepted_call c ≡ true → FlushGives m c

-- every accepted flush of the run leaves memory as found with exactly the committed stores applied
abbrev pub EachFlushRight : RunClaim
EachFlushRight found h m run =
    EachMade run (λ before c. c.call ≡ Flush → accepted_call c ≡ true → c.memory ≡ flat_committed (history_by h before) found)

-- demand 2: what an accepted flush counts, cleans and leaves in memory
pub record FlushesOfCode : Type 0 where
  pub by-flush : EveryCall FlushMade
  pub after-start : RunsAfterStart EachFlushRight
  pub from-state : RunsFromState EachFlushRight

-- ---- flat memory

-- flat memory of a machine, with its held stores on top in number order
abbrev pub flat_at : Machine → List ℕ
flat_at m = flat_with_held (world_at m)

-- the held stores numbered n or more are dropped, and flat memory below them stays
abbrev pub DropsFrom : ℕ → Machine → Machine → Type 0
DropsFrom n m d =
    (flat_of (world_at d).hierarchy ≡ flat_of (world_at m).hierarchy) × (held_stores (world_at d) ≡ filter (below n) (held_stores (world_at m)))

-- what an accepted call on m that leaves d does to it: a store gains itself,
abbrev pub FlatMoves : Call → Machine → Machine → Type 0
FlatMoves (Load a n) m d = flat_at d ≡ flat_at m
FlatMoves (Store a n v) m d =
    flat_at d ≡ applied (record { number = number_at m; address = a; width = n; value = v }) (flat_at m)
FlatMoves (Retry i) m d = flat_at d ≡ flat_at m
FlatMoves (Commit k) m d = flat_at d ≡ flat_at m
-- an abort drops the held stores numbered n or more,
FlatMoves (Abort n) m d = DropsFrom n m d
-- a return (02, card 3) those from the number on that its mark remembers,
FlatMoves (Restore x) m d = DropsFrom (number_of x (world_at m).queues.checkpoints) m d
-- and every other call leaves it as it was
FlatMoves Idle m d = flat_at d ≡ flat_at m
FlatMoves Reply m d = flat_at d ≡ flat_at m
FlatMoves Preview m d = flat_at d ≡ flat_at m
FlatMoves Flush m d = flat_at d ≡ flat_at m
FlatMoves (Show a) m d = flat_at d ≡ flat_at m
FlatMoves (Checkpoint x) m d = flat_at d ≡ flat_at m

abbrev pub FlatMoved : Machine → Made → Type 0
FlatMoved m c = accepted_call c ≡ true → FlatMoves c.call m (left c)

-- after a run it is memory as found with every store of the run applied that no abort or return has dropped
abbrev pub FlatAtEnd : RunClaim
FlatAtEnd found h m run = flat_at (end m run) ≡ applied_all (history_by h run).stores found

-- demand 2: flat memory, after each accepted call and after a run
pub record FlatMemoryOfCode : Type 0 where
  pub by_call : EveryCall FlatMoved
  pub after-start : RunsAfterStart FlatAtEnd
  pub from-state : RunsFromState FlatAtEnd

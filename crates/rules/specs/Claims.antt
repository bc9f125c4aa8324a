-- The claims about the rules, each closed: what the functions of the crate promise.
use Rattle.std.specs.Prelude.{ℕ, List}
use Rattle.rules.specs.declared.Figures.{Figures}
use Rattle.rules.specs.declared.Request.{Request}
use Rattle.rules.specs.declared.WritePolicy.{WritePolicy}
use Rattle.rules.specs.Shape.{Hierarchy, World}
use Rattle.rules.specs.Calls.{Call}
use Rattle.rules.specs.Refusals.{RefusedKeeps, RefusedExactly}
use Rattle.rules.specs.RefusalTable.{AsStarted, AsGiven, GivenUnder, start_rows, input_rows, state_rows, clause_rows, order_rows}
use Rattle.rules.specs.Numbers.{FirstNumber, NextNumber, ReturnNumber}
use Rattle.rules.specs.Dropped.{DroppedStretch, DroppedAfterStart, RestoredStretch, RestoredAfterStart}
use Rattle.rules.specs.CheckpointClaims.{SetsExactly, ReturnsExactly, AbortsExactly, CommitsExactly, CheckpointsStay, CheckpointsRanked}
use Rattle.rules.specs.Kept.{StartFormed, NextKept, RunKept, AdmittedAfterStart}
use Rattle.rules.specs.Values.{AfterStart, FromState, ValuesRight, LoadWaits, RetryWaits, InquiriesRight, FlushCounts, FlushesRight, FlatCall, FlatAfter}
use Rattle.rules.specs.TagLookup.{LookupExact, LoadStatus, RetryStatus, LoadWaitLeaves, RetryWaitLeaves, NoOtherWaits}
use Rattle.rules.specs.ForwardingClaims.{LoadForwarded, ForwardedStays, LoadsStay, RetryReadsLine, CommitUsesExactly}
use Rattle.rules.specs.PreviewClaims.{PreviewExact, NoOtherPreviews}
use Rattle.rules.specs.Words.{MarksExact, Unmarked, MarkedOnly}

-- a refused call changes nothing
abbrev pub RefusedCallsKeep : Type 0
RefusedCallsKeep = (c : Call) (w : World) → RefusedKeeps c w

-- each refusal is given under its stated condition and under no other
abbrev pub RefusalsExact : Type 0
RefusalsExact = (c : Call) (w : World) → RefusedExactly c w

-- the table of refusals, row by row, under either write policy; the rows of the clauses name theirs
pub record RefusalTableHolds : Type 0 where
  pub starts : (p : WritePolicy) → AsStarted p start_rows
  pub input : (p : WritePolicy) → GivenUnder p input_rows
  pub state : (p : WritePolicy) → GivenUnder p state_rows
  pub clauses : AsGiven clause_rows
  pub order : (p : WritePolicy) → GivenUnder p order_rows

-- the next operation number
abbrev pub NumbersGiven : Type 0
NumbersGiven =
    ((f : Figures) (cache memory : List ℕ) → FirstNumber f cache memory)
    × ((c : Call) (w : World) → NextNumber c w)
    × ((x : ℕ) (w : World) → ReturnNumber x w)

-- demand 3, for every run from any world on, and for every run after a start
abbrev pub DroppedStretches : Type 0
DroppedStretches =
    ((w : World) → DroppedStretch w) × ((f : Figures) (cache memory : List ℕ) → DroppedAfterStart f cache memory)

-- 02, card 3: the same of every stretch from the setting of a mark to the accepted return to it
abbrev pub RestoredStretches : Type 0
RestoredStretches =
    ((w : World) → RestoredStretch w) × ((f : Figures) (cache memory : List ℕ) → RestoredAfterStart f cache memory)

-- 02, card 3: which marks every call leaves, with their names, numbers and ranks; and what else a setting and a return do
pub record CheckpointsAreExact : Type 0 where
  pub by-set : (x : ℕ) (w : World) → SetsExactly x w
  pub by-return : (x : ℕ) (w : World) → ReturnsExactly x w
  pub by-abort : (n : ℕ) (w : World) → AbortsExactly n w
  pub by-commit : (h : ℕ) (w : World) → CommitsExactly h w
  pub by-others : (c : Call) (w : World) → CheckpointsStay c w
  pub by_rank : (c : Call) (w : World) → CheckpointsRanked c w

-- kept well formed, by a start, a call and a run; and no call of a run after a start is refused with 1 or 10
pub record KeptWellFormed : Type 0 where
  pub by-start : (f : Figures) (cache memory : List ℕ) → StartFormed f cache memory
  pub by_call : (c : Call) (w : World) → NextKept c w
  pub by-run : (run : List Call) (w : World) → RunKept run w
  pub admitted : (f : Figures) (cache memory : List ℕ) → AdmittedAfterStart f cache memory

-- demand 2: every value that a call answers, in every run after a start, and in every run from a well-formed state on
pub record ValuesAreRight : Type 0 where
  pub after-start : (f : Figures) (cache memory : List ℕ) → AfterStart ValuesRight f cache memory
  pub from-state : (w : World) → FromState ValuesRight w

-- demand 2: an accepted load or inquiry waits, in either word, exactly if a byte of it is lacking; in a run, the load of that number is
-- the run's own
pub record WaitsAreExact : Type 0 where
  pub by-load : (a n : ℕ) (w : World) → LoadWaits a n w
  pub by-inquiry : (i : ℕ) (w : World) → RetryWaits i w
  pub after-start : (f : Figures) (cache memory : List ℕ) → AfterStart InquiriesRight f cache memory
  pub from-state : (w : World) → FromState InquiriesRight w

-- 02, card 4: an accepted load or inquiry that waits says "waits-requested" exactly if the register names its line. Whichever it says, a
-- load is listed as waiting, and an inquiry changes nothing. No other call says either word
pub record WaitStatusIsExact : Type 0 where
  pub by-load : (a n : ℕ) (w : World) → LoadStatus a n w
  pub by-inquiry : (i : ℕ) (w : World) → RetryStatus i w
  pub load-leaves : (a n : ℕ) (w : World) → LoadWaitLeaves a n w
  pub inquiry-leaves : (i : ℕ) (w : World) → RetryWaitLeaves i w
  pub by-others : (c : Call) (w : World) → NoOtherWaits c w

-- 02, card 4: what the tag lookup answers, of any register, any hierarchy and any line
abbrev pub LookupIsExact : Type 0
LookupIsExact = (r : Request) (b : Hierarchy) (l : ℕ) → LookupExact r b l

-- 02, card 6: an accepted load that answers a value is forwarded exactly if each of its bytes is in an older held store then, and no other
-- call sets or changes that while the load is listed. An inquiry that answers a value reads the load's line, and uses it by 01's rule. A
-- commit leaves lines and ages as if forwarded loads were not listed, and uses the lines of the other answered loads as 01 says
pub record ForwardingIsExact : Type 0 where
  pub by-load : (a n : ℕ) (w : World) → LoadForwarded a n w
  pub by-others : (c : Call) (w : World) → ForwardedStays c w
  pub list-stays : (c : Call) (w : World) → LoadsStay c w
  pub by-inquiry : (i : ℕ) (w : World) → RetryReadsLine i w
  pub by-commit : (k : ℕ) (w : World) → CommitUsesExactly k w

-- 02, card 7: a preview gives what the reply, made in its place, then does; it is refused as the reply is, and changes nothing. No other call
-- gives one
pub record PreviewIsExact : Type 0 where
  pub by-preview : (w : World) → PreviewExact w
  pub by-others : (c : Call) (w : World) → NoOtherPreviews c w

-- demand 2: what an accepted flush counts, cleans and leaves in memory
pub record FlushesAreExact : Type 0 where
  pub by-flush : (w : World) → FlushCounts w
  pub after-start : (f : Figures) (cache memory : List ℕ) → AfterStart FlushesRight f cache memory
  pub from-state : (w : World) → FromState FlushesRight w

-- demand 2: flat memory of a state with its held stores on top, after each accepted call, and after a run
pub record FlatMemoryIsKept : Type 0 where
  pub by_call : (c : Call) (w : World) → FlatCall c w
  pub after-start : (f : Figures) (cache memory : List ℕ) → AfterStart FlatAfter f cache memory
  pub from-state : (w : World) → FromState FlatAfter w

-- 02, card 2: a drain with write-back marks the word written, and no call another one; a line comes without marks; eviction and flush
-- write marked words only
pub record WordsAreExact : Type 0 where
  pub by_call : (c : Call) (w : World) → MarksExact c w
  pub written : (b : Hierarchy) (a : ℕ) → Unmarked b a → MarkedOnly b a

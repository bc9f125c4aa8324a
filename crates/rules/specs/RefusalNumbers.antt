-- The papers' number of each refusal (01's list, and 02's from 19 on).
use Rattle.std.specs.Prelude.{ℕ, List, Result, Ok, Err}
use Rattle.rules.specs.declared.Refusal.{Refusal}
use Rattle.rules.specs.declared.Refusal.TheVariants.{BadFigures, BadWidth, Misaligned, OutsideMemory, ValueTooLarge, MalformedLine, NotWellFormed, StoreQueueFull, LoadQueueFull, NumbersUsedUp, NoWaitingLoad, BadCommit, BadAbort, NothingRequested, CommittedStoreHeld, BadName, NameInUse, CheckpointUnavailable, BadStudy}
use Rattle.rules.specs.Calls.{Check, guarded}

abbrev pub refusal_number : Refusal → ℕ
refusal_number BadFigures = 1
refusal_number BadWidth = 2
refusal_number Misaligned = 3
refusal_number OutsideMemory = 4
refusal_number ValueTooLarge = 5
refusal_number MalformedLine = 6
refusal_number NotWellFormed = 10
refusal_number StoreQueueFull = 11
refusal_number LoadQueueFull = 12
refusal_number NumbersUsedUp = 13
refusal_number NoWaitingLoad = 14
refusal_number BadCommit = 15
refusal_number BadAbort = 16
refusal_number NothingRequested = 17
refusal_number CommittedStoreHeld = 18
refusal_number BadName = 19
refusal_number NameInUse = 20
refusal_number CheckpointUnavailable = 21
refusal_number BadStudy = 22

-- ---- results of checks

-- the number in place of the refusal
abbrev pub numbered : {A : Type 0} → Result A Refusal → Result A ℕ
numbered (Ok a) = Ok a
numbered (Err e) = Err (refusal_number e)

-- the number of the first check that applies; where none does, the value
abbrev pub found_by : {A : Type 0} → List Check → A → Result A ℕ
found_by ks a = guarded ks (λ k. Err k) (Ok a)

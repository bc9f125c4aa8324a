-- Demand 3, said of runs of the code: a dropped stretch leaves no trace, nor does a stretch from setting a mark to the return to it.
use Rattle.std.specs.Prelude.{ℕ, ◌<◌, ◌≡◌, Bool, true, List, [], ◌∷◌, ◌++◌, map}
use Rattle.lists.specs.Padded.{select}
use Rattle.rules.specs.Calls as rules
use Rattle.rules.specs.Dropped.{struck, struck_too, remaining}
use Rattle.model.specs.declared.Call.TheVariants.{Abort, Checkpoint, Restore}
use Rattle.model.specs.declared.Answer.{Answer}
use Rattle.model.specs.declared.Answer.TheVariants.{Checkpointed}
use Rattle.runs.specs.Machines.{Machine, number_at, Made, RunFrom, StartMade, AcceptedStart, end, accepted_call, calls_of, answers_of, start_left, EachMade}

-- the stretch, made from m on, is dropped for n
pub record DroppedFor (n : ℕ) (m : Machine) (stretch : List Made) : Type 0 where
  -- "the next operation number is n before its first call"
  pub opens : number_at m ≡ n
  -- "its last call is an accepted abort naming n" ("It may be that abort alone.")
  pub body : List Made
  pub final : Made
  pub ends : stretch ≡ body ++ final ∷ []
  pub aborts : final.call ≡ Abort n
  pub passes : accepted_call final ≡ true
  -- "and no accepted abort in it names less than n"
  pub above : EachMade stretch (λ before c. (k : ℕ) → c.call ≡ Abort k → accepted_call c ≡ true → k < n → ⊥)
  -- 02, card 3: "no set or return call, accepted or refused, is inside it"
  pub quiet : EachMade stretch (λ before c. (x : ℕ) → (c.call ≡ Checkpoint x → ⊥) × (c.call ≡ Restore x → ⊥))

-- 02, card 3: "A stretch from setting a mark to the accepted return to it", made from m on; the mark has name x and remembers n
pub record RestoredTo (x n : ℕ) (m : Machine) (stretch : List Made) : Type 0 where
  pub first : Made
  pub body : List Made
  pub final : Made
  pub shape : stretch ≡ first ∷ (body ++ final ∷ [])
  -- "setting a mark": it answers the number that the mark remembers
  pub sets : first.call ≡ Checkpoint x
  pub remembers : first.gave.answer ≡ Checkpointed n
  -- "the accepted return"
  pub returns : final.call ≡ Restore x
  pub accepted : accepted_call final ≡ true
  -- "to it": no other setting of the name is accepted in between
  pub set-once : EachMade body (λ before c. c.call ≡ Checkpoint x → accepted_call c ≡ true → ⊥)

-- which calls of a run remain, when those of the stretch that pass a test are struck
abbrev pub remaining_of : (rules.Call → Bool) → List Made → List Made → List Made → List Bool
remaining_of strike pre stretch post = remaining strike (calls_of pre) (calls_of stretch) (calls_of post)

abbrev pub gave_all : List Made → List Answer
gave_all run = map (λ (c : Made). c.gave.answer) run

-- two runs, of which the second is made of the calls of the first that remain
pub record SameSeen (remains : List Bool) (m : Machine) (whole : List Made) (d : Machine) (rest : List Made) : Type 0 where
  -- "Each remaining call has the same answer in both": as the code gave it,
  pub same-answers : select remains (gave_all whole) ≡ gave_all rest
  -- "and for show line the bytes and where in the cache they stand"
  pub same_parts : select remains (answers_of whole) ≡ answers_of rest
  -- "At the end both memories and both caches are equal byte for byte, and both states in every field"
  pub same_end : end m whole ≡ end d rest

-- every run from m on with such a stretch in it, and every run from d on of the calls that remain
abbrev pub NoTraceOf : (Machine → List Made → Type 0) → (rules.Call → Bool) → Machine → Machine → Type 0
NoTraceOf Stretch strike m d =
    (pre stretch post rest : List Made)
    → RunFrom m (pre ++ (stretch ++ post)) → Stretch (end m pre) stretch
    → RunFrom d rest → calls_of rest ≡ select (remaining_of strike pre stretch post) (calls_of (pre ++ (stretch ++ post)))
    → SameSeen (remaining_of strike pre stretch post) m (pre ++ (stretch ++ post)) d rest

-- No such stretch leaves a trace: in two runs from any state, cache and memory on; and after starts: "Both runs begin at the same start, with the same figures and the same memory
-- found.", whatever cache bytes each start found
pub record LeavesNoTrace (Stretch : Machine → List Made → Type 0) (strike : rules.Call → Bool) : Type 0 where
  pub from-any : (m : Machine) → NoTraceOf Stretch strike m m
  pub after-start : (s t : StartMade) → AcceptedStart s → AcceptedStart t → s.figures ≡ t.figures → s.memory ≡ t.memory
      → NoTraceOf Stretch strike (start_left s) (start_left t)

-- demand 3: a dropped stretch leaves no trace
abbrev pub DroppedOfCode : Type 0
DroppedOfCode = (n : ℕ) → LeavesNoTrace (DroppedFor n) (struck n)

-- 02, card 3: a stretch from setting a mark to the return to it leaves no trace either, "when its set and return calls, refused ones
-- included, are struck too"
abbrev pub RestoredOfCode : Type 0
RestoredOfCode = (x n : ℕ) → LeavesNoTrace (RestoredTo x n) (struck_too n)

-- Kept well formed, said of runs of the code; and no call of a run after an accepted start is refused with 1 or 10.
use Rattle.std.specs.Prelude.{◌≡◌, List}
use Rattle.rules.specs.Kept.{Formed, own_outcome}
use Rattle.model.specs.State.{outcome_of}
use Rattle.model.specs.declared.Answer.TheVariants.{Refused}
use Rattle.runs.specs.Machines.{Machine, Made, RunFrom, StartMade, AcceptedStart, world_at, left, end, call_made, start_left, EachMade, EveryCall, RunClaim, RunsAfterStart, RunsFromState}

-- "A state is well formed", with the cache and the memory lent beside it
abbrev pub FormedAt : Machine → Type 0
FormedAt m = Formed (world_at m)

-- a well-formed state is left
pub record KeptOfCode : Type 0 where
  -- by an accepted start, whatever cache and memory it found,
  pub by-start : (s : StartMade) → AcceptedStart s → FormedAt (start_left s)
  -- by every call, accepted or refused, and by a run
  pub by_call : EveryCall (λ m c. FormedAt m → FormedAt (left c))
  pub by-run : (m : Machine) (run : List Made) → RunFrom m run → FormedAt m → FormedAt (end m run)

-- neither 1 nor 10 refuses the call c on m
pub record StateChecksPass (m : Machine) (c : Made) : Type 0 where
  pub not-1 : c.gave.answer ≡ Refused 1 → ⊥
  pub not-10 : c.gave.answer ≡ Refused 10 → ⊥
  -- show line names no refusal: what it gives is what its rule says, with neither of the two looked at
  pub own : outcome_of c.gave c.cache c.memory ≡ own_outcome (call_made c) (world_at m)

abbrev pub EachStateChecksPass : RunClaim
EachStateChecksPass found h m run = EachMade run (λ before c. StateChecksPass (end m before) c)

-- no call of a run after an accepted start, or from a well-formed state on, is refused with 1 or 10
pub record AdmittedOfCode : Type 0 where
  pub after-start : RunsAfterStart EachStateChecksPass
  pub from-state : RunsFromState EachStateChecksPass

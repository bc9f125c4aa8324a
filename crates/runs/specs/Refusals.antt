-- Refusals, said of the code: each exactly under its condition, and none changes anything.
use Rattle.std.specs.Prelude.{ℕ, ◌≡◌, true, false, Ok, Err}
use Rattle.rules.specs.Refusals.{all_checks, FirstFailing}
use Rattle.rules.specs.Runs.{names_refusal, start_allowed}
use Rattle.model.specs.declared.Answer.TheVariants.{Refused}
use Rattle.rules.specs.declared.Refusal.{Refusal}
use Rattle.rules.specs.declared.Refusal.TheVariants.{BadFigures}
use Rattle.runs.specs.Machines.{Machine, Made, StartMade, world_at, left, call_made, accepted_call, StartPromised, EveryCall}

-- "A refusal occurs under its stated condition and under no other.": the number is that of the first condition, in 01's order, that applies
pub record RefusesExactly (m : Machine) (c : Made) : Type 0 where
  pub only : (k : ℕ) → c.gave.answer ≡ Refused k → FirstFailing k (all_checks (call_made c) (world_at m))
  pub whenever : (k : ℕ) → names_refusal (call_made c) ≡ true → FirstFailing k (all_checks (call_made c) (world_at m)) → c.gave.answer ≡ Refused k

-- "Start reads no earlier state, so 1 alone can refuse it."
pub record StartRefusesExactly (s : StartMade) : Type 0 where
  pub allowed : start_allowed s.figures s.found s.memory ≡ true → s.gave.answer ≡ Ok tt
  pub refused : start_allowed s.figures s.found s.memory ≡ false → s.gave.answer ≡ Err BadFigures

-- the refusals of every call and every start
pub record RefusalsOfCode : Type 0 where
  pub by_call : EveryCall RefusesExactly
  pub by-start : (s : StartMade) → StartPromised s → StartRefusesExactly s

-- "It returns the number alone, and state, cache and memory keep their contents.": a refused start too leaves the cache as found
pub record RefusedOfCode : Type 0 where
  pub by_call : EveryCall (λ m c. accepted_call c ≡ false → left c ≡ m)
  pub by-start : (s : StartMade) → StartPromised s → (why : Refusal) → s.gave.answer ≡ Err why → s.cache ≡ s.found

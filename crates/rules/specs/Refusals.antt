-- Claims about refusals: a refused call changes nothing, and each refusal is given under its stated condition and under no other.
-- The refusals themselves are `access_checks` to `call_checks` in Calls (2 to 21), `fit_check` (1) and `formed_check` (10) in Runs.
use Rattle.std.specs.Prelude.{ℕ, ◌≡◌, true, false, List, ◌∷◌, ◌++◌}
use Rattle.rules.specs.Shape.{World}
use Rattle.rules.specs.Calls.{Call, Check, refused, is_accepted, passes}
use Rattle.rules.specs.Runs.{ordered_checks, names_refusal, answer, next}

-- "It returns the number alone, and state, cache and memory keep their contents."
abbrev pub RefusedKeeps : Call → World → Type 0
RefusedKeeps c w = is_accepted (answer c w) ≡ false → next c w ≡ w

-- the conditions of a call, in 01's order
abbrev pub all_checks : Call → World → List Check
all_checks c w = ordered_checks c w.queues w.hierarchy

-- k is the number of the first refusal that applies
pub record FirstFailing (k : ℕ) (ks : List Check) : Type 0 where
  pub earlier : List Check
  pub here : Check
  pub later : List Check
  pub splits : ks ≡ earlier ++ here ∷ later
  pub pass : passes earlier ≡ true
  pub holds : here.applies ≡ true
  pub names : here.number ≡ k

-- "A refusal occurs under its stated condition and under no other."
pub record RefusedExactly (c : Call) (w : World) : Type 0 where
  pub only : (k : ℕ) → answer c w ≡ refused k → FirstFailing k (all_checks c w)
  pub whenever : (k : ℕ) → names_refusal c ≡ true → FirstFailing k (all_checks c w) → answer c w ≡ refused k

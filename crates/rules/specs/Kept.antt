-- Kept well formed: an accepted start leaves a well-formed state, and so does every call on a well-formed one. So no call of a run
-- after a start is refused with 1 or 10.
use Rattle.std.specs.Prelude.{ℕ, ◌≡◌, true, List, ◌∷◌, ◌++◌}
use Rattle.rules.specs.declared.Figures.{Figures}
use Rattle.rules.specs.Shape.{World}
use Rattle.rules.specs.Calls.{Call, Outcome, refused, unchanged, guarded, early_checks, call_checks, rule}
use Rattle.rules.specs.WellFormed.{well_formed}
use Rattle.rules.specs.Runs.{refusal, outcome, answer, next, after, start_world, start_answer, ready}

-- "A state is well formed" (check 1 passes too: it is one of the clauses)
abbrev pub Formed : World → Type 0
Formed w = well_formed w.queues w.hierarchy ≡ true

-- an accepted start leaves a well-formed state
abbrev pub StartFormed : Figures → List ℕ → List ℕ → Type 0
StartFormed f cache memory =
    start_answer f cache memory ≡ ready → Formed (start_world f cache memory)

-- a call on a well-formed state leaves a well-formed state
abbrev pub NextKept : Call → World → Type 0
NextKept c w = Formed w → Formed (next c w)

-- and so does a run
abbrev pub RunKept : List Call → World → Type 0
RunKept run w = Formed w → Formed (after run w)

-- what a call's own refusals and its rule say, without 1 and 10
abbrev pub own_outcome : Call → World → Outcome
own_outcome c w =
    guarded (early_checks c w.hierarchy ++ call_checks c w.queues w.hierarchy) (λ k. unchanged (refusal c k) w.queues w.hierarchy)
    (rule c w.queues w.hierarchy)

-- neither 1 nor 10 refuses the call
pub record Admitted (c : Call) (w : World) : Type 0 where
  pub own : outcome c w.queues w.hierarchy ≡ own_outcome c w
  pub not-1 : answer c w ≡ refused 1 → ⊥
  pub not-10 : answer c w ≡ refused 10 → ⊥

-- each call of a run, made where the calls before it lead
abbrev pub EachCall : (List Call → Call → Type 0) → List Call → Type 0
EachCall P run = (before : List Call) (c : Call) (later : List Call) → run ≡ before ++ c ∷ later → P before c

-- no call of a run after a start is refused with 1 or 10
abbrev pub AdmittedAfterStart : Figures → List ℕ → List ℕ → Type 0
AdmittedAfterStart f cache memory =
    start_answer f cache memory ≡ ready → (run : List Call)
    → EachCall (λ before c. Admitted c (after before (start_world f cache memory))) run

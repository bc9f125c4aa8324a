-- What the start by value hands back is what a start on a lent state leaves: the started state where it answers ready, the given
-- state, and the cache as it was, where it refuses. And a start and a call on one state are the start and the call of the rules.
use Prim.Native.Nat.{ℕ}
use mathlib.Core.Path.{◌≡◌, sym, ◌∙◌, ap}
use mathlib.Core.Bool.{Bool, true, false}
use mathlib.Core.List.{List}
use Rattle.lists.proofs.Cond.{cases}
use Rattle.std.specs.Bool.{⊤}
use Rattle.std.proofs.Common.{Result, Ok, Err}
use Rattle.rules.specs.declared.Figures.{Figures}
use Rattle.rules.specs.declared.Refusal.{Refusal}
use Rattle.rules.specs.Shape.{World}
use Rattle.rules.specs.Runs as rules
use Rattle.rules.specs.Runs.{ready, start_refused, start_allowed, start_answer, start_world, unstarted, outcome}
use Rattle.model.specs.State.{world_of, no_state, call_of, Does}
use Rattle.model.specs.Starts.{start_answer_of, Starts}
use Rattle.model.specs.declared.Answer.{Answer}
use Rattle.model.specs.declared.Call.{Call}
use Rattle.model.specs.declared.Started.{Started}
use Rattle.model.specs.declared.State.{State}
use Rattle.lent.specs.Starts.{started_in, StartsIn, ran_of, start_then}

-- ---- a start

is_ready : rules.StartAnswer → Bool
is_ready ready = true
is_ready (start_refused k) = false

module _ (f : Figures) (cache memory : List ℕ) where
  -- a start answers ready exactly if it is allowed
  answered : is_ready (start_answer f cache memory) ≡ start_allowed f cache memory
  unfolding start_answer is_ready
  answered = cases (start_allowed f cache memory) (λ t. rw t) (λ t. rw t)

  module _ (s : State) (r : Started) (cache' : List ℕ) (does : Starts f cache memory r cache') where
    pub start-stored : (u : ⊤) → r.answer ≡ Ok u → StartsIn f (world_of s cache memory) (record { answer = Ok u; state = r.state }) cache' memory
    unfolding started_in start_world is_ready
    start-stored u told =
        let allowed : start_allowed f cache memory ≡ true = sym answered ∙ ap is_ready (sym does.0 ∙ ap start_answer_of told) in
        (sym (ap start_answer_of told) ∙ does.0, does.1 ∙ rw allowed)

    pub start-kept : (why : Refusal) → r.answer ≡ Err why → StartsIn f (world_of s cache memory) (record { answer = Err why; state = s }) cache' memory
    unfolding started_in start_world unstarted is_ready
    start-kept why told =
        let allowed : start_allowed f cache memory ≡ false = sym answered ∙ ap is_ready (sym does.0 ∙ ap start_answer_of told) in
        let same : cache' ≡ cache = ap (λ (v : World). v.hierarchy.cache) does.1 ∙ rw allowed in
        (sym (ap start_answer_of told) ∙ does.0, rw allowed (ap (λ (b : List ℕ). world_of s b memory) same))

  -- on the state that is all zero it leaves what the start by value hands back, accepted or refused
  over_none : started_in f (world_of no_state cache memory) ≡ start_world f cache memory
  unfolding started_in start_world unstarted
  over_none = cases (start_allowed f cache memory) (λ t. rw t) (λ t. rw t)

-- ---- a start and then a call

pub start-then : (h : State) (f : Figures) (call : Call) (cache memory : List ℕ) (r₁ : Result ⊤ Refusal) (h₁ : State) (cache₁ : List ℕ) (r₂ : Answer) (h₂ : State) (cache₂ memory₂ : List ℕ)
    → h ≡ no_state → StartsIn f (world_of h cache memory) (record { answer = r₁; state = h₁ }) cache₁ memory
    → Does (call_of call) (world_of h₁ cache₁ memory) (record { answer = r₂; next = h₂ }) cache₂ memory₂
    → ran_of (record { started = r₁; answer = r₂ }) cache₂ memory₂ ≡ start_then f (call_of call) cache memory
unfolding start_then
start-then h f call cache memory r₁ h₁ cache₁ r₂ h₂ cache₂ memory₂ zero starts does =
    let left : world_of h₁ cache₁ memory ≡ start_world f cache memory = starts.1 ∙ ap (λ (s : State). started_in f (world_of s cache memory)) zero ∙ over_none f cache memory in
    let both = does ∙ ap (λ (w : World). outcome (call_of call) w.queues w.hierarchy) left in
    λ j. record { started = starts.0 j; answer = (both j).answer; cache = (both j).hierarchy.cache; memory = (both j).hierarchy.memory }

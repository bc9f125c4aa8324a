-- A start on a lent state, and a start with a call after it, by the rules.
use Rattle.std.specs.Prelude.{ℕ, ◌≡◌, cond, List}
use Rattle.rules.specs.declared.Figures.{Figures}
use Rattle.rules.specs.Shape.{World}
use Rattle.rules.specs.Calls.{Call, Answer}
use Rattle.rules.specs.Runs.{StartAnswer, started, start_allowed, start_answer, start_world, outcome}
use Rattle.model.specs.State.{world_of, answer_of}
use Rattle.model.specs.Starts.{start_answer_of}
use Rattle.model.specs.declared.Started.{Started}
use Rattle.lent.specs.declared.StartAndStep.{StartAndStep}

-- ---- a start on a lent state

-- what stands in the state, the cache and the memory after it: an accepted start leaves the started state, a refused one leaves all as
-- it was
unfoldable pub started_in : Figures → World → World
started_in f w =
    cond (start_allowed f w.hierarchy.cache w.hierarchy.memory) (started f w.hierarchy.memory) w

-- a start with these figures on what w says: it answered and left r, and left this cache and this memory
abbrev pub StartsIn : Figures → World → Started → List ℕ → List ℕ → Type 0
StartsIn f w r cache memory =
    (start_answer_of r.answer ≡ start_answer f w.hierarchy.cache w.hierarchy.memory)
    × (world_of r.state cache memory ≡ started_in f w)

-- ---- a start and then a call

-- the two answers, and the cache and the memory after both
pub record Ran : Type 0 where
  pub started : StartAnswer
  pub answer : Answer
  pub cache : List ℕ
  pub memory : List ℕ

-- what is handed back, with the cache and the memory that are left
abbrev pub ran_of : StartAndStep → List ℕ → List ℕ → Ran
ran_of r cache memory = record {
  started = start_answer_of r.started;
  answer = answer_of r.answer cache;
  cache = cache;
  memory = memory;
}

-- "Each call gets what the last one handed back or left"
unfoldable pub start_then : Figures → Call → List ℕ → List ℕ → Ran
start_then f c cache memory =
    let w = start_world f cache memory in
    let o = outcome c w.queues w.hierarchy in
    record {
      started = start_answer f cache memory;
      answer = o.answer;
      cache = o.hierarchy.cache;
      memory = o.hierarchy.memory;
    }

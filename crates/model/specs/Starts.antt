-- A start, in the code's types.
use Rattle.std.specs.Prelude.{ℕ, ◌≡◌, List, Result, Ok, Err, ⊤}
use Rattle.rules.specs.declared.Figures.{Figures}
use Rattle.rules.specs.declared.Refusal.{Refusal}
use Rattle.rules.specs.RefusalNumbers.{refusal_number}
use Rattle.rules.specs.Runs.{start_answer, start_world}
use Rattle.rules.specs.Runs as rules
use Rattle.model.specs.State.{world_of}
use Rattle.model.specs.declared.Started.{Started}

-- the paper's answers to a start: ready, or the refusal's number
abbrev pub start_answer_of : Result ⊤ Refusal → rules.StartAnswer
start_answer_of (Ok u) = rules.ready
start_answer_of (Err why) = rules.start_refused (refusal_number why)

-- a start with these figures, this cache and this memory: it handed back r and left the cache so
abbrev pub Starts : Figures → List ℕ → List ℕ → Started → List ℕ → Type 0
Starts f cache memory r cache' =
    (start_answer_of r.answer ≡ start_answer f cache memory) × (world_of r.state cache' memory ≡ start_world f cache memory)

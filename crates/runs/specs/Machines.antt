-- What a caller of the code holds, the calls of `State::start` and `State::step` that it makes, and runs of them. The claims of this
-- crate are about these: what a call answered, what it handed back, and what it left in the lent bytes. What the rules say of a call
-- stands in the two promises alone, the contracts of `step` and `start`.
use Rattle.std.specs.Prelude.{ℕ, ◌≡◌, Bool, List, [], ◌∷◌, ◌++◌, map, Ok}
use Rattle.rules.specs.declared.Figures.{Figures}
use Rattle.rules.specs.Shape.{World}
use Rattle.rules.specs.Calls.{is_accepted, next_number}
use Rattle.rules.specs.Calls as rules
use Rattle.rules.specs.Flat.{History, no_history, history, flat_of}
use Rattle.rules.specs.Kept.{Formed}
use Rattle.rules.specs.Values.{history_at}
use Rattle.model.specs.State.{queues_of, world_of, answer_of, call_of, Does}
use Rattle.model.specs.Starts.{Starts}
use Rattle.model.specs.declared.State.{State}
use Rattle.model.specs.declared.Step.{Step}
use Rattle.model.specs.declared.Call.{Call}
use Rattle.model.specs.declared.Started.{Started}

-- ---- a machine

-- what a caller holds between two calls: the state, the lent cache and the lent memory
pub record Machine : Type 0 where
  pub state : State
  pub cache : List ℕ
  pub memory : List ℕ

-- field by field what the rules call a world
abbrev pub world_at : Machine → World
world_at m = world_of m.state m.cache m.memory

-- "The next operation number is last + 1"
abbrev pub number_at : Machine → ℕ
number_at m = next_number (queues_of m.state)

-- ---- a call of `State::step`

-- the call, what it handed back, and the cache and the memory as it left them
pub record Made : Type 0 where
  pub call : Call
  pub gave : Step
  pub cache : List ℕ
  pub memory : List ℕ

abbrev pub left : Made → Machine
left c = record { state = c.gave.next; cache = c.cache; memory = c.memory }

-- the call and its answer with 01's numbers and values; of show line the bytes and where in the cache they stand
abbrev pub call_made : Made → rules.Call
call_made c = call_of c.call

abbrev pub answer_given : Made → rules.Answer
answer_given c = answer_of c.gave.answer c.cache

-- "A call is accepted when its answer is no refusal."
abbrev pub accepted_call : Made → Bool
accepted_call c = is_accepted (answer_given c)

-- what the contract of `step` promises of a call made on m
abbrev pub AsPromised : Machine → Made → Type 0
AsPromised m c = Does (call_made c) (world_at m) c.gave c.cache c.memory

-- ---- a run

-- "Each call gets what the last one handed back or left": the calls made from m on
abbrev pub RunFrom : Machine → List Made → Type 0
RunFrom m [] = Unit {0}
RunFrom m (c ∷ cs) = AsPromised m c × RunFrom (left c) cs

-- what a run leaves
abbrev pub end : Machine → List Made → Machine
end m [] = m
end m (c ∷ cs) = end (left c) cs

abbrev pub calls_of : List Made → List rules.Call
calls_of run = map call_made run

abbrev pub answers_of : List Made → List rules.Answer
answers_of run = map answer_given run

-- the stores, the loads and the last commit of a run, read off its calls and what they answered, after the history h
abbrev pub history_by : History → List Made → History
history_by h run = history (calls_of run) (answers_of run) h

-- each call of a run, with the calls before it
abbrev pub EachMade : List Made → (List Made → Made → Type 0) → Type 0
EachMade run P = (before : List Made) (c : Made) (later : List Made) → run ≡ before ++ c ∷ later → P before c

-- every call of every run, from any machine on: made on what the calls before it left
abbrev pub EveryCall : (Machine → Made → Type 0) → Type 0
EveryCall P = (m : Machine) (run : List Made) → RunFrom m run → EachMade run (λ before c. P (end m before) c)

-- ---- a call of `State::start`

-- its figures, the cache and the memory that it found, what it handed back, and the cache as it left it (memory is lent to be read)
pub record StartMade : Type 0 where
  pub figures : Figures
  pub found : List ℕ
  pub memory : List ℕ
  pub gave : Started
  pub cache : List ℕ

abbrev pub start_left : StartMade → Machine
start_left s = record { state = s.gave.state; cache = s.cache; memory = s.memory }

-- what the contract of `start` promises of it
abbrev pub StartPromised : StartMade → Type 0
StartPromised s = Starts s.figures s.found s.memory s.gave s.cache

-- a start that answered ready
pub record AcceptedStart (s : StartMade) : Type 0 where
  pub promised : StartPromised s
  pub ready : s.gave.answer ≡ Ok tt

-- ---- claims about whole runs

-- of memory as found, the history before the run, the machine where the run begins, and the run
abbrev pub RunClaim : Type 1
RunClaim = List ℕ → History → Machine → List Made → Type 0

-- "A run after a start begins with what an accepted start left."
abbrev pub RunsAfterStart : RunClaim → Type 0
RunsAfterStart claim =
    (s : StartMade) → AcceptedStart s → (run : List Made) → RunFrom (start_left s) run
    → claim s.memory no_history (start_left s) run

-- a run from any well-formed state on: flat memory of the state is what was found, and what its queues hold is the history
abbrev pub RunsFromState : RunClaim → Type 0
RunsFromState claim =
    (m : Machine) → Formed (world_at m) → (run : List Made) → RunFrom m run
    → claim (flat_of (world_at m).hierarchy) (history_at (world_at m)) m run

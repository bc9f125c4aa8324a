-- What a start and a call on an image leave, and what show line answers, by the rules.
use Rattle.std.specs.Prelude.{ℕ, Bool, true, false, cond, List, [], Option, Some, None}
use Rattle.rules.specs.declared.Figures.{Figures}
use Rattle.rules.specs.Shape.{Queues, Hierarchy, World, fits}
use Rattle.rules.specs.Calls as rules
use Rattle.rules.specs.Runs.{StartAnswer, ready, start_refused, start_answer, start_world, refusal, outcome}
use Rattle.line_checks.specs.Refusal.{hierarchy}
use Rattle.model.specs.State.{queues_of, hierarchy_of}
use Rattle.model.specs.declared.State.{State}
use Rattle.images.specs.declared.Image.{Image}
use Rattle.nicoisetarn.specs.declared.AnswerImage.{AnswerImage}
use Rattle.nicoisetarn.specs.declared.ImageStep.{ImageStep}
use Rattle.images.specs.Images.{is_profile, figures_with, figures_of, opened_of, imaged_with, imaged_of, stands_for}
use Rattle.nicoisetarn.specs.Answers.{call_numbered, imaged_answer, ready_answer, no_such_call}

-- an answer, and what stands in the image, the cache and the memory after it
pub record Left : Type 0 where
  pub answer : AnswerImage
  pub image : Image
  pub cache : List ℕ
  pub memory : List ℕ

-- what is handed back, with the cache and the memory that are left
abbrev pub left_of : ImageStep → List ℕ → List ℕ → Left
left_of r cache memory = record { answer = r.answer; image = r.next; cache = cache; memory = memory }

-- nothing changes
abbrev pub kept : AnswerImage → Image → List ℕ → List ℕ → Left
kept a i cache memory = record { answer = a; image = i; cache = cache; memory = memory }

-- the state of a world
abbrev pub state_of : Queues → Hierarchy → State
state_of q b = record {
  figures = b.figures;
  size = b.size;
  last = q.last;
  committed = q.committed;
  request = q.request;
  stores = q.stores;
  loads = q.loads;
  checkpoints = q.checkpoints;
  tags = b.tags;
}

-- an answer, and the image of the state that is left
abbrev pub leaves : AnswerImage → Queues → Hierarchy → Left
leaves a q b = record { answer = a; image = imaged_of (state_of q b); cache = b.cache; memory = b.memory }

-- ---- start

-- by the rules' answer and world
abbrev pub started_by : StartAnswer → World → Image → List ℕ → List ℕ → Left
started_by ready w i cache memory = leaves ready_answer w.queues w.hierarchy
started_by (start_refused k) w i cache memory = kept (imaged_answer (rules.refused k)) i cache memory

-- an accepted start leaves the image of the started state, a refused one changes nothing
unfoldable pub started_with : Figures → Image → List ℕ → List ℕ → Left
started_with f i cache memory = started_by (start_answer f cache memory) (start_world f cache memory) i cache memory

-- a start by its numbers; where there is no such profile it is no call, and nothing changes
unfoldable pub started : ℕ → ℕ → ℕ → Image → List ℕ → List ℕ → Left
started sets ways profile i cache memory =
    cond (is_profile profile) (started_with (figures_with sets ways profile) i cache memory) (kept no_such_call i cache memory)

-- ---- a call

-- an image that stands for no state: 1 if its figures or a lent length are not allowed, else 10
unfoldable pub image_refusal : Image → List ℕ → List ℕ → ℕ
image_refusal i cache memory = cond (fits (hierarchy (figures_of i) i.size [] cache memory)) 10 1

-- what the rules make of the image's state
unfoldable pub outcome_from : rules.Call → Image → List ℕ → List ℕ → rules.Outcome
outcome_from c i cache memory = outcome c (queues_of (opened_of i)) (hierarchy_of (opened_of i) cache memory)

-- a call, if there is one of that number; a refused one changes nothing, and on an image that stands for no state every call is refused
unfoldable pub called : Option rules.Call → Image → List ℕ → List ℕ → Left
called None i cache memory = kept no_such_call i cache memory
called (Some c) i cache memory =
    let o = outcome_from c i cache memory in
    cond (stands_for i) (leaves (imaged_answer o.answer) o.queues o.hierarchy)
    (kept (imaged_answer (refusal c (image_refusal i cache memory))) i cache memory)

-- a call by its number
unfoldable pub stepped : ℕ → ℕ → ℕ → ℕ → Image → List ℕ → List ℕ → Left
stepped call x y z i cache memory = called (call_numbered call x y z) i cache memory

-- what show line answers: the rules' answer, and the empty part where the image stands for no state
unfoldable pub line_shown : ℕ → Image → List ℕ → List ℕ → AnswerImage
line_shown address i cache memory =
    imaged_answer (cond (stands_for i) (outcome_from (rules.show address) i cache memory).answer rules.empty_part)

-- ---- for the code

-- a call that may change records
abbrev pub changes_records : rules.Call → Bool
changes_records (rules.load a w) = false
changes_records (rules.store a w v) = false
changes_records (rules.retry i) = true
changes_records (rules.commit k) = true
changes_records (rules.abort n) = false
changes_records rules.idle = true
changes_records rules.reply = true
changes_records rules.flush = true
changes_records (rules.show a) = false
changes_records (rules.checkpoint x) = false
changes_records (rules.restore x) = false
changes_records rules.preview = false

-- the image of the state after a call, which keeps the images of records that do not change
abbrev pub next_image : rules.Call → Image → State → Image
next_image c i s = cond (changes_records c) (imaged_of s) (imaged_with i.tags s)

-- What is claimed of calls on images, each closed.
use Rattle.std.specs.Prelude.{ℕ, ◌<◌, ◌≤◌, ◌≡◌, Bool, true, false, ◌&&◌, List, [], ◌∷◌, ◌++◌, map, Option, Some}
use Rattle.rules.specs.Shape.{World}
use Rattle.rules.specs.Calls as rules
use Rattle.rules.specs.WellFormed.{well_formed}
use Rattle.rules.specs.Runs.{answers, after}
use Rattle.model.specs.State.{queues_of, hierarchy_of, world_of}
use Rattle.images.specs.Images.{opened_of, imaged_of, stands_for}
use Rattle.images.specs.declared.Image.{Image}
use Rattle.nicoisetarn.specs.Answers.{imaged_answer, no_such_call}
use Rattle.nicoisetarn.specs.Steps.{Left, kept, state_of, started, image_refusal, stepped, line_shown}
use Rattle.nicoisetarn.specs.Batch.{numbers_of, batch_fits, ran_answer, BatchLeft, called_all, ran, batch_refusals}

-- refused, with the image, the cache and the memory as they were
abbrev pub Keeps : Left → Image → List ℕ → List ℕ → Type 0
Keeps l i cache memory = l.answer.kind ≡ 0 → (l.image ≡ i) × (l.cache ≡ cache) × (l.memory ≡ memory)

pub record RefusedImagesKept : Type 0 where
  pub by-start : (sets ways profile : ℕ) (i : Image) (cache memory : List ℕ) → Keeps (started sets ways profile i cache memory) i cache memory
  pub by_call : (call x y z : ℕ) (i : Image) (cache memory : List ℕ) → Keeps (stepped call x y z i cache memory) i cache memory

pub record UnknownCallsKept : Type 0 where
  -- a number above 11 is no call: that is the answer, and everything stays
  pub told : (call x y z : ℕ) (i : Image) (cache memory : List ℕ) → 11 < call → stepped call x y z i cache memory ≡ kept no_such_call i cache memory
  -- no call answers so
  pub known : (call x y z : ℕ) (i : Image) (cache memory : List ℕ) → call ≤ 11 → (stepped call x y z i cache memory).answer ≡ no_such_call → ⊥
  -- a number above 1 is no profile: that is the answer to a start, and everything stays
  pub profile-told : (sets ways profile : ℕ) (i : Image) (cache memory : List ℕ) → 1 < profile → started sets ways profile i cache memory ≡ kept no_such_call i cache memory
  -- no other start answers so
  pub profile-known : (sets ways profile : ℕ) (i : Image) (cache memory : List ℕ) → profile ≤ 1 → (started sets ways profile i cache memory).answer ≡ no_such_call → ⊥

pub record LooksKept : Type 0 where
  -- call 8, show line, answers the look on shared bytes, and everything stays
  pub shown : (address y z : ℕ) (i : Image) (cache memory : List ℕ) → stepped 8 address y z i cache memory ≡ kept (line_shown address i cache memory) i cache memory
  -- call 11, preview: whatever it answers, everything stays
  pub previewed : (x y z : ℕ) (i : Image) (cache memory : List ℕ) → stepped 11 x y z i cache memory ≡ kept (stepped 11 x y z i cache memory).answer i cache memory

-- ---- batches

-- the numbers of the rules' answers to a run
unfoldable pub answers_numbered : List rules.Answer → List ℕ
answers_numbered [] = []
answers_numbered (a ∷ rest) = numbers_of (imaged_answer a) ++ answers_numbered rest

-- a run of the rules, from a world on, as a batch leaves it
unfoldable pub run_left : List rules.Call → World → BatchLeft
run_left run w =
    let end = after run w in
    record {
      answer = ran_answer;
      image = imaged_of (state_of end.queues end.hierarchy);
      answers = answers_numbered (answers run w);
      cache = end.hierarchy.cache;
      memory = end.hierarchy.memory;
    }

-- the image stands for a state that is well formed
abbrev pub formed_image : Image → List ℕ → List ℕ → Bool
formed_image i cache memory = stands_for i && well_formed (queues_of (opened_of i)) (hierarchy_of (opened_of i) cache memory)

pub record BatchesAreRuns : Type 0 where
  -- from an image that stands for a state: the rules' answers to the list of calls, and what they leave
  pub by-rules :
      (run : List rules.Call) (i : Image) (cache memory : List ℕ) → stands_for i ≡ true
      → called_all (map Some run) i cache memory ≡ run_left run (world_of (opened_of i) cache memory)
  -- from any other, and from one whose state is not well formed: every call gets the refusal 1 or 10 (show line the empty part, an
  -- unknown call its own answer), and image, cache and memory stay
  pub refused :
      (os : List (Option rules.Call)) (i : Image) (cache memory : List ℕ) → formed_image i cache memory ≡ false
      → called_all os i cache memory ≡ record { answer = ran_answer; image = i; answers = batch_refusals (image_refusal i cache memory) os; cache = cache; memory = memory }
  -- "no such call" is answered exactly where the lengths do not fit, and everything stays
  pub unfit :
      (calls answers : List ℕ) (i : Image) (cache memory : List ℕ) → batch_fits calls answers ≡ false
      → ran calls answers i cache memory ≡ record { answer = no_such_call; image = i; answers = answers; cache = cache; memory = memory }
  pub fit :
      (calls answers : List ℕ) (i : Image) (cache memory : List ℕ) → batch_fits calls answers ≡ true
      → (ran calls answers i cache memory).answer ≡ ran_answer

-- A batch: a list of calls by numbers, made one after the other on an image, and the list of their answers.
use Rattle.std.specs.Prelude.{ℕ, zero, suc, ◌*◌, ◌/◌, ◌%◌, ◌≡◌, Bool, cond, ◌&&◌, List, [], ◌∷◌, ◌++◌, eqb, length, get_or, drop, Option, Some, None}
use Rattle.rules.specs.Shape.{World}
use Rattle.rules.specs.Calls as rules
use Rattle.rules.specs.Runs.{refusal, answer, next}
use Rattle.images.specs.declared.Image.{Image}
use Rattle.nicoisetarn.specs.declared.AnswerImage.{AnswerImage}
use Rattle.nicoisetarn.specs.declared.ImageStep.{ImageStep}
use Rattle.nicoisetarn.specs.Answers.{call_numbered, imaged_answer, coded, no_such_call}
use Rattle.nicoisetarn.specs.Steps.{called}

-- ---- the two lists

-- how many numbers a call has in the list of calls, and an answer in that of the answers
abbrev pub call_stride : ℕ
call_stride = 6

abbrev pub answer_stride : ℕ
answer_stride = 6

-- the call at the front of a list: its number and three operands; of the two numbers behind them, which no call has yet, both are 0, or
-- there is no such call
unfoldable pub call_listed : List ℕ → Option rules.Call
call_listed l =
    cond (eqb (get_or l 4 0) 0 && eqb (get_or l 5 0) 0) (call_numbered (get_or l 0 0) (get_or l 1 0) (get_or l 2 0) (get_or l 3 0)) None

-- the first n calls of a list
unfoldable pub calls_listed : ℕ → List ℕ → List (Option rules.Call)
calls_listed zero l = []
calls_listed (suc n) l = call_listed l ∷ calls_listed n (drop call_stride l)

-- the numbers of an answer
abbrev pub numbers_of : AnswerImage → List ℕ
numbers_of a = a.kind ∷ a.first ∷ a.second ∷ a.third ∷ a.fourth ∷ a.fifth ∷ []

-- the length of the calls is a multiple of their stride, and there is room for just as many answers
unfoldable pub batch_fits : List ℕ → List ℕ → Bool
batch_fits calls answers =
    eqb (length calls % call_stride) 0 && eqb (length answers) (answer_stride * (length calls / call_stride))

-- ---- a batch on an image

-- the answer to a batch that was made: the boundary's own
abbrev pub ran_answer : AnswerImage
ran_answer = coded 254 0 0

-- an answer, and what stands in the image, the list of answers, the cache and the memory after it
pub record BatchLeft : Type 0 where
  pub answer : AnswerImage
  pub image : Image
  pub answers : List ℕ
  pub cache : List ℕ
  pub memory : List ℕ

-- the calls one after the other, each on what the one before it left, with their answers one behind the other
unfoldable pub called_all : List (Option rules.Call) → Image → List ℕ → List ℕ → BatchLeft
called_all [] i cache memory = record { answer = ran_answer; image = i; answers = []; cache = cache; memory = memory }
called_all (o ∷ os) i cache memory =
    let first = called o i cache memory in
    let rest = called_all os first.image first.cache first.memory in
    record {
      answer = ran_answer;
      image = rest.image;
      answers = numbers_of first.answer ++ rest.answers;
      cache = rest.cache;
      memory = rest.memory;
    }

-- a batch; where the lengths do not fit there is no such call, and nothing changes
unfoldable pub ran : List ℕ → List ℕ → Image → List ℕ → List ℕ → BatchLeft
ran calls answers i cache memory =
    cond (batch_fits calls answers) (called_all (calls_listed (length calls / call_stride) calls) i cache memory)
    (record { answer = no_such_call; image = i; answers = answers; cache = cache; memory = memory })

-- ---- for the code

-- what is handed back, with the answers, the cache and the memory that are left
abbrev pub batch_left_of : ImageStep → List ℕ → List ℕ → List ℕ → BatchLeft
batch_left_of r answers cache memory =
    record { answer = r.answer; image = r.next; answers = answers; cache = cache; memory = memory }

-- what a call of the list answers at a world, and the world after it
abbrev pub listed_answer : Option rules.Call → World → AnswerImage
listed_answer None w = no_such_call
listed_answer (Some c) w = imaged_answer (answer c w)

abbrev pub listed_next : Option rules.Call → World → World
listed_next None w = w
listed_next (Some c) w = next c w

-- the numbers of the answers to all of them, and the world after all
unfoldable pub batch_answers : List (Option rules.Call) → World → List ℕ
batch_answers [] w = []
batch_answers (o ∷ os) w = numbers_of (listed_answer o w) ++ batch_answers os (listed_next o w)

unfoldable pub batch_end : List (Option rules.Call) → World → World
batch_end [] w = w
batch_end (o ∷ os) w = batch_end os (listed_next o w)

-- the calls were made: the world after them, and the numbers of their answers
pub record MakesCalls (os : List (Option rules.Call)) (before after : World) (answers : List ℕ) : Type 0 where
  pub end : after ≡ batch_end os before
  pub told : answers ≡ batch_answers os before

-- what a call of the list answers where checks 1 and 10 refuse with k, and the numbers of the answers to all of them
abbrev pub listed_refusal : ℕ → Option rules.Call → AnswerImage
listed_refusal k None = no_such_call
listed_refusal k (Some c) = imaged_answer (refusal c k)

unfoldable pub batch_refusals : ℕ → List (Option rules.Call) → List ℕ
batch_refusals k [] = []
batch_refusals k (o ∷ os) = numbers_of (listed_refusal k o) ++ batch_refusals k os

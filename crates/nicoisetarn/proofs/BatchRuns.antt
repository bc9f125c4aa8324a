-- What a batch leaves on an image: on the state that it stands for, and where it is refused; and that this is the rules' run.
use Prim.Native.Nat.{ℕ, ◌*◌, ◌/◌, ◌%◌}
use mathlib.Core.Path.{◌≡◌, refl, sym, ◌∙◌, ap, ap₂}
use mathlib.Core.Bool.{Bool, true, false, ◌&&◌}
use mathlib.Core.List.{List, [], ◌∷◌, ◌++◌, map}
use Rattle.std.specs.Prelude.{Option, Some, None}
use native.Mathlib.Omega.{arith}
use lib.Dec.{eqb}
use lib.ListN.{length}
use borrow.Author.Tests.{eqb-true}
use Rattle.lists.proofs.Cond.{cases, and_left, and_right}
use Rattle.rules.specs.Shape.{World, world, fits}
use Rattle.rules.specs.Calls.{guarded}
use Rattle.rules.specs.Calls as rules
use Rattle.rules.specs.WellFormed.{well_formed}
use Rattle.rules.specs.Runs.{state_checks, refusal, outcome, answer, next, answers, after}
use Rattle.model.specs.State.{queues_of, hierarchy_of, world_of}
use Rattle.model.specs.declared.State.{State}
use Rattle.model.proofs.Calls.{state-number, state-refuses, early}
use Rattle.images.specs.declared.Image.{Image}
use Rattle.images.specs.Images.{opened_with, opened_of, imaged_of, stands_for}
use Rattle.images.proofs.Standing.{images-stand}
use Rattle.nicoisetarn.specs.declared.ImageStep.{ImageStep}
use Rattle.nicoisetarn.specs.Answers.{imaged_answer, no_such_call}
use Rattle.nicoisetarn.specs.Steps.{Left, leaves, state_of, image_refusal, outcome_from, called}
use Rattle.nicoisetarn.specs.Batch.{calls_listed, numbers_of, batch_fits, ran_answer, BatchLeft, called_all, ran, batch_left_of, listed_answer, listed_next, batch_answers, batch_end, MakesCalls, listed_refusal, batch_refusals}
use Rattle.nicoisetarn.specs.Claims.{answers_numbered, run_left, formed_image, BatchesAreRuns}

-- ---- lengths that fit

pub fits-tell : (calls answers : List ℕ) → batch_fits calls answers ≡ true
    → (length calls ≡ 6 * (length calls / 6)) × (length answers ≡ 6 * (length calls / 6))
unfolding batch_fits
fits-tell calls answers e =
    let whole = eqb-true (length calls % 6) 0 (and_left (eqb (length calls % 6) 0) _ e) in
    (omega arith, eqb-true (length answers) (6 * (length calls / 6)) (and_right (eqb (length calls % 6) 0) _ e))

pub fits_told : (calls answers : List ℕ) (t : Bool) → t ≡ (eqb (length calls % 6) 0 && eqb (length answers) (6 * (length calls / 6))) → batch_fits calls answers ≡ t
unfolding batch_fits
fits_told calls answers t e = sym e

-- ---- the calls on a state

-- the first call's answer before what the others left
abbrev then : List ℕ → BatchLeft → BatchLeft
then xs l = record { answer = ran_answer; image = l.image; answers = xs ++ l.answers; cache = l.cache; memory = l.memory }

-- a world, and the answers
abbrev left_at : World → List ℕ → BatchLeft
left_at w told = record {
  answer = ran_answer;
  image = imaged_of (state_of w.queues w.hierarchy);
  answers = told;
  cache = w.hierarchy.cache;
  memory = w.hierarchy.memory;
}

module _ (c : rules.Call) (s : State) (cache memory : List ℕ) where
  -- a call on the image of a state
  called-state :
      called (Some c) (imaged_of s) cache memory
      ≡ leaves (imaged_answer (answer c (world_of s cache memory))) (next c (world_of s cache memory)).queues (next c (world_of s cache memory)).hierarchy
  unfolding called outcome_from answer next
  called-state =
      rw (images-stand.stand s)
      (ap (λ (z : State). let o = outcome c (queues_of z) (hierarchy_of z cache memory) in leaves (imaged_answer o.answer) o.queues o.hierarchy) (images-stand.opened s))

on-state : (os : List (Option rules.Call)) (s : State) (cache memory : List ℕ)
    → left_at (batch_end os (world_of s cache memory)) (batch_answers os (world_of s cache memory)) ≡ called_all os (imaged_of s) cache memory
unfolding called_all batch_answers batch_end called
on-state [] s cache memory = refl
on-state (None ∷ os) s cache memory = ap (then (numbers_of no_such_call)) (on-state os s cache memory)
on-state (Some c ∷ os) s cache memory =
    let w = next c (world_of s cache memory) in
    ap (then (numbers_of (imaged_answer (answer c (world_of s cache memory))))) (on-state os (state_of w.queues w.hierarchy) w.hierarchy.cache w.hierarchy.memory)
    ∙ ap (λ (l : Left). then (numbers_of l.answer) (called_all os l.image l.cache l.memory)) (sym (called-state c s cache memory))

-- the calls on the state that an image stands for
on-image : (os : List (Option rules.Call)) (i : Image) (cache memory : List ℕ) → stands_for i ≡ true
    → left_at (batch_end os (world_of (opened_of i) cache memory)) (batch_answers os (world_of (opened_of i) cache memory)) ≡ called_all os i cache memory
on-image os i cache memory stands = on-state os (opened_of i) cache memory ∙ ap (λ (j : Image). called_all os j cache memory) (images-stand.imaged i stands)

-- ---- an image that is refused

-- a state that is not well formed refuses every call with one number, and stays
module _ (w : World) (k : ℕ) (e : k ≡ guarded (state_checks w.queues w.hierarchy) (λ j. j) 0) (n : k ≡ 0 → ⊥) where
  all-refused : (c : rules.Call) → outcome c w.queues w.hierarchy ≡ rules.unchanged (refusal c k) w.queues w.hierarchy
  all-refused c = state-refuses c w.queues w.hierarchy k (state-number w.queues w.hierarchy k e n) (early c w.hierarchy)

  stays : (o : Option rules.Call) → listed_next o w ≡ w
  unfolding next
  stays None = refl
  stays (Some c) = ap (λ (o : rules.Outcome). world o.queues o.hierarchy) (all-refused c)

  refuses : (o : Option rules.Call) → listed_answer o w ≡ listed_refusal k o
  unfolding answer
  refuses None = refl
  refuses (Some c) = ap (λ (o : rules.Outcome). imaged_answer o.answer) (all-refused c)

  stuck-end : (os : List (Option rules.Call)) → batch_end os w ≡ w
  unfolding batch_end
  stuck-end [] = refl
  stuck-end (o ∷ os) = rw (stays o) (stuck-end os)

  stuck-answers : (os : List (Option rules.Call)) → batch_answers os w ≡ batch_refusals k os
  unfolding batch_answers batch_refusals
  stuck-answers [] = refl
  stuck-answers (o ∷ os) = rw (stays o, refuses o) (ap (λ (l : List ℕ). numbers_of (listed_refusal k o) ++ l) (stuck-answers os))

-- image, cache and memory stay, and the answers are these
abbrev refused_left : List ℕ → Image → List ℕ → List ℕ → BatchLeft
refused_left told i cache memory = record { answer = ran_answer; image = i; answers = told; cache = cache; memory = memory }

module _ (i : Image) (cache memory : List ℕ) where
  -- it stands for no state
  no-state : stands_for i ≡ false → (os : List (Option rules.Call)) → called_all os i cache memory ≡ refused_left (batch_refusals (image_refusal i cache memory) os) i cache memory
  unfolding called_all batch_refusals called
  no-state stands [] = refl
  no-state stands (None ∷ os) = ap (then (numbers_of no_such_call)) (no-state stands os)
  no-state stands (Some c ∷ os) = rw stands (ap (then (numbers_of (listed_refusal (image_refusal i cache memory) (Some c)))) (no-state stands os))

  -- its state is not well formed: the refusal is the number of checks 1 and 10
  refusal_is :
      well_formed (queues_of (opened_of i)) (hierarchy_of (opened_of i) cache memory) ≡ false
      → (image_refusal i cache memory ≡ guarded (state_checks (queues_of (opened_of i)) (hierarchy_of (opened_of i) cache memory)) (λ j. j) 0) × (image_refusal i cache memory ≡ 0 → ⊥)
  unfolding image_refusal guarded fits opened_of opened_with
  refusal_is bad =
      cases (fits (hierarchy_of (opened_of i) cache memory))
      (λ f. let z : image_refusal i cache memory ≡ 10 = rw f in (z ∙ rw (f, bad), λ y. omega arith))
      (λ f. let z : image_refusal i cache memory ≡ 1 = rw f in (z ∙ rw f, λ y. omega arith))

  not-formed : stands_for i ≡ true → well_formed (queues_of (opened_of i)) (hierarchy_of (opened_of i) cache memory) ≡ false → (os : List (Option rules.Call))
      → called_all os i cache memory ≡ refused_left (batch_refusals (image_refusal i cache memory) os) i cache memory
  not-formed stands bad os =
      let w = world_of (opened_of i) cache memory in
      let is = refusal_is bad in
      sym (on-image os i cache memory stands)
      ∙ ap₂ left_at (stuck-end w _ is.0 is.1 os) (stuck-answers w _ is.0 is.1 os)
      ∙ ap (λ (j : Image). refused_left (batch_refusals (image_refusal i cache memory) os) j cache memory) (images-stand.imaged i stands)

  refused : (os : List (Option rules.Call)) → formed_image i cache memory ≡ false
      → called_all os i cache memory ≡ refused_left (batch_refusals (image_refusal i cache memory) os) i cache memory
  refused os e = cases (stands_for i) (λ t. not-formed t (rw t at e) os) (λ t. no-state t os)

-- ---- in code

module _ (calls answers : List ℕ) (i : Image) (cache memory : List ℕ) where
  abbrev listed : List (Option rules.Call)
  listed = calls_listed (length calls / 6) calls

  pub batch-unfit : batch_fits calls answers ≡ false → (t : ImageStep) → t.answer ≡ no_such_call → t.next ≡ i
      → batch_left_of t answers cache memory ≡ ran calls answers i cache memory
  unfolding ran
  batch-unfit f t said kept =
      (λ j. record { answer = said j; image = kept j; answers = answers; cache = cache; memory = memory }) ∙ rw f

  module _ (fit : batch_fits calls answers ≡ true) where
    pub batch-made :
        stands_for i ≡ true → (s end : State) (cache' memory' answers' : List ℕ) → s ≡ opened_of i
        → MakesCalls listed (world_of s cache memory) (world_of end cache' memory') answers' → (t : ImageStep) → t.answer ≡ ran_answer → t.next ≡ imaged_of end
        → batch_left_of t answers' cache' memory' ≡ ran calls answers i cache memory
    unfolding ran
    batch-made stands s end cache' memory' answers' o made t said next =
        (λ j. record { answer = said j; image = next j; answers = answers'; cache = cache'; memory = memory' })
        ∙ ap₂ left_at (made.end ∙ ap (λ (z : State). batch_end listed (world_of z cache memory)) o) (made.told ∙ ap (λ (z : State). batch_answers listed (world_of z cache memory)) o)
        ∙ on-image listed i cache memory stands ∙ rw fit

    pub batch-refused :
        formed_image i cache memory ≡ false → (k : ℕ) → k ≡ image_refusal i cache memory → (answers' : List ℕ) → answers' ≡ batch_refusals k listed
        → (t : ImageStep) → t.answer ≡ ran_answer → t.next ≡ i → batch_left_of t answers' cache memory ≡ ran calls answers i cache memory
    unfolding ran
    batch-refused bad k e answers' told t said kept =
        (λ j. record { answer = said j; image = kept j; answers = (told ∙ ap (λ (k : ℕ). batch_refusals k listed) e) j; cache = cache; memory = memory })
        ∙ sym (refused i cache memory listed bad) ∙ rw fit

-- the image stands for no state, or for one that is not well formed
pub no-state-unformed : (i : Image) (cache memory : List ℕ) → stands_for i ≡ false → formed_image i cache memory ≡ false
no-state-unformed i cache memory t = rw t

pub unformed : (i : Image) (cache memory : List ℕ) (s : State) → s ≡ opened_of i → well_formed (queues_of s) (hierarchy_of s cache memory) ≡ false → formed_image i cache memory ≡ false
unformed i cache memory s o f =
    let bad : well_formed (queues_of (opened_of i)) (hierarchy_of (opened_of i) cache memory) ≡ false = rw (sym o) f in
    cases (stands_for i) (λ t. rw (t, bad)) (λ t. rw t)

-- ---- known calls

answered : (run : List rules.Call) (w : World) → batch_answers (map Some run) w ≡ answers_numbered (answers run w)
unfolding batch_answers answers_numbered answers
answered [] w = refl
answered (c ∷ run) w = ap (λ (l : List ℕ). numbers_of (imaged_answer (answer c w)) ++ l) (answered run (next c w))

ended : (run : List rules.Call) (w : World) → batch_end (map Some run) w ≡ after run w
unfolding batch_end after
ended [] w = refl
ended (c ∷ run) w = ended run (next c w)

by-rules : (run : List rules.Call) (i : Image) (cache memory : List ℕ) → stands_for i ≡ true
    → called_all (map Some run) i cache memory ≡ run_left run (world_of (opened_of i) cache memory)
unfolding run_left
by-rules run i cache memory stands =
    let w = world_of (opened_of i) cache memory in
    sym (on-image (map Some run) i cache memory stands) ∙ ap₂ left_at (ended run w) (answered run w)

module _ (calls answers : List ℕ) (i : Image) (cache memory : List ℕ) where
  unfit : batch_fits calls answers ≡ false → ran calls answers i cache memory ≡ record { answer = no_such_call; image = i; answers = answers; cache = cache; memory = memory }
  unfolding ran
  unfit f = rw f

  all-ran : (os : List (Option rules.Call)) → (called_all os i cache memory).answer ≡ ran_answer
  unfolding called_all
  all-ran [] = refl
  all-ran (o ∷ os) = refl

  fit : batch_fits calls answers ≡ true → (ran calls answers i cache memory).answer ≡ ran_answer
  unfolding ran
  fit f = rw f (all-ran (calls_listed (length calls / 6) calls))

pub batches-are-runs : BatchesAreRuns
batches-are-runs =
    record { by-rules = by-rules; refused = λ os i cache memory. refused i cache memory os; unfit = unfit; fit = fit }

-- A batch, call by call: the two lists, and what stands of a batch after so many calls and at its end.
use Prim.Native.Nat.{ℕ, suc, ◌+◌, ◌*◌, ◌-◌, ◌≤◌, ◌<◌}
use mathlib.Core.Path.{◌≡◌, refl, sym, ◌∙◌, ap, subst}
use mathlib.Core.List.{List, [], ◌∷◌, ◌++◌, append-nil, append_assoc}
use Rattle.std.specs.Prelude.{Option, Some, None}
use native.Mathlib.Omega.{arith}
use lib.ListN.{length, get_or, take, drop, length-append}
use lib.Seq.{sets, sets-eq, get_or-take, take_at, take_all, drop-drop, length-take-le}
use borrow.Rule.Slice.PartMut.{put_mid}
use Rattle.std.proofs.lemmas.Slice.{put_mid-paste}
use borrow.Author.Tests.{eq-eqb, ne_eqb}
use Rattle.rules.specs.Shape.{World, world}
use Rattle.rules.specs.Calls as rules
use Rattle.rules.specs.Runs.{outcome, answer, next}
use Rattle.rules.specs.Kept as Kept
use Rattle.rules.proofs.Kept.{next-kept}
use Rattle.model.specs.State.{queues_of, hierarchy_of, world_of, answer_of, outcome_of, Formed}
use Rattle.model.specs.declared.State.{State}
use Rattle.model.specs.declared.Step.{Step}
use Rattle.nicoisetarn.specs.declared.AnswerImage.{AnswerImage}
use Rattle.nicoisetarn.specs.Answers.{call_numbered, imaged_answer, no_such_call}
use Rattle.nicoisetarn.specs.Batch.{call_listed, calls_listed, numbers_of, listed_answer, listed_next, batch_answers, batch_end, MakesCalls, listed_refusal, batch_refusals}
use Rattle.nicoisetarn.proofs.ShownPart.{image-over}

-- ---- the list of calls

-- the calls behind the first i of n
abbrev pub calls_left : ℕ → ℕ → List ℕ → List (Option rules.Call)
calls_left n i calls = calls_listed (n - i) (drop (6 * i) calls)

module _ (n i : ℕ) (calls : List ℕ) (more : i < n) where
  pub call_next : calls_left n i calls ≡ call_listed (drop (6 * i) calls) ∷ calls_left n (i + 1) calls
  unfolding calls_listed
  call_next =
      let e : n - i ≡ suc (n - (i + 1)) = omega arith in
      let d : 6 * i + 6 ≡ 6 * (i + 1) = omega arith in
      rw e (ap (λ (l : List ℕ). call_listed (drop (6 * i) calls) ∷ calls_listed (n - (i + 1)) l) (drop-drop 6 (6 * i) calls ∙ ap (λ (k : ℕ). drop k calls) d))

no_call : (n : ℕ) (calls : List ℕ) → calls_left n n calls ≡ []
unfolding calls_listed
no_call n calls = let e : n - n ≡ 0 = omega arith in rw e

all-calls : (n : ℕ) (calls : List ℕ) → calls_left n 0 calls ≡ calls_listed n calls
all-calls n calls = let e : n - 0 ≡ n = omega arith in rw e

-- the call at the front, by the first six numbers
module _ (l : List ℕ) (n : ℕ) (six : n ≡ 6) where
  abbrev number : ℕ → ℕ
  number k = get_or (take n l) k 0

  first : (k : ℕ) → k < 6 → number k ≡ get_or l k 0
  first k h = get_or-take n l k 0 (omega arith)

  pub listed-fifth : (number 4 ≡ 0 → ⊥) → None ≡ call_listed l
  unfolding call_listed
  listed-fifth h = rw (sym (first 4 (omega arith)), ne_eqb (number 4) 0 h)

  module _ (e : number 4 ≡ 0) where
    pub listed-sixth : (number 5 ≡ 0 → ⊥) → None ≡ call_listed l
    unfolding call_listed
    listed-sixth h = rw (sym (first 4 (omega arith)), sym (first 5 (omega arith)), eq-eqb (number 4) 0 e, ne_eqb (number 5) 0 h)

    pub listed-known : number 5 ≡ 0 → (o : Option rules.Call) → o ≡ call_numbered (number 0) (number 1) (number 2) (number 3) → o ≡ call_listed l
    unfolding call_listed
    listed-known f o is =
        is
        ∙ rw (first 0 (omega arith), first 1 (omega arith), first 2 (omega arith), first 3 (omega arith), sym (first 4 (omega arith)), sym (first 5 (omega arith)), eq-eqb (number 4) 0 e, eq-eqb (number 5) 0 f)

-- ---- the answers: those that are there, then the others

-- six numbers, put in the place of six
pub put_six : (l ys : List ℕ) (at k : ℕ) (a : AnswerImage) → at + 6 ≤ length l → k ≡ 6 → ys ≡ numbers_of a → put_mid at k l ys ≡ sets l at (numbers_of a)
put_six l ys at k a room e y = put_mid-paste at k l ys (numbers_of a) 6 y (sym e) refl ∙ sym (sets-eq (numbers_of a) l at room)

-- none is there yet
answers-none : (answers tail : List ℕ) → tail ≡ take (6 * 0) answers ++ tail
answers-none answers tail = refl

-- one more is put
answers-more : (answers xs tail : List ℕ) (i : ℕ) → length xs ≡ 6 → 6 * (i + 1) ≤ length answers
    → take (6 * i) answers ++ (xs ++ tail) ≡ take (6 * (i + 1)) (sets answers (6 * i) xs) ++ tail
answers-more answers xs tail i six room =
    let long : length (take (6 * i) answers ++ xs) ≡ 6 * (i + 1) = length-append (take (6 * i) answers) xs ∙ omega (arith, length-take-le (6 * i) answers (omega arith)) in
    sym (append_assoc (take (6 * i) answers) xs tail)
    ∙ ap (λ (l : List ℕ). l ++ tail)
    (sym (ap (take (6 * (i + 1))) (sets-eq xs answers (6 * i) (omega arith)) ∙ take_at (take (6 * i) answers ++ xs) _ (6 * (i + 1)) long))

-- all are there
answers-all : (answers : List ℕ) (n : ℕ) → length answers ≡ 6 * n → take (6 * n) answers ++ [] ≡ answers
answers-all answers n e = append-nil (take (6 * n) answers) ∙ take_all (6 * n) answers (omega arith)

-- ---- every call refused

module _ (k n : ℕ) (calls : List ℕ) where
  -- after the first i calls
  abbrev pub Refused : ℕ → List ℕ → Type 0
  Refused i answers = batch_refusals k (calls_listed n calls) ≡ take (6 * i) answers ++ batch_refusals k (calls_left n i calls)

  pub refused_none : (answers : List ℕ) → Refused 0 answers
  refused_none answers = ap (batch_refusals k) (sym (all-calls n calls)) ∙ answers-none answers _

  pub refused-more :
      (i : ℕ) (answers answers' : List ℕ) (o : Option rules.Call) (a : AnswerImage) → i < n → 6 * (i + 1) ≤ length answers
      → o ≡ call_listed (drop (6 * i) calls) → a ≡ listed_refusal k o → answers' ≡ sets answers (6 * i) (numbers_of a) → Refused i answers → Refused (i + 1) answers'
  unfolding batch_refusals
  refused-more i answers answers' o a more room at is put so_far =
      so_far
      ∙ ap (λ (os : List (Option rules.Call)). take (6 * i) answers ++ batch_refusals k os) (call_next n i calls more)
      ∙ answers-more answers (numbers_of (listed_refusal k (call_listed (drop (6 * i) calls)))) (batch_refusals k (calls_left n (i + 1) calls)) i refl room
      ∙ rw (put, is, at)

  pub refused_all : (answers : List ℕ) → length answers ≡ 6 * n → Refused n answers → answers ≡ batch_refusals k (calls_listed n calls)
  unfolding batch_refusals
  refused_all answers long so_far =
      sym (so_far ∙ ap (λ (os : List (Option rules.Call)). take (6 * n) answers ++ batch_refusals k os) (no_call n calls) ∙ answers-all answers n long)

-- ---- every call made

module _ (n : ℕ) (calls : List ℕ) (from : World) where
  -- after the first i calls, at the world w
  pub record Made (i : ℕ) (w : World) (answers : List ℕ) : Type 0 where
    pub left : batch_end (calls_listed n calls) from ≡ batch_end (calls_left n i calls) w
    pub told : batch_answers (calls_listed n calls) from ≡ take (6 * i) answers ++ batch_answers (calls_left n i calls) w

  pub made_none : (answers : List ℕ) → Made 0 from answers
  made_none answers =
      record {
        left = ap (λ (os : List (Option rules.Call)). batch_end os from) (sym (all-calls n calls));
        told = ap (λ (os : List (Option rules.Call)). batch_answers os from) (sym (all-calls n calls)) ∙ answers-none answers _;
      }

  pub made_more :
      (i : ℕ) (w w' : World) (answers answers' : List ℕ) (o : Option rules.Call) (a : AnswerImage) → i < n → 6 * (i + 1) ≤ length answers
      → o ≡ call_listed (drop (6 * i) calls) → a ≡ listed_answer o w → w' ≡ listed_next o w → answers' ≡ sets answers (6 * i) (numbers_of a)
      → Made i w answers → Made (i + 1) w' answers'
  unfolding batch_answers batch_end
  made_more i w w' answers answers' o a more room at is goes put so_far =
      let next = call_next n i calls more in
      record {
        left = so_far.left ∙ ap (λ (os : List (Option rules.Call)). batch_end os w) next ∙ rw (goes, at);
        told =
            so_far.told
            ∙ ap (λ (os : List (Option rules.Call)). take (6 * i) answers ++ batch_answers os w) next
            ∙ answers-more answers (numbers_of (listed_answer (call_listed (drop (6 * i) calls)) w)) (batch_answers (calls_left n (i + 1) calls) (listed_next (call_listed (drop (6 * i) calls)) w)) i refl room
            ∙ rw (put, is, goes, at);
      }

  pub made_all : (w : World) (answers : List ℕ) → length answers ≡ 6 * n → Made n w answers → MakesCalls (calls_listed n calls) from w answers
  unfolding batch_answers batch_end
  made_all w answers long so_far =
      record {
        end = sym (so_far.left ∙ ap (λ (os : List (Option rules.Call)). batch_end os w) (no_call n calls));
        told = sym (so_far.told ∙ ap (λ (os : List (Option rules.Call)). take (6 * n) answers ++ batch_answers os w) (no_call n calls) ∙ answers-all answers n long);
      }

-- the same in code: the state is well formed after each call
module _ (n : ℕ) (calls : List ℕ) (from : World) where
  pub record Going (i : ℕ) (s : State) (cache memory answers : List ℕ) : Type 0 where
    pub formed : Formed s cache memory
    pub made : Made n calls from i (world_of s cache memory) answers

  pub going-same :
      {i : ℕ} {s s' : State} {cache cache' memory memory' answers answers' : List ℕ} → answers' ≡ answers → cache' ≡ cache → memory' ≡ memory → s' ≡ s
      → Going i s cache memory answers → Going i s' cache' memory' answers'
  going-same a c m s g = rw (a, c, m, s) g

  module _ (i : ℕ) (s : State) (cache memory answers : List ℕ) (more : i < n) (room : 6 * (i + 1) ≤ length answers) (g : Going i s cache memory answers) where
    -- a call was made
    pub going-call :
        (c : rules.Call) (r : Step) (a : AnswerImage) (cache' memory' answers' : List ℕ) → Some c ≡ call_listed (drop (6 * i) calls)
        → outcome_of r cache' memory' ≡ outcome c (queues_of s) (hierarchy_of s cache memory) → a ≡ imaged_answer (answer_of r.answer [])
        → answers' ≡ sets answers (6 * i) (numbers_of a) → Going (i + 1) r.next cache' memory' answers'
    unfolding answer next
    going-call c r a cache' memory' answers' at did is put =
        let w = world_of s cache memory in
        let goes : world_of r.next cache' memory' ≡ next c w = ap (λ (o : rules.Outcome). world o.queues o.hierarchy) did in
        let said : a ≡ listed_answer (Some c) w = image-over a r.answer cache' is ∙ ap (λ (o : rules.Outcome). imaged_answer o.answer) did in
        record {
          formed = subst (λ (v : World). Kept.Formed v) (sym goes) (next-kept c w g.formed);
          made = made_more n calls from i w _ answers answers' (Some c) a more room at said goes put g.made;
        }

    -- there was no such call
    pub going-none :
        (a : AnswerImage) (answers' : List ℕ) → None ≡ call_listed (drop (6 * i) calls) → a ≡ no_such_call
        → answers' ≡ sets answers (6 * i) (numbers_of a) → Going (i + 1) s cache memory answers'
    going-none a answers' at is put =
        record {
          formed = g.formed;
          made = made_more n calls from i (world_of s cache memory) _ answers answers' None a more room at is refl put g.made;
        }

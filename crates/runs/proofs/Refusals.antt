-- Refusals of the code: each exactly under its condition, and none changes anything.
use mathlib.Core.Path.{◌≡◌, refl, sym, ◌∙◌, ap}
use mathlib.Core.Bool.{false}
use Rattle.lists.proofs.Cond.{cases}
use Rattle.rules.specs.Shape.{World}
use Rattle.rules.specs.Calls.{is_accepted}
use Rattle.rules.specs.Runs.{ready, start_refused, start_allowed, start_answer, start_world, unstarted}
use Rattle.rules.specs.Refusals as of-rules
use Rattle.rules.proofs.Checks.{refused-keeps, refused-exactly}
use Rattle.model.specs.State.{answer_of}
use Rattle.model.specs.Starts.{start_answer_of}
use Rattle.model.specs.declared.Answer as code
use Rattle.std.specs.Bool.{⊤}
use Rattle.std.proofs.Common.{Result, Ok, Err}
use Rattle.rules.specs.declared.Refusal.{Refusal}
use Rattle.rules.specs.declared.Refusal.TheVariants.{BadFigures, BadWidth, Misaligned, OutsideMemory, ValueTooLarge, MalformedLine, NotWellFormed, StoreQueueFull, LoadQueueFull, NumbersUsedUp, NoWaitingLoad, BadCommit, BadAbort, NothingRequested, CommittedStoreHeld, BadName, NameInUse, CheckpointUnavailable, BadStudy}
use Rattle.rules.specs.RefusalNumbers.{refusal_number}
use native.Mathlib.Omega.{arith}
use Rattle.runs.specs.Machines.{Machine, Made, StartMade, world_at, left, call_made, accepted_call, StartPromised}
use Rattle.runs.specs.Refusals.{RefusesExactly, StartRefusesExactly, RefusalsOfCode, RefusedOfCode}
use Rattle.runs.proofs.Machines.{answer_as, Follows, each-call, machine-of}

call-exact : (m : Machine) (c : Made) → Follows (call_made c) m c → RefusesExactly m c
call-exact m c f = record {
  only = λ k g. by.only k (sym f.answers ∙ ap (λ (a : code.Answer). answer_of a c.cache) g);
  whenever = λ k n t. f.gives ∙ ap answer_as (by.whenever k n t);
}
  where
    by : of-rules.RefusedExactly (call_made c) (world_at m)
    by = refused-exactly (call_made c) (world_at m)

call-keeps : (m : Machine) (c : Made) → Follows (call_made c) m c → accepted_call c ≡ false → left c ≡ m
call-keeps m c f t = machine-of (left c) m (f.leaves ∙ refused-keeps (call_made c) (world_at m) (ap is_accepted (sym f.answers) ∙ t))

-- ---- a start

-- ready stands for one answer of the code
was-ready : (a : Result ⊤ Refusal) → start_answer_of a ≡ ready → a ≡ Ok tt
was-ready (Ok u) e = refl
was-ready (Err why) e = cc

-- the number 1 stands for one refusal
was-one : (why : Refusal) → refusal_number why ≡ 1 → why ≡ BadFigures
was-one BadFigures e = refl
was-one BadWidth e = absurd (omega arith)
was-one Misaligned e = absurd (omega arith)
was-one OutsideMemory e = absurd (omega arith)
was-one ValueTooLarge e = absurd (omega arith)
was-one MalformedLine e = absurd (omega arith)
was-one NotWellFormed e = absurd (omega arith)
was-one StoreQueueFull e = absurd (omega arith)
was-one LoadQueueFull e = absurd (omega arith)
was-one NumbersUsedUp e = absurd (omega arith)
was-one NoWaitingLoad e = absurd (omega arith)
was-one BadCommit e = absurd (omega arith)
was-one BadAbort e = absurd (omega arith)
was-one NothingRequested e = absurd (omega arith)
was-one CommittedStoreHeld e = absurd (omega arith)
was-one BadName e = absurd (omega arith)
was-one NameInUse e = absurd (omega arith)
was-one CheckpointUnavailable e = absurd (omega arith)
was-one BadStudy e = absurd (omega arith)

was-refused : (a : Result ⊤ Refusal) → start_answer_of a ≡ start_refused 1 → a ≡ Err BadFigures
was-refused (Ok u) e = cc
was-refused (Err why) e = let n : refusal_number why ≡ 1 = cc in ap (λ (r : Refusal). Err r) (was-one why n)

module _ (s : StartMade) (p : StartPromised s) where
  start-exact : StartRefusesExactly s
  unfolding start_answer
  start-exact = record {
    allowed = λ e. was-ready s.gave.answer (p.0 ∙ rw e);
    refused = λ e. was-refused s.gave.answer (p.0 ∙ rw e);
  }

  start-keeps : (why : Refusal) → s.gave.answer ≡ Err why → s.cache ≡ s.found
  unfolding start_answer start_world unstarted
  start-keeps why e = cases (start_allowed s.figures s.found s.memory)
      (λ t. cc (start-exact.allowed t))
      (λ t. ap (λ (w : World). w.hierarchy.cache) p.1 ∙ rw t refl)

pub refusals-of-code : RefusalsOfCode
refusals-of-code = record { by_call = each-call RefusesExactly call-exact; by-start = start-exact }

pub refused-of-code : RefusedOfCode
refused-of-code = record { by_call = each-call (λ m c. accepted_call c ≡ false → left c ≡ m) call-keeps; by-start = start-keeps }

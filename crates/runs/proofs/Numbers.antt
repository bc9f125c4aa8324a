-- The next operation number in runs of the code.
use Prim.Native.Nat.{ℕ}
use mathlib.Core.Path.{◌≡◌, sym, ◌∙◌, ap}
use mathlib.Core.Bool.{true}
use Rattle.rules.specs.Shape.{World}
use Rattle.rules.specs.Calls.{Answer, is_accepted, next_number}
use Rattle.rules.specs.Numbers.{number_after}
use Rattle.rules.specs.Checkpoints.{number_of}
use Rattle.rules.proofs.Numbers.{first-number, next-number}
use Rattle.rules.proofs.CheckpointClaims.{returns-exactly}
use Rattle.model.specs.declared.Call.TheVariants.{Restore}
use Rattle.runs.specs.Machines.{Machine, Made, StartMade, AcceptedStart, world_at, number_at, left, call_made, answer_given, accepted_call, start_left}
use Rattle.runs.specs.Numbers.{NumbersOfCode}
use Rattle.runs.proofs.Machines.{Follows, follows-as, each-call}

start-number : (s : StartMade) → AcceptedStart s → number_at (start_left s) ≡ 1
start-number s a =
    ap (λ (w : World). next_number w.queues) a.promised.1
    ∙ first-number s.figures s.found s.memory

call-number : (m : Machine) (c : Made) → Follows (call_made c) m c → accepted_call c ≡ true → number_at (left c) ≡ number_after (call_made c) (answer_given c) (number_at m)
call-number m c f t =
    ap (λ (w : World). next_number w.queues) f.leaves
    ∙ next-number (call_made c) (world_at m) (ap is_accepted (sym f.answers) ∙ t)
    ∙ ap (λ (r : Answer). number_after (call_made c) r (number_at m)) (sym f.answers)

return-number : (m : Machine) (c : Made) → Follows (call_made c) m c → (x : ℕ) → c.call ≡ Restore x → accepted_call c ≡ true → number_at (left c) ≡ number_of x (world_at m).queues.checkpoints
return-number m c g x e t =
    let f = follows-as m c g (Restore x) e in
    ap (λ (w : World). next_number w.queues) f.leaves
    ∙ (returns-exactly x (world_at m) (ap is_accepted (sym f.answers) ∙ t)).number

pub numbers-of-code : NumbersOfCode
numbers-of-code = record {
  after-start = start-number;
  by_call = each-call (λ m c. accepted_call c ≡ true → number_at (left c) ≡ number_after (call_made c) (answer_given c) (number_at m)) call-number;
  by-return =
      each-call (λ m c. (x : ℕ) → c.call ≡ Restore x → accepted_call c ≡ true → number_at (left c) ≡ number_of x (world_at m).queues.checkpoints) return-number;
}

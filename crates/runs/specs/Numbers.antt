-- The next operation number, said of the code: "it is 1 after a start, rises by 1 with each accepted load or store, and becomes n with
-- an accepted abort naming n."; and so with an accepted return to a mark (02, card 3) that remembers n.
use Rattle.std.specs.Prelude.{ℕ, ◌≡◌, true}
use Rattle.rules.specs.Checkpoints.{number_of}
use Rattle.rules.specs.Numbers.{number_after}
use Rattle.model.specs.declared.Call.TheVariants.{Restore}
use Rattle.runs.specs.Machines.{world_at, number_at, StartMade, AcceptedStart, left, call_made, answer_given, accepted_call, start_left, EveryCall}

-- after an accepted start, and after every accepted call
pub record NumbersOfCode : Type 0 where
  pub after-start : (s : StartMade) → AcceptedStart s → number_at (start_left s) ≡ 1
  pub by_call : EveryCall (λ m c. accepted_call c ≡ true → number_at (left c) ≡ number_after (call_made c) (answer_given c) (number_at m))
  -- after an accepted return it is the number that the mark remembers
  pub by-return : EveryCall (λ m c. (x : ℕ) → c.call ≡ Restore x → accepted_call c ≡ true → number_at (left c) ≡ number_of x (world_at m).queues.checkpoints)

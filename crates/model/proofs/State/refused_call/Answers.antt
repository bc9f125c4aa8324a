-- `State::refused_call` meets its contract: show line shows nothing. And what the other calls answer.
use Prim.Native.Nat.{ℕ}
use mathlib.Core.Path.{◌≡◌, refl}
use Rattle.lists.specs.Counted.{each_from}
use Rattle.rules.specs.Calls.{refused}
use Rattle.rules.specs.Runs.{refusal}
use Rattle.model.specs.State.{call_of, bytes_from}
use Rattle.model.specs.declared.Call.{Call}
use Rattle.model.specs.declared.Call.TheVariants.{Load, Store, Retry, Commit, Abort, Idle, Reply, Flush, Show, Checkpoint, Restore, Preview}
use Rattle.model.proofs.State.refused_call.Goals as goal

-- any other call than show line names its refusal
named : (k : ℕ) (c : Call) → ((x : ℕ) → c ≡ Show x → ⊥) → refused k ≡ refusal (call_of c) k
named k (Load a w) h = refl
named k (Store a w v) h = refl
named k (Retry i) h = refl
named k (Commit n) h = refl
named k (Abort n) h = refl
named k Idle h = refl
named k Reply h = refl
named k Flush h = refl
named k (Show a) h = absurd (h a refl)
named k (Checkpoint x) h = refl
named k (Restore x) h = refl
named k Preview h = refl

pub returns-in-Show : goal.returns-in-Show
unfolding bytes_from each_from
returns-in-Show c cache memory = rw c.in-Show.is

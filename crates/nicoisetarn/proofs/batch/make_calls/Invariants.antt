-- `batch::make_calls` meets its contract: after i calls the state is well formed, and the first i answers are there.
use Rattle.model.specs.State.{world_of}
use Rattle.nicoisetarn.proofs.Batches.{Going}
use Rattle.nicoisetarn.proofs.batch.make_calls.Given as goal

abbrev pub invariant-loop-i : goal.invariant-loop-i
invariant-loop-i l = Going l.n l.calls (world_of l.initial.at l.initial.cache l.initial.memory) l.i l.at l.cache l.memory l.answers

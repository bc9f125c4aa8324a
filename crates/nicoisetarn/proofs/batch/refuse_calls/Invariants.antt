-- `batch::refuse_calls` meets its contract: after i calls the first i answers are there.
use Rattle.rules.specs.RefusalNumbers.{refusal_number}
use Rattle.nicoisetarn.proofs.Batches.{Refused}
use Rattle.nicoisetarn.proofs.batch.refuse_calls.Given as goal

abbrev pub invariant-loop-i : goal.invariant-loop-i
invariant-loop-i l = Refused (refusal_number l.refusal) l.n l.calls l.i l.answers

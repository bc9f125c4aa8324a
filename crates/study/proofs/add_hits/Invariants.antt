-- `add_hits` meets its contract. The first w counts are done.
use Rattle.study.proofs.Counts.{Adding}
use Rattle.study.proofs.add_hits.Given as goal

abbrev pub invariant-loop-w : goal.invariant-loop-w
invariant-loop-w l = Adding l.initial.hits l.d l.w l.hits

-- `count_hits` meets its contract. The stacks in the scratch and the counts are those of the items so far.
use Rattle.study.proofs.Counts.{Counting}
use Rattle.study.proofs.count_hits.Given as goal

abbrev pub invariant-loop-l : goal.invariant-loop-l
invariant-loop-l l = Counting l.items l.sets l.initial.scratch l.l-index l.scratch l.hits

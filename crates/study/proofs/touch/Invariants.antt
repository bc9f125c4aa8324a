-- `touch` meets its contract. Before place d the first d of the four have moved, and what comes next is carried.
use Rattle.study.proofs.Scratch.{Moving}
use Rattle.study.proofs.touch.Given as goal

abbrev pub invariant-loop-d : goal.invariant-loop-d
invariant-loop-d l = Moving l.entry l.initial.stack l.d l.carried l.stack

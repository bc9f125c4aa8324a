-- `queue_checks::loads_good` meets its contract. The loop: the whole queue is good where the rest is, above m.
use Rattle.std.proofs.Common.{◌≡◌, drop}
use Rattle.queue_checks.specs.Good.{loads_good}
use Rattle.queue_checks.proofs.loads_good.Given as goal

abbrev pub invariant-loop-i : goal.invariant-loop-i
invariant-loop-i l = loads_good l.last l.committed l.size l.stores 0 l.fn.loads ≡ loads_good l.last l.committed l.size l.stores l.m (drop l.i l.fn.loads)

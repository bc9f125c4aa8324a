-- `queue_checks::stores_good` meets its contract. The loop: the whole queue is good where the rest is, above m.
use Rattle.std.proofs.Common.{◌≡◌, drop}
use Rattle.queue_checks.specs.Good.{stores_good}
use Rattle.queue_checks.proofs.stores_good.Given as goal

abbrev pub invariant-loop-i : goal.invariant-loop-i
invariant-loop-i l = stores_good l.last l.size 0 l.fn.stores ≡ stores_good l.last l.size l.m (drop l.i l.fn.stores)

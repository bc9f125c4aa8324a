-- `clean_all` meets its contract. The records that are left to mark give the whole.
use mathlib.Core.Path.{◌≡◌}
use Prim.Native.Nat.{◌-◌}
use Rattle.lists.specs.Counted.{steps_from}
use Rattle.lists.proofs.CountedLoops.{change}
use Rattle.rules.specs.Shape.{no_tag}
use Rattle.records.proofs.RecordLoops.{cleaned}
use Rattle.records.proofs.clean_all.Given as goal

abbrev pub invariant-loop-k : goal.invariant-loop-k
invariant-loop-k l = steps_from (change cleaned no_tag) 0 l.count l.initial.out ≡ steps_from (change cleaned no_tag) l.k (l.count - l.k) l.out

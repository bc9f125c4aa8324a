-- `start_tags` meets its contract. The records that are left to age give the whole table.
use mathlib.Core.Path.{◌≡◌}
use Prim.Native.Nat.{◌≤◌, ◌<◌, ◌-◌}
use Rattle.lists.specs.Counted.{steps_from}
use Rattle.lists.proofs.CountedLoops.{change}
use Rattle.rules.specs.Shape.{no_tag}
use Rattle.records.proofs.RecordLoops.{start_at}
use Rattle.records.proofs.start_tags.Given as goal

abbrev pub invariant-loop-k : goal.invariant-loop-k
invariant-loop-k l = (l.count ≤ 256) × (0 < l.n) × (steps_from (change (start_at l.count l.n) no_tag) 0 l.count l.initial.out ≡ steps_from (change (start_at l.count l.n) no_tag) l.k (l.count - l.k) l.out)

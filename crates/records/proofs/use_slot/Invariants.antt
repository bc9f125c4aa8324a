-- `use_slot` meets its contract. The records of the set that are left to age give the whole.
use mathlib.Core.Path.{◌≡◌}
use Prim.Native.Nat.{◌≤◌, ◌-◌}
use Rattle.lists.specs.Counted.{steps_from}
use Rattle.lists.proofs.CountedLoops.{change}
use Rattle.rules.specs.Shape.{no_tag, tag_at}
use Rattle.rules.specs.Lines.{aged_at}
use Rattle.records.proofs.use_slot.Given as goal

abbrev pub invariant-loop-k : goal.invariant-loop-k
invariant-loop-k l = (l.k-end ≤ 256) × (steps_from (change (aged_at l.fn.set.first l.fn.set.ways l.v (tag_at l.tags l.v).age) no_tag) l.fn.set.first l.fn.set.ways l.initial.out ≡ steps_from (change (aged_at l.fn.set.first l.fn.set.ways l.v (tag_at l.tags l.v).age) no_tag) l.k (l.k-end - l.k) l.out)

-- `oldest_way` meets its contract. The greatest of the best so far and the ways that are left is the greatest of all.
use mathlib.Core.Path.{◌≡◌}
use Prim.Native.Nat.{◌-◌, ◌<◌}
use lib.ListN.{length}
use Rattle.lists.specs.Counted.{greatest_from}
use Rattle.rules.specs.Shape.{tag_at}
use Rattle.records.proofs.oldest_way.Given as goal

abbrev pub invariant-loop-way : goal.invariant-loop-way
invariant-loop-way l = (l.best < length l.set) × (greatest_from (λ k. (tag_at l.set k).age) 0 0 (length l.set) ≡ greatest_from (λ k. (tag_at l.set k).age) l.best l.way (length l.set - l.way))

-- `ages_of` meets its contract: the ages so far.
use mathlib.Core.Path.{◌≡◌}
use Prim.Native.Nat.{ℕ, ◌<◌, ◌≤◌}
use lib.ListN.{length, get_or}
use Rattle.rules.specs.Shape.{tag_at}
use Rattle.records.proofs.ages_of.Given as goal

abbrev pub invariant-loop-way : goal.invariant-loop-way
invariant-loop-way l = (length l.ages ≡ 4) × ((k : ℕ) → k < l.way → get_or l.ages k 0 ≡ (tag_at l.set k).age) × ((k : ℕ) → l.way ≤ k → get_or l.ages k 0 ≡ 0)

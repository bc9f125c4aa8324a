-- `lists::without` meets its contract. The loop: what is kept of the first entries stands before free places.
use Prim.Native.Nat.{◌≤◌}
use mathlib.Core.Bool.{Bool}
use Rattle.lists.specs.Padded.{AnswersAs}
use Rattle.lists.proofs.Loops.{Packing}
use Rattle.lists.proofs.without.Given as goal

abbrev pub invariant-loop-e : goal.invariant-loop-e
invariant-loop-e g l = (l.to ≤ l.e-index) × ((test : g.row.T.Denot → Bool) → AnswersAs (goal.F-post g l.leaves) test → Packing test l.fn.free g.row.N l.e-items l.e-index l.to l.next)

-- A mark that is in force in a well-formed world: its number lies above h, and is the next number at most. A return to it is well formed.
use Prim.Native.Nat.{ℕ, ◌+◌, ◌-◌, ◌≤◌, ◌<◌}
use mathlib.Core.Path.{◌≡◌, refl}
use mathlib.Core.Bool.{true, false, ◌&&◌}
use native.Mathlib.Omega.{arith}
use lib.Dec.{ltb, leb}
use borrow.Author.Tests.{ltb-true, leb-true, not-true}
use Rattle.lists.specs.Padded.{every, first}
use Rattle.lists.proofs.Cond.{and_left, and_right, or-then}
use Rattle.lists.proofs.Every.{every_first}
use Rattle.lists.proofs.Some.{any-first}
use Rattle.rules.specs.declared.Checkpoint.{Checkpoint}
use Rattle.rules.specs.Shape.{Queues, Hierarchy, World, world, no_checkpoint, is_free_checkpoint}
use Rattle.rules.specs.Checkpoints.{named, in_use, number_of, forget_from}
use Rattle.rules.specs.Calls.{next_number, squash}
use Rattle.rules.specs.WellFormed.{well_formed, placed_at}
use Rattle.rules.specs.Kept.{Formed}
use Rattle.rules.proofs.Checkpoints.{Marks, Forgets, checkpoints-tell, checkpoints-are, numbered_at, number_is, at-number, before-formed, before-forgets}
use Rattle.rules.proofs.QueueView.{parts}
use Rattle.rules.proofs.SquashFormed.{squash-formed}

-- the checkpoints of a well-formed world
pub checkpoints-of : (w : World) → Formed w → Marks w.queues.committed w.queues.last w.queues.checkpoints
checkpoints-of w wf = checkpoints-tell w.queues.committed w.queues.last w.queues.checkpoints (parts w.queues w.hierarchy wf).marks

module _ (x n : ℕ) where
  -- the mark is in force, and all marks of its name remember n
  pub record Standing (w : World) : Type 0 where
    pub well : Formed w
    pub used : in_use x w.queues.checkpoints ≡ true
    pub numbered : every (numbered_at x n) w.queues.checkpoints ≡ true

  module _ (w : World) (s : Standing w) where
    abbrev pub mark : Checkpoint
    mark = first (named x) no_checkpoint w.queues.checkpoints

    pub mark-number : mark.number ≡ n
    mark-number = at-number x n mark (every_first (numbered_at x n) (named x) no_checkpoint w.queues.checkpoints refl s.numbered) (any-first (named x) no_checkpoint w.queues.checkpoints s.used)

    mark-within : (w.queues.committed < mark.number) × (mark.number ≤ next_number w.queues)
    unfolding placed_at
    mark-within =
        let k = any-first (named x) no_checkpoint w.queues.checkpoints s.used in
        let f : is_free_checkpoint mark ≡ false = not-true _ (and_left _ _ k) in
        let h = w.queues.committed in
        let p : placed_at h w.queues.last mark ≡ true = every_first (placed_at h w.queues.last) (named x) no_checkpoint w.queues.checkpoints refl (checkpoints-of w s.well).within in
        let t : (ltb h mark.number && leb mark.number (w.queues.last + 1)) ≡ true = or-then (is_free_checkpoint mark) _ p f in
        (ltb-true h mark.number (and_left _ _ t), leb-true mark.number (w.queues.last + 1) (and_right (ltb h mark.number) _ t))

    pub stands-behind : w.queues.committed < n
    stands-behind = omega (arith, mark-within.0, mark-number)

    pub stands-low : n ≤ next_number w.queues
    stands-low = omega (arith, mark-within.1, mark-number)

    -- what a return to it sees of the other calls
    pub stands-forgets : Forgets (forget_from x) n w.queues.checkpoints
    stands-forgets =
        before-forgets x n w.queues.committed w.queues.last w.queues.checkpoints (omega (arith, stands-behind)) (checkpoints-of w s.well) s.numbered s.used

    pub stands-left : Marks w.queues.committed (n - 1) (forget_from x w.queues.checkpoints)
    stands-left =
        before-formed x n w.queues.committed w.queues.last w.queues.checkpoints (omega (arith, stands-behind)) (checkpoints-of w s.well) s.numbered s.used

    -- and leaves
    pub stands-formed : well_formed (squash (forget_from x) n w.queues) w.hierarchy ≡ true
    stands-formed = squash-formed (forget_from x) n w.queues w.hierarchy stands-behind stands-low (checkpoints-are _ _ _ stands-left) s.well

-- the mark of a name in use, and its number
pub in-force : (x : ℕ) (q : Queues) (b : Hierarchy) → well_formed q b ≡ true → in_use x q.checkpoints ≡ true → Standing x (number_of x q.checkpoints) (world q b)
in-force x q b wf u = record { well = wf; used = u; numbered = number_is x q.checkpoints (checkpoints-of (world q b) wf).apart }

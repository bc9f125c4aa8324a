-- What `are_formed` tests, mark by mark: the clauses of the rules once more, as the code tests them.
use Rattle.std.specs.Prelude.{ℕ, suc, ◌+◌, Bool, true, cond, not, ◌&&◌, List, [], ◌∷◌, ltb, leb, eqb}
use Rattle.lists.specs.Padded.{every}
use Rattle.rules.specs.declared.Checkpoint.{Checkpoint}
use Rattle.rules.specs.Shape.{is_free_checkpoint}
use Rattle.rules.specs.Checkpoints.{in_use, name_allowed}

-- "Free places are zero."
unfoldable pub zero_checkpoint : Checkpoint → Bool
zero_checkpoint c = is_free_checkpoint c && (eqb c.name 0 && eqb c.rank 0)

-- what is asked of the mark at place i, by h and last, and by the number m of the mark before it (0 where there is none)
unfoldable pub checkpoint_good : ℕ → ℕ → ℕ → ℕ → Checkpoint → Bool
checkpoint_good h last m i c =
    leb m c.number
    && (ltb h c.number && (leb c.number (last + 1) && (name_allowed c.name && eqb c.rank (suc i))))

-- the marks from place i on, up to the free places
unfoldable pub checkpoints_good : ℕ → ℕ → ℕ → ℕ → List Checkpoint → Bool
checkpoints_good h last m i [] = true
checkpoints_good h last m i (c ∷ cs) =
    cond (is_free_checkpoint c) (every zero_checkpoint (c ∷ cs))
    (checkpoint_good h last m i c
    && (not (in_use c.name cs) && checkpoints_good h last c.number (suc i) cs))

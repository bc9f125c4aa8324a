-- `oldest_way` meets its contract. The greatest of the best so far and the ways that are left is the greatest of all.
use mathlib.Core.Path.{sym, ◌∙◌}
use native.Mathlib.Omega.{arith}
use Rattle.lists.proofs.CountedLoops.{greatest-more, greatest-less, greatest-end}
use Rattle.records.proofs.oldest_way.Goals as goal
use Rattle.records.proofs.oldest_way.Goals.{then-set-best, else-set-best}

pub loop-way-preserved : goal.loop-way-preserved
loop-way-preserved c =
    elim c.if-set-best.branch [
      | then-set-best w ↦ (omega (arith, w.best-is), c.loop-way.invariant.1 ∙ greatest-more _ _ _ _ c.loop-way-test.true w.if-set-best.true ∙ simp w.best-is)
      | else-set-best w ↦ (omega (arith, w.best-is), c.loop-way.invariant.1 ∙ greatest-less _ _ _ _ c.loop-way-test.true w.if-set-best.false ∙ simp w.best-is)
    ]

pub returns-clause-greatest : goal.returns-clause-greatest
returns-clause-greatest c = sym (c.loop-way.invariant.1 ∙ greatest-end _ _ _ _ c.loop-way-test.false)

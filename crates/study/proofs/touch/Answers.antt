-- `touch` meets its contract. Before place d the first d of the four have moved, and what comes next is carried.
use Rattle.std.proofs.Common.{sym, ◌∙◌}
use native.Mathlib.Omega.{arith}
use Rattle.study.proofs.Scratch.{moving-none, moving-more, moving-found, moving-all}
use Rattle.study.proofs.touch.Goals as goal

pub loop-d-init : goal.loop-d-init
loop-d-init c = moving-none _ _

pub returns-then-carried-entry : goal.returns-then-carried-entry
returns-then-carried-entry c =
    rw c.swap.ensures.x_after (moving-found _ _ _ _ _ c.loop-d.invariant c.requires (omega arith) (sym c.swap.ensures.y_after ∙ c.if-carried-entry.true))

pub loop-d-preserved : goal.loop-d-preserved
loop-d-preserved c =
    rw (c.swap.ensures.x_after, c.swap.ensures.y_after)
    (moving-more _ _ _ _ _ c.loop-d.invariant c.requires (omega arith) (λ e. c.if-carried-entry.false (c.swap.ensures.y_after ∙ e)))

pub returns : goal.returns
returns c = moving-all _ _ _ _ _ c.loop-d.invariant c.requires (omega arith)

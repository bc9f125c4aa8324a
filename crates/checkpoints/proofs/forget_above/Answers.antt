-- `checkpoints::forget_above` meets its contract. The loop: the marks from the place on are left to change.
use Rattle.std.proofs.Common.{sym, ◌∙◌, arith, rules, tests}
use Rattle.rules.specs.Shape.{no_checkpoint}
use Rattle.rules.specs.Checkpoints.{above, forget_above}
use Rattle.lists.proofs.Changed.{changed-next, changed-end}
use Rattle.checkpoints.proofs.forget_above.Goals.{then-n-c, else-n-c}
use Rattle.checkpoints.proofs.forget_above.Goals as goal

pub loop-c-preserved : goal.loop-c-preserved
loop-c-preserved c =
    sym (changed-next (above c.args.n) (λ c. no_checkpoint) no_checkpoint c.loop-c.c-index c.loop-c.c-items _
    (elim c.if-n-c.branch [
      | then-n-c w ↦ search (rules, tests)
      | else-n-c w ↦ search (rules, tests)
    ]))
    ∙ c.loop-c.invariant

pub returns : goal.returns
unfolding forget_above
returns c =
    sym (changed-end (above c.args.n) (λ c. no_checkpoint) c.loop-c.c-index c.loop-c.c-items (omega (arith, c.loop-c-test.array_long)))
    ∙ c.loop-c.invariant

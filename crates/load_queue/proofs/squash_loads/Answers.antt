-- `load_queue::squash_loads` meets its contract. The loop: the loads from the place on are left to change.
use Rattle.std.proofs.Common.{sym, ◌∙◌, arith, rules, tests}
use Rattle.rules.specs.Shape.{no_load}
use Rattle.rules.specs.Calls.{young_load}
use Rattle.lists.proofs.Changed.{changed-next, changed-end}
use Rattle.load_queue.proofs.squash_loads.Goals.{then-n-l, else-n-l}
use Rattle.load_queue.proofs.squash_loads.Goals as goal

pub loop-l-preserved : goal.loop-l-preserved
loop-l-preserved c =
    sym (changed-next (young_load c.args.n) (λ l. no_load) no_load c.loop-l.l-index c.loop-l.l-items _
    (elim c.if-n-l.branch [
      | then-n-l w ↦ search (rules, tests)
      | else-n-l w ↦ search (rules, tests)
    ]))
    ∙ c.loop-l.invariant

pub returns : goal.returns
returns c =
    sym (changed-end (young_load c.args.n) (λ l. no_load) c.loop-l.l-index c.loop-l.l-items (omega (arith, c.loop-l-test.array_long)))
    ∙ c.loop-l.invariant

-- `store_queue::squash_stores` meets its contract. The loop: the stores from the place on are left to change.
use Rattle.std.proofs.Common.{sym, ◌∙◌, arith, rules, tests}
use Rattle.rules.specs.Shape.{no_store}
use Rattle.rules.specs.Calls.{young_store}
use Rattle.lists.proofs.Changed.{changed-next, changed-end}
use Rattle.store_queue.proofs.squash_stores.Goals.{then-n-s, else-n-s}
use Rattle.store_queue.proofs.squash_stores.Goals as goal

pub loop-s-preserved : goal.loop-s-preserved
loop-s-preserved c =
    sym (changed-next (young_store c.args.n) (λ s. no_store) no_store c.loop-s.s-index c.loop-s.s-items _
    (elim c.if-n-s.branch [
      | then-n-s w ↦ search (rules, tests)
      | else-n-s w ↦ search (rules, tests)
    ]))
    ∙ c.loop-s.invariant

pub returns : goal.returns
returns c =
    sym (changed-end (young_store c.args.n) (λ s. no_store) c.loop-s.s-index c.loop-s.s-items (omega (arith, c.loop-s-test.array_long)))
    ∙ c.loop-s.invariant

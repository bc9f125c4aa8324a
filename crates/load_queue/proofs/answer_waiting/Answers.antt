-- `load_queue::answer_waiting` meets its contract. The loop: the loads from the place on are left to change.
use Rattle.std.proofs.Common.{sym, ◌∙◌, arith, rules, tests}
use Rattle.rules.specs.Shape.{no_load}
use Rattle.rules.specs.Calls.{waiting_at, answered}
use Rattle.lists.proofs.Changed.{changed-next, changed-end}
use Rattle.load_queue.proofs.answer_waiting.Goals.{then-is_waiting_at, else-is_waiting_at}
use Rattle.load_queue.proofs.answer_waiting.Goals as goal

pub loop-l-preserved : goal.loop-l-preserved
loop-l-preserved c =
    sym (changed-next (waiting_at c.args.i) answered no_load c.loop-l.l-index c.loop-l.l-items _
    (elim c.if-is_waiting_at.branch [
      | then-is_waiting_at w ↦ search (rules, tests)
      | else-is_waiting_at w ↦ search (rules, tests)
    ]))
    ∙ c.loop-l.invariant

pub returns : goal.returns
returns c =
    sym (changed-end (waiting_at c.args.i) answered c.loop-l.l-index c.loop-l.l-items (omega (arith, c.loop-l-test.array_long)))
    ∙ c.loop-l.invariant

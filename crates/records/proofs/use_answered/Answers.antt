-- `use_answered` meets its contract: the rest of the loads have still to use their lines.
use mathlib.Core.Path.{◌≡◌, refl, sym, ◌∙◌}
use native.Mathlib.Omega.{arith}
use lib.ListN.{length}
use borrow.Author.Rules.{rules}
use Rattle.lists.specs.Padded.{filter}
use Rattle.lists.proofs.Cond.{cond-then}
use Rattle.lists.proofs.Loops.{rest-cons, rest-none}
use Rattle.rules.specs.Shape.{no_load, line_of}
use Rattle.rules.specs.Calls.{uses_line_by, use_each}
use Rattle.records.proofs.Answers.{answered-step, other_step}
use Rattle.records.proofs.use_answered.Goals as goal
use Rattle.records.proofs.use_answered.Goals.{then-uses_line_by, else-uses_line_by}

pub loop-load-init : goal.loop-load-init
loop-load-init c = (sym c.if-not-has_room.ensures.test, refl)

pub loop-load-preserved : goal.loop-load-preserved
unfolding line_of
loop-load-preserved c =
    let long : length c.args.loads ≡ 8 = search rules in
    let rest = rest-cons {A = _} (uses_line_by c.args.k) no_load c.args.loads c.loop-load.load-index (omega arith) in
    elim c.if-uses_line_by.branch [
      | then-uses_line_by w ↦ (c.loop-load.invariant.0, c.loop-load.invariant.1 ∙ rw rest (answered-step _ _ _ _ _ (sym c.uses_line_by.ensures ∙ w.if-uses_line_by.true) ∙ rw (w.out-is, w.use_line-used.ensures ∙ sym (cond-then _ _ c.loop-load.invariant.0))))
      | else-uses_line_by w ↦ (c.loop-load.invariant.0, c.loop-load.invariant.1 ∙ rw rest (other_step _ _ _ _ _ (sym c.uses_line_by.ensures ∙ w.if-uses_line_by.false) ∙ rw w.out-is))
    ]

pub returns : goal.returns
unfolding filter use_each
returns c =
    let long : length c.args.loads ≡ 8 = search rules in
    sym (c.loop-load.invariant.1 ∙ rw (rest-none (uses_line_by c.args.k) no_load c.args.loads c.loop-load.load-index (omega arith))) ∙ cond-then _ _ c.loop-load.invariant.0

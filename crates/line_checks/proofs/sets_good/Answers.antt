-- `sets_good` meets its contract. The test of the sets that are left is the whole test.
use Rattle.std.proofs.Common.{sym, ◌≡◌, ◌-◌, ◌∙◌}
use native.Mathlib.Omega.{arith}
use Rattle.lists.proofs.CountedLoops.{all-fails, all-next, all_end}
use Rattle.line_checks.specs.SlotTests.{sets_good}
use Rattle.line_checks.proofs.sets_good.Goals as goal

pub loop-s-init : goal.loop-s-init
unfolding sets_good
loop-s-init c = let all : c.args.figures.sets - 0 ≡ c.args.figures.sets = omega arith in rw all

pub returns-then-not-set_good : goal.returns-then-not-set_good
returns-then-not-set_good c =
    sym (c.loop-s.invariant ∙ all-fails _ c.loop-s.s _ c.loop-s-test.true (sym c.set_good.ensures ∙ c.if-not-set_good.true))

pub loop-s-preserved : goal.loop-s-preserved
loop-s-preserved c = c.loop-s.invariant ∙ all-next _ c.loop-s.s _ c.loop-s-test.true (sym c.set_good.ensures ∙ c.if-not-set_good.false)

pub returns : goal.returns
returns c = sym (c.loop-s.invariant ∙ all_end _ c.loop-s.s _ c.loop-s-test.false)

-- `set_good` meets its contract. The test of the ways that are left is the whole test.
use Rattle.std.proofs.Common.{rules, sym, ◌≡◌, ◌∙◌, ◌-◌, true, false}
use Rattle.std.specs.List.{list_any}
use Rattle.std.proofs.lemmas.Iterator.{YieldsList-from_slice}
use Rattle.std.proofs.lemmas.Iterator.Search.{any_from_yields_List}
use native.Mathlib.Omega.{arith}
use lib.ListN.{length, take}
use Rattle.lists.specs.Padded.{any}
use Rattle.lists.proofs.CountedLoops.{all-fails, all-next, all_end}
use Rattle.lists.proofs.Library.{any-list}
use Rattle.rules.specs.Shape.{tag_at}
use Rattle.line_checks.specs.SlotTests.{same_age_or_line, way_good, set_good}
use Rattle.line_checks.proofs.set_good.Goals as goal

pub loop-w-init : goal.loop-w-init
unfolding set_good
loop-w-init c = let all : length c.args.set.now - 0 ≡ length c.args.set.now = omega arith in rw all

pub returns-then-not-record_good : goal.returns-then-not-record_good
unfolding way_good
returns-then-not-record_good c =
    sym (c.loop-w.invariant ∙ all-fails _ c.loop-w.w _ c.loop-w-test.true (rw (sym c.record_good.ensures ∙ c.if-not-record_good.true)))

pub returns-then-any : goal.returns-then-any
unfolding way_good
returns-then-any c =
    let t = tag_at c.args.set.now c.loop-w.w in
    let h : c.any.result ≡ list_any (λ u. same_age_or_line u t) (take c.loop-w.w c.args.set.now) =
    any_from_yields_List (λ u. same_age_or_line u t) _ _ _ c.any.ensures.ran (YieldsList-from_slice (take c.loop-w.w c.args.set.now) cc) (λ x b q k. search rules) in
    let e : any (λ u. same_age_or_line u t) (take c.loop-w.w c.args.set.now) ≡ true = sym (h ∙ any-list _ _) ∙ c.if-any.true in
    sym (c.loop-w.invariant ∙ all-fails _ c.loop-w.w _ c.loop-w-test.true (rw (sym c.record_good.ensures ∙ c.if-not-record_good.false, e)))

pub loop-w-preserved : goal.loop-w-preserved
unfolding way_good
loop-w-preserved c =
    let t = tag_at c.args.set.now c.loop-w.w in
    let h : c.any.result ≡ list_any (λ u. same_age_or_line u t) (take c.loop-w.w c.args.set.now) =
    any_from_yields_List (λ u. same_age_or_line u t) _ _ _ c.any.ensures.ran (YieldsList-from_slice (take c.loop-w.w c.args.set.now) cc) (λ x b q k. search rules) in
    let e : any (λ u. same_age_or_line u t) (take c.loop-w.w c.args.set.now) ≡ false = sym (h ∙ any-list _ _) ∙ c.if-any.false in
    c.loop-w.invariant ∙ all-next _ c.loop-w.w _ c.loop-w-test.true (rw (sym c.record_good.ensures ∙ c.if-not-record_good.false, e))

pub returns : goal.returns
returns c = sym (c.loop-w.invariant ∙ all_end _ c.loop-w.w _ c.loop-w-test.false)

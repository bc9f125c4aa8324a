-- `lookup` meets its contract: a way of the set was found, or the register tells.
use Rattle.std.proofs.Common.{rules}
use mathlib.Core.Path.{◌≡◌, sym, ◌∙◌}
use Prim.Native.Nat.{◌+◌, ◌≤◌}
use native.Mathlib.Omega.{arith}
use lib.ListN.{length}
use Rattle.lists.proofs.Cond.{cond-then}
use Rattle.rules.specs.declared.Request.TheVariants.{Line}
use Rattle.records.proofs.Sets.{lookup-way, lookup-named, lookup-misses, names-line, names-other}
use Rattle.records.proofs.lookup.Goals as goal

pub returns-in-Some : goal.returns-in-Some
returns-in-Some c =
    let h : c.args.set.first + c.args.set.ways ≤ length c.args.tags = search rules in
    lookup-way _ _ _ h _ c.records.ensures.slots _ _ c.way_of.ensures.first _ _ c.in-Some.is (omega (arith, c.in-Some.ensures.inside)) ∙ cond-then _ _ (sym c.if-not-in_table.ensures.test)

pub returns-in-None : goal.returns-in-None
returns-in-None c =
    let h : c.args.set.first + c.args.set.ways ≤ length c.args.tags = search rules in
    let n : c.args.request ≡ Line c.args.line = search rules in
    lookup-named _ _ _ h _ c.records.ensures.slots _ _ c.way_of.ensures.first _ c.in-None.is (names-line _ _ n) ∙ cond-then _ _ (sym c.if-not-in_table.ensures.test)

pub returns-in-None-2 : goal.returns-in-None-2
returns-in-None-2 c =
    let h : c.args.set.first + c.args.set.ways ≤ length c.args.tags = search rules in
    let n : c.args.request ≡ Line c.args.line → ⊥ = search rules in
    lookup-misses _ _ _ h _ c.records.ensures.slots _ _ c.way_of.ensures.first _ c.in-None.is (names-other _ _ n) ∙ cond-then _ _ (sym c.if-not-in_table.ensures.test)

-- `victim` meets its contract: the lowest invalid way if there is one, else the way of greatest age.
use Rattle.std.proofs.Common.{rules}
use mathlib.Core.Path.{sym, ◌∙◌}
use Prim.Native.Nat.{◌+◌, ◌≤◌}
use lib.ListN.{length}
use native.Mathlib.Omega.{arith}
use borrow.Author.Tests.{lt-ltb}
use Rattle.lists.proofs.Cond.{cond-then, and_both}
use Rattle.records.proofs.Sets.{victim-invalid, victim-oldest}
use Rattle.records.proofs.victim.Goals as goal

pub returns-in-Some : goal.returns-in-Some
returns-in-Some c =
    let h : c.args.set.first + c.args.set.ways ≤ length c.args.tags = search rules in
    victim-invalid _ _ _ h _ c.records-records.ensures.slots _ c.invalid_way.ensures.first _ c.in-Some.is (omega (arith, c.in-Some.ensures.inside))
    ∙ cond-then _ _ (and_both _ _ (sym c.if-not-in_table.ensures.test) (lt-ltb 0 c.args.set.ways (omega arith)))

pub returns-in-None : goal.returns-in-None
returns-in-None c =
    let h : c.args.set.first + c.args.set.ways ≤ length c.args.tags = search rules in
    victim-oldest _ _ _ h _ c.records-records.ensures.slots _ c.invalid_way.ensures.first _ (omega arith) c.oldest_way.ensures.greatest c.in-None.is
    ∙ cond-then _ _ (and_both _ _ (sym c.if-not-in_table.ensures.test) (lt-ltb 0 c.args.set.ways (omega arith)))

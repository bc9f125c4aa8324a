-- `lists::without` meets its contract. The loop: what is kept of the first entries stands before free places.
use Rattle.std.proofs.Common.{◌≡◌, ◌∙◌, sym, length, rules, arith}
use Rattle.lists.proofs.Loops.{pack-none, pack-in, pack-out, pack-all}
use Rattle.lists.proofs.without.Goals as goal
use Rattle.lists.proofs.without.Goals.{then-not-leaves, else-not-leaves}

pub loop-e-init : goal.loop-e-init
loop-e-init g c = (omega arith, λ test h. pack-none test c.args.free g.row.N c.args.places)

pub loop-e-preserved : goal.loop-e-preserved
loop-e-preserved g c =
    let len : length c.args.places ≡ g.row.N = search rules in
    elim c.if-not-leaves.branch [
      | then-not-leaves w ↦ (
        omega (arith, w.to-is),
        λ test h. pack-in test c.args.free c.e-item.result len c.loop-e-test.true (c.loop-e.invariant.1 test h)
            (sym (h _ _ c.leaves.ensures) ∙ w.if-not-leaves.true) _ _ w.next-is w.to-is,
      )
      | else-not-leaves w ↦ (
        omega (arith, w.to-is),
        λ test h. pack-out test c.args.free c.e-item.result len c.loop-e-test.true (c.loop-e.invariant.1 test h)
            (sym (h _ _ c.leaves.ensures) ∙ w.if-not-leaves.false) _ _ w.next-is w.to-is,
      )
    ]

pub returns : goal.returns
returns g c = λ test h.
    let len : length c.args.places ≡ g.row.N = search rules in
    pack-all test c.args.free len (omega arith) (c.loop-e.invariant.1 test h)

-- `checkpoints::rank_all` meets its contract. The loop: the places that are left to rank give the whole.
use Rattle.std.proofs.Common.{◌≡◌, refl, sym, ◌∙◌, length, rules}
use Rattle.lists.proofs.CountedLoops.{change, steps-end, changes-next, changes-all}
use Rattle.rules.specs.Shape.{checkpoint_places, no_checkpoint}
use Rattle.rules.specs.Checkpoints.{rank_at}
use Rattle.checkpoints.proofs.rank_all.Goals as goal

pub loop-i-init : goal.loop-i-init
loop-i-init c = refl

pub loop-i-preserved : goal.loop-i-preserved
loop-i-preserved c =
    c.loop-i.invariant
    ∙ changes-next rank_at no_checkpoint c.loop-i.i checkpoint_places c.loop-i.c-items c.rank_at.result c.loop-i-test.true c.rank_at.ensures

pub returns : goal.returns
returns c =
    let len : length c.args.checkpoints ≡ checkpoint_places = search rules in
    sym (c.loop-i.invariant ∙ steps-end (change rank_at no_checkpoint) c.loop-i.i checkpoint_places c.loop-i.c-items c.loop-i-test.false)
    ∙ changes-all rank_at no_checkpoint checkpoint_places c.args.checkpoints len

-- `checkpoints::are_formed` meets its contract. The loop: the whole list is good where the rest is, from place i on and above m.
use Rattle.std.proofs.Common.{◌≡◌, ◌+◌, refl, sym, ◌∙◌, ap, not, length, rules, arith}
use Rattle.lists.proofs.Loops.{rest-slice}
use Rattle.rules.specs.Shape.{checkpoint_places}
use Rattle.checkpoints.proofs.Good.{good-end, good-free, good-fails, good-twice, good-next, good-formed}
use Rattle.checkpoints.proofs.are_formed.Goals as goal

pub loop-i-init : goal.loop-i-init
loop-i-init c = refl

pub returns-then-c-eq0 : goal.returns-then-c-eq0
returns-then-c-eq0 c =
    let h : length c.args.checkpoints ≡ checkpoint_places = search rules in
    rw (rest-slice c.loop-i.i checkpoint_places c.args.checkpoints h) at c.are_zero.ensures
    ∙ (sym (c.loop-i.invariant ∙ good-free c.args.committed c.args.last c.loop-i.m c.args.checkpoints c.loop-i.i (omega arith) c.if-c-eq0.true)
    ∙ good-formed c.args.committed c.args.last c.args.checkpoints h)

pub returns-then-not-is_good : goal.returns-then-not-is_good
returns-then-not-is_good c =
    let h : length c.args.checkpoints ≡ checkpoint_places = search rules in
    sym (c.loop-i.invariant ∙ good-fails c.args.committed c.args.last c.loop-i.m c.args.checkpoints c.loop-i.i (omega arith) c.if-c-eq0.false
    c.is_good.ensures (ap not c.if-not-is_good.true))
    ∙ good-formed c.args.committed c.args.last c.args.checkpoints h

pub returns-then-is_used : goal.returns-then-is_used
returns-then-is_used c =
    let h : length c.args.checkpoints ≡ checkpoint_places = search rules in
    sym (c.loop-i.invariant ∙ good-twice c.args.committed c.args.last c.loop-i.m c.args.checkpoints c.loop-i.i (omega arith) c.if-c-eq0.false
    c.is_good.ensures (ap not c.if-not-is_good.false) (rw (rest-slice (c.loop-i.i + 1) checkpoint_places c.args.checkpoints h) at (sym c.is_used.ensures ∙ c.if-is_used.true)))
    ∙ good-formed c.args.committed c.args.last c.args.checkpoints h

pub loop-i-preserved : goal.loop-i-preserved
loop-i-preserved c =
    let h : length c.args.checkpoints ≡ checkpoint_places = search rules in
    c.loop-i.invariant ∙ good-next c.args.committed c.args.last c.loop-i.m c.args.checkpoints c.loop-i.i (omega arith) c.if-c-eq0.false
    c.is_good.ensures (ap not c.if-not-is_good.false) (rw (rest-slice (c.loop-i.i + 1) checkpoint_places c.args.checkpoints h) at (sym c.is_used.ensures ∙ c.if-is_used.false))

pub returns : goal.returns
returns c =
    let h : length c.args.checkpoints ≡ checkpoint_places = search rules in
    sym (c.loop-i.invariant ∙ good-end c.args.committed c.args.last c.loop-i.m c.args.checkpoints c.loop-i.i (omega arith))
    ∙ good-formed c.args.committed c.args.last c.args.checkpoints h

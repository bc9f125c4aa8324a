-- `queue_checks::loads_good` meets its contract. The loop: the whole queue is good where the rest is, above m.
use Rattle.std.proofs.Common.{◌≡◌, ◌-◌, refl, sym, ◌∙◌, length, length-drop, take, drop, take_all, arith, rules, tests}
use Rattle.lists.proofs.Loops.{rise-next, rise-stop, rise-end}
use Rattle.rules.specs.Shape.{load_places, no_load}
use Rattle.queue_checks.specs.Good.{zero_load, load_good, loads_good}
use Rattle.lists.proofs.Library.{every-chain}
use Rattle.queue_checks.proofs.Good.{loads-free}
use Rattle.queue_checks.proofs.loads_good.Goals as goal

pub loop-i-init : goal.loop-i-init
loop-i-init c = refl

pub returns-then-l-eq0 : goal.returns-then-l-eq0
unfolding zero_load
returns-then-l-eq0 c =
    let h : length c.args.loads ≡ load_places = search rules in
    let rest : take (8 - c.loop-i.i) (drop c.loop-i.i c.args.loads) ≡ drop c.loop-i.i c.args.loads = take_all _ _ (omega (arith, length-drop c.loop-i.i c.args.loads)) in
    every-chain _ _ _ _ (drop c.loop-i.i c.args.loads) (c.iter.ensures.rest ∙ rest) (λ x b q k. search (rules, tests)) _ c.all.ensures.ran
    ∙ sym (c.loop-i.invariant ∙ loads-free c.args.last c.args.committed c.args.size c.loop-i.m c.args.stores c.args.loads c.loop-i.i (omega arith) c.if-l-eq0.true)

pub loop-i-preserved : goal.loop-i-preserved
unfolding loads_good
loop-i-preserved c =
    let h : length c.args.loads ≡ load_places = search rules in
    c.loop-i.invariant ∙ rise-next (λ l. l.number) no_load c.args.loads c.loop-i.i (load_good c.args.last c.args.committed c.args.size c.args.stores) c.loop-i.m (omega arith) (sym c.is_good_load.ensures ∙ c.if-not-is_good_load.false)

pub returns-then-not-is_good_load : goal.returns-then-not-is_good_load
unfolding loads_good
returns-then-not-is_good_load c =
    let h : length c.args.loads ≡ load_places = search rules in
    sym (c.loop-i.invariant ∙ rise-stop (λ l. l.number) no_load c.args.loads c.loop-i.i (load_good c.args.last c.args.committed c.args.size c.args.stores) c.loop-i.m (omega arith) c.if-l-eq0.false (sym c.is_good_load.ensures ∙ c.if-not-is_good_load.true))

pub returns : goal.returns
unfolding loads_good
returns c =
    let h : length c.args.loads ≡ load_places = search rules in
    sym (c.loop-i.invariant ∙ rise-end (λ l. l.number) no_load c.args.loads c.loop-i.i (load_good c.args.last c.args.committed c.args.size c.args.stores) c.loop-i.m (omega arith))

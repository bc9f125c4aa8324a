-- `queue_checks::stores_good` meets its contract. The loop: the whole queue is good where the rest is, above m.
use Rattle.std.proofs.Common.{◌≡◌, ◌-◌, refl, sym, ◌∙◌, length, length-drop, take, drop, take_all, arith, rules, tests}
use Rattle.lists.proofs.Loops.{rise-next, rise-stop, rise-end}
use Rattle.rules.specs.Shape.{store_places, no_store}
use Rattle.queue_checks.specs.Good.{zero_store, store_good, stores_good}
use Rattle.lists.proofs.Library.{every-chain}
use Rattle.queue_checks.proofs.Good.{stores-free}
use Rattle.queue_checks.proofs.stores_good.Goals as goal

pub loop-i-init : goal.loop-i-init
loop-i-init c = refl

pub returns-then-s-eq0 : goal.returns-then-s-eq0
unfolding zero_store
returns-then-s-eq0 c =
    let h : length c.args.stores ≡ store_places = search rules in
    let rest : take (16 - c.loop-i.i) (drop c.loop-i.i c.args.stores) ≡ drop c.loop-i.i c.args.stores = take_all _ _ (omega (arith, length-drop c.loop-i.i c.args.stores)) in
    every-chain _ _ _ _ (drop c.loop-i.i c.args.stores) (c.iter.ensures.rest ∙ rest) (λ x b q k. search (rules, tests)) _ c.all.ensures.ran
    ∙ sym (c.loop-i.invariant ∙ stores-free c.args.last c.args.size c.loop-i.m c.args.stores c.loop-i.i (omega arith) c.if-s-eq0.true)

pub loop-i-preserved : goal.loop-i-preserved
unfolding stores_good
loop-i-preserved c =
    let h : length c.args.stores ≡ store_places = search rules in
    c.loop-i.invariant ∙ rise-next (λ s. s.number) no_store c.args.stores c.loop-i.i (store_good c.args.last c.args.size) c.loop-i.m (omega arith) (sym c.is_good_store.ensures ∙ c.if-not-is_good_store.false)

pub returns-then-not-is_good_store : goal.returns-then-not-is_good_store
unfolding stores_good
returns-then-not-is_good_store c =
    let h : length c.args.stores ≡ store_places = search rules in
    sym (c.loop-i.invariant ∙ rise-stop (λ s. s.number) no_store c.args.stores c.loop-i.i (store_good c.args.last c.args.size) c.loop-i.m (omega arith) c.if-s-eq0.false (sym c.is_good_store.ensures ∙ c.if-not-is_good_store.true))

pub returns : goal.returns
unfolding stores_good
returns c =
    let h : length c.args.stores ≡ store_places = search rules in
    sym (c.loop-i.invariant ∙ rise-end (λ s. s.number) no_store c.args.stores c.loop-i.i (store_good c.args.last c.args.size) c.loop-i.m (omega arith))

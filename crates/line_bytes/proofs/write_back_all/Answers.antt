-- `write_back_all` meets its contract. The slots that are left to write back give the whole.
use Rattle.std.proofs.Common.{◌≡◌, ◌+◌, ◌-◌, ◌∙◌, sym, ap, length, arith, rules}
use Rattle.std.proofs.lemmas.List.{get_or-take, length-take}
use Rattle.lists.specs.Counted.{steps_from}
use Rattle.lists.proofs.CountedLoops.{steps_next, steps-end}
use Rattle.rules.specs.Shape.{no_tag}
use Rattle.line_bytes.proofs.Writing.{slot_written, lines-inside, lines-outside}
use Rattle.line_bytes.proofs.write_back_all.Goals as goal

pub loop-k-init : goal.loop-k-init
loop-k-init c = let e : c.args.count - 0 ≡ c.args.count = omega arith in rw e

pub loop-k-preserved : goal.loop-k-preserved
loop-k-preserved c =
    let long = length-take c.args.count c.args.tags in
    let same = get_or-take c.args.count c.args.tags c.loop-k.k no_tag in
    let rest = steps_from (slot_written c.args.tags c.args.cache.now) (c.loop-k.k + 1) (c.args.count - (c.loop-k.k + 1)) in
    c.loop-k.invariant ∙ (steps_next _ c.loop-k.k c.args.count _ (omega arith) ∙ ap rest (sym (c.write_back.ensures ∙ rw (same (omega arith)))))

pub returns-after-loop-k : goal.returns-after-loop-k
returns-after-loop-k c =
    let long = length-take c.args.count c.args.tags in
    let table : length c.args.tags ≡ 256 = search rules in
    sym (steps-end _ c.loop-k.k c.args.count _ (omega arith))
    ∙ (sym c.loop-k.invariant ∙ lines-inside _ _ _ _ c.if-count-le-TAG_RECORDS.true)

pub returns-else-count-le-TAG_RECORDS : goal.returns-else-count-le-TAG_RECORDS
returns-else-count-le-TAG_RECORDS c = lines-outside _ _ _ _ c.if-count-le-TAG_RECORDS.false

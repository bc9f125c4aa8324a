-- `count_hits` meets its contract. The stacks in the scratch and the counts are those of the items so far.
use native.Mathlib.Omega.{arith}
use Rattle.study.proofs.Scratch.{touched-part}
use Rattle.study.proofs.Counts.{some-sets, line_small, counting-none, countable, places-in, counting_more, counting-all}
use Rattle.study.proofs.count_hits.Goals as goal

pub loop-l-init : goal.loop-l-init
loop-l-init c = counting-none _ _ _ c.requires

pub nonzero_rem-first : goal.nonzero_rem-first
nonzero_rem-first c = (some-sets _ _ _ c.requires).0

pub slice_bounds-touch-end : goal.slice_bounds-touch-end
slice_bounds-touch-end c = let room = places-in _ _ _ c.requires _ _ _ c.loop-l.invariant in omega arith

pub overflow_add-l : goal.overflow_add-l
overflow_add-l c = omega (arith, line_small _ _ _ c.requires c.loop-l.l-index)

pub add_hits-requires : goal.add_hits-requires
add_hits-requires c = countable _ _ _ c.requires _ _ _ c.loop-l.invariant (omega arith)

pub loop-l-preserved : goal.loop-l-preserved
loop-l-preserved c =
    let room = places-in _ _ _ c.requires _ _ _ c.loop-l.invariant in
    rw c.add_hits.ensures (counting_more _ _ _ c.requires _ _ _ c.loop-l.invariant (omega arith) _ _ (touched-part _ _ _ _ _ _ room (omega arith) c.touch-d.ensures))

pub returns : goal.returns
returns c = counting-all _ _ _ c.requires _ _ _ c.loop-l.invariant (omega arith)

-- `clean_all` meets its contract. The records that are left to mark give the whole.
use mathlib.Core.Path.{sym, ◌∙◌}
use Rattle.lists.proofs.Cond.{leb-then}
use Rattle.lists.proofs.CountedLoops.{steps_next, steps-end}
use Rattle.records.proofs.RecordLoops.{flushed-tags}
use Rattle.records.proofs.clean_all.Goals as goal

pub loop-k-preserved : goal.loop-k-preserved
loop-k-preserved c = c.loop-k.invariant ∙ steps_next _ _ _ _ c.loop-k-test.true

pub returns : goal.returns
returns c =
    sym (steps-end _ _ _ _ c.loop-k-test.false) ∙ (sym c.loop-k.invariant ∙ flushed-tags c.args.count c.args.tags)
    ∙ leb-then _ _ _ _ c.if-count-gt-TAG_RECORDS.false

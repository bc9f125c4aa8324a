-- `study` meets its contract: refused where the figures are not allowed, else what an accepted study answers and leaves.
use mathlib.Core.Path.{sym, ◌∙◌}
use Rattle.study.specs.Study.{studied, scratch_after}
use Rattle.study.proofs.study.Goals as goal

pub study_accepted-requires : goal.study_accepted-requires
study_accepted-requires c = sym c.study_allowed.ensures ∙ c.if-study_allowed.true

pub returns-then-study_allowed : goal.returns-then-study_allowed
unfolding studied scratch_after
returns-then-study_allowed c =
    let e = sym c.study_allowed.ensures ∙ c.if-study_allowed.true in
    (rw e c.study_accepted.ensures.0, rw e c.study_accepted.ensures.1)

pub returns : goal.returns
unfolding studied scratch_after
returns c =
    let e = sym c.study_allowed.ensures ∙ c.if-study_allowed.false in
    (rw (e, c.number.ensures), rw e)

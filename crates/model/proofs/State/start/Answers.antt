-- `State::start` meets its contract.
use mathlib.Core.Path.{refl, sym, ◌∙◌}
use native.Mathlib.Omega.{arith}
use borrow.Author.Tests.{eq-eqb, ne_eqb}
use Rattle.line_checks.proofs.Figures.{figures-tell}
use Rattle.rules.specs.Runs.{start_allowed, start_answer, start_world, started, unstarted}
use Rattle.records.proofs.Places.{has_room_lem}
use Rattle.lists.proofs.Cond.{cond-then}
use Rattle.model.proofs.State.start.Goals as goal
use Rattle.model.proofs.State.start.Goals.{then-not-figures_allowed-via-then-not-figures_allowed, then-not-figures_allowed-via-else-not-figures_allowed+then-cache-figures}

pub overflow_mul-figures : goal.overflow_mul-figures
overflow_mul-figures c =
    let f = figures-tell _ _ (sym c.figures_allowed.ensures ∙ c.if-not-figures_allowed.false) in
    omega (arith, f.room)

pub overflow_mul-figures-else-not-figures_allowed : goal.overflow_mul-figures-else-not-figures_allowed
overflow_mul-figures-else-not-figures_allowed c =
    let f = figures-tell _ _ (sym c.figures_allowed.ensures ∙ c.if-not-figures_allowed.false) in
    omega (arith, f.room)

pub returns-then-not-figures_allowed : goal.returns-then-not-figures_allowed
unfolding start_allowed start_answer start_world unstarted
returns-then-not-figures_allowed c =
    elim c.then-not-figures_allowed.branch [
      | then-not-figures_allowed-via-then-not-figures_allowed w ↦ rw (c.unstarted-none.ensures, sym c.figures_allowed.ensures ∙ w.if-not-figures_allowed.true) (refl, refl)
      | then-not-figures_allowed-via-else-not-figures_allowed+then-cache-figures w ↦ rw (c.unstarted-none.ensures, sym c.figures_allowed.ensures ∙ w.if-not-figures_allowed.false, ne_eqb _ _ w.if-cache-figures.true) (refl, refl)
    ]

pub overflow_cast-result : goal.overflow_cast-result
overflow_cast-result c =
    let f = figures-tell _ _ (sym c.figures_allowed.ensures ∙ c.if-not-figures_allowed.false) in
    omega (arith, f.most-size)

pub returns : goal.returns
unfolding start_allowed start_answer start_world started
returns c =
    let f = figures-tell _ _ (sym c.figures_allowed.ensures ∙ c.if-not-figures_allowed.false) in
    rw (sym c.figures_allowed.ensures ∙ c.if-not-figures_allowed.false, eq-eqb _ _ c.if-cache-figures.false, c.unstarted-none.ensures, c.start_tags.ensures ∙ sym (cond-then _ _ (has_room_lem _ f.some-set f.some-way f.room)), c.fill.ensures.after (λ y e. e), c.if-cache-figures.false) (refl, refl)

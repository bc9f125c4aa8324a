-- `lent::start_then_step` meets its contract: the start and the step by their contracts, put together by `start-then`.
use Rattle.lent.proofs.Starting.{start-then}
use Rattle.lent.proofs.start_then_step.Goals as goal

pub returns : goal.returns
returns c =
    start-then _ _ _ _ _ _ _ _ _ _ _ _ c.unstarted-state.ensures c.start_in-started.ensures c.step_in-answer.ensures

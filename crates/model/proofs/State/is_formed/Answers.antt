-- `State::is_formed` meets its contract.
use mathlib.Core.Path.{◌∙◌}
use Rattle.model.proofs.Calls.{state-judged}
use Rattle.model.proofs.State.is_formed.Goals as goal

pub returns : goal.returns
returns c = c.is_ok.ensures.value ∙ state-judged _ _ _ c.check_state.ensures

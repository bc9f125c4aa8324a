-- `State::show` meets its contract.
use Rattle.model.proofs.Moves.{show-answers}
use Rattle.model.proofs.State.show.Goals as goal

pub returns : goal.returns
returns c = show-answers _ _ _ _ c.show_part-p.result c.show_part-p.ensures.0 c.show_part-p.ensures.1

-- `State::show_formed` meets its contract.
use Rattle.model.proofs.Moves.{show-answers}
use Rattle.model.proofs.State.show_formed.Goals as goal

pub returns : goal.returns
returns c =
    λ cache memory formed.
    let shows = c.part_formed-part.ensures cache memory formed in
    show-answers _ _ _ _ c.part_formed-part.result shows.0 shows.1

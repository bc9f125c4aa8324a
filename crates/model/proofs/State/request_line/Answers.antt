-- `State::request_line` meets its contract.
use mathlib.Core.Path.{refl}
use Rattle.rules.specs.Shape.{line_of}
use Rattle.model.proofs.State.request_line.Goals as goal

pub returns : goal.returns
unfolding line_of
returns c = λ k m. refl

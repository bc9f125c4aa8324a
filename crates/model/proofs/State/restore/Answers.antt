-- `State::restore` meets its contract: checks 1 and 10, then the call on a well-formed state.
use mathlib.Core.Path.{sym}
use Rattle.model.proofs.Calls.{state-refuses, state-formed}
use Rattle.model.proofs.State.restore.Goals as goal

pub returns-in-Err : goal.returns-in-Err
returns-in-Err c = rw c.refused.ensures (sym (state-refuses _ _ _ _ c.in-Err.ensures tt))

pub returns : goal.returns
returns c = c.restore_formed.ensures _ _ (state-formed _ _ c.in_default.ensures)

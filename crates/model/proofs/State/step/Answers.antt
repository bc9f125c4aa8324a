-- `State::step` meets its contract: checks 1 and 10, then the call on a well-formed state.
use mathlib.Core.Path.{sym, ◌∙◌}
use Rattle.model.proofs.Calls.{state-refuses, state-formed, early}
use Rattle.model.specs.State.{call_of, hierarchy_of}
use Rattle.model.proofs.State.step.Goals as goal

pub returns-in-Err : goal.returns-in-Err
returns-in-Err c = c.refused_call.ensures _ _ ∙ sym (state-refuses _ _ _ _ c.in-Err.ensures (early (call_of c.args.call) (hierarchy_of c.args.self c.args.cache.now c.args.memory.now)))

pub step_formed-requires : goal.step_formed-requires
step_formed-requires c = state-formed _ _ c.in_default.ensures

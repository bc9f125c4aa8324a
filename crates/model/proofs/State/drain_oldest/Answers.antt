-- `State::drain_oldest` meets its contract.
use Rattle.model.proofs.Moves.{drained-state}
use Rattle.model.proofs.State.drain_oldest.Goals as goal

pub returns : goal.returns
returns c = drained-state c.args.self c.args.cache.now c.args.memory.now c.args.s _ _ _ _ c.requires.3 c.requires.1.narrow c.requires.2 c.write_through.ensures c.write_store.ensures c.pop_store.ensures

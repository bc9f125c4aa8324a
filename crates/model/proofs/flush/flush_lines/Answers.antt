-- `flush_lines` meets its contract.
use Rattle.model.proofs.Accepted.{flushed-lines}
use Rattle.model.proofs.flush.flush_lines.Goals as goal

pub returns : goal.returns
returns c = flushed-lines c.args.figures c.args.tags _ c.args.cache.now c.args.memory.now _ c.requires c.clean_all.ensures c.write_back_all.ensures

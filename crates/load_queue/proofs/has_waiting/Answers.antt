-- `load_queue::has_waiting` meets its contract. By the chain.
use Rattle.std.proofs.Common.{rules, tests}
use Rattle.lists.proofs.Library.{any-chain}
use Rattle.load_queue.proofs.has_waiting.Goals as goal

pub returns : goal.returns
returns c = any-chain _ _ _ _ c.args.loads c.iter.ensures.rest (λ x b q k. search (rules, tests)) _ c.any.ensures.ran

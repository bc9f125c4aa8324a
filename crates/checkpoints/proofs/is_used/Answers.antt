-- `checkpoints::is_used` meets its contract. By the chain.
use Rattle.std.proofs.Common.{rules, tests}
use Rattle.lists.proofs.Library.{any-chain}
use Rattle.checkpoints.proofs.is_used.Goals as goal

pub returns : goal.returns
returns c = any-chain _ _ _ _ c.args.marks.now c.iter.ensures.rest (λ x b q k. search (rules, tests)) _ c.any.ensures.ran

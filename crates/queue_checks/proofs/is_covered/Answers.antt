-- `queue_checks::is_covered` meets its contract. By the chain.
use Rattle.std.proofs.Common.{rules, tests}
use Rattle.lists.proofs.Library.{any-chain}
use Rattle.queue_checks.proofs.is_covered.Goals as goal

pub returns : goal.returns
returns c = any-chain _ _ _ _ c.args.stores c.iter.ensures.rest (λ x b q k. search (rules, tests)) _ c.any.ensures.ran

-- `queue_checks::numbers_apart` meets its contract. By the chain.
use Rattle.std.proofs.Common.{rules, tests}
use Rattle.rules.specs.WellFormed.{alone}
use Rattle.lists.proofs.Library.{every-chain}
use Rattle.queue_checks.proofs.numbers_apart.Goals as goal

pub returns : goal.returns
unfolding alone
returns c = every-chain _ _ _ _ c.args.stores c.iter.ensures.rest (λ x b q k. search (rules, tests)) _ c.all.ensures.ran

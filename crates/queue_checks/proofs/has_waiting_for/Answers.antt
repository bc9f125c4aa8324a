-- `queue_checks::has_waiting_for` meets its contract. By the chain.
use Rattle.std.proofs.Common.{rules, tests}
use Rattle.lists.proofs.Library.{any-chain}
use Rattle.queue_checks.proofs.has_waiting_for.Goals as goal

pub returns : goal.returns
returns c = any-chain _ _ _ _ c.args.loads c.iter.ensures.rest (λ x b q k. search (rules, tests)) _ c.any.ensures.ran

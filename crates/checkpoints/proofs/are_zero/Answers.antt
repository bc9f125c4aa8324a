-- `checkpoints::are_zero` meets its contract. By the chain.
use Rattle.std.proofs.Common.{rules, tests}
use Rattle.lists.proofs.Library.{every-chain}
use Rattle.checkpoints.specs.Good.{zero_checkpoint}
use Rattle.checkpoints.proofs.are_zero.Goals as goal

pub returns : goal.returns
unfolding zero_checkpoint
returns c = every-chain _ _ _ _ c.args.places.now c.iter.ensures.rest (λ x b q k. search (rules, tests)) _ c.all.ensures.ran

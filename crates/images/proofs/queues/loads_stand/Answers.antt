-- `queues::loads_stand` meets its contract.
use Rattle.std.proofs.Common.{rules, tests}
use Rattle.lists.proofs.Library.{every-chain}
use Rattle.images.specs.Images.{load_stands}
use Rattle.images.proofs.queues.loads_stand.Goals as goal

pub returns : goal.returns
returns c = every-chain _ load_stands _ _ c.args.loads c.iter.ensures.rest (λ x b q k. search (rules, tests)) _ c.all.ensures.ran

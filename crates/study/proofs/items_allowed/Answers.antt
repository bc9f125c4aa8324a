-- `items_allowed` meets its contract: `all` of the library is the definition's.
use Rattle.std.proofs.Common.{rules, tests}
use lib.Dec.{ltb}
use Rattle.lists.proofs.Library.{every-chain}
use Rattle.study.specs.Study.{line_limit, items_allowed}
use Rattle.study.proofs.items_allowed.Goals as goal

pub returns : goal.returns
unfolding items_allowed
returns c = every-chain _ (λ l. ltb l line_limit) _ _ c.args.items.now c.iter.ensures.rest (λ x b q k. search (rules, tests)) _ c.all.ensures.ran

-- `unused_zero` meets its contract: a record is zero if it equals `NO_TAG`.
use Rattle.std.proofs.Common.{rules, tests}
use Rattle.lists.proofs.Library.{every-chain}
use Rattle.rules.specs.WellFormed.{zero_tag}
use Rattle.line_checks.proofs.unused_zero.Goals as goal

pub returns : goal.returns
unfolding zero_tag
returns c = every-chain _ zero_tag _ _ c.args.tags.now c.iter.ensures.rest (λ x b q k. search (rules, tests)) _ c.all.ensures.ran

-- `queue_checks::has_uncovered` meets its contract. By the chain.
use Rattle.std.proofs.Common.{refl, rules, tests}
use Rattle.rules.specs.Forward.{some_uncovered}
use Rattle.queue_checks.proofs.Chains.{range-any}
use Rattle.queue_checks.proofs.has_uncovered.Goals as goal

pub returns : goal.returns
unfolding some_uncovered
returns c = range-any _ _ _ _ c.args.a c.args.width refl (λ x b q k. search (rules, tests)) _ c.any.ensures.ran

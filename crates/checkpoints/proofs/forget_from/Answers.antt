-- `checkpoints::forget_from` meets its contract. The places from the mark's on are filled.
use Rattle.std.proofs.Common.{◌∙◌, sym, rules, tests}
use Rattle.lists.proofs.Library.{position-chain, cut-some, cut-none}
use Rattle.rules.specs.Shape.{checkpoint_places, no_checkpoint}
use Rattle.rules.specs.Checkpoints.{named, forget_from}
use Rattle.checkpoints.proofs.forget_from.Goals as goal

pub returns-in-Some : goal.returns-in-Some
unfolding forget_from
returns-in-Some c =
    cut-some (named c.args.name) c.in-Some.i checkpoint_places no_checkpoint c.args.checkpoints c.fill.new.self (search rules)
    (search rules)
    (sym c.in-Some.is ∙ position-chain _ _ _ _ c.args.checkpoints c.iter.ensures.rest (λ x b q k. search (rules, tests)) c.position.result c.position.ensures.ran)

pub returns-in_default : goal.returns-in_default
unfolding forget_from
returns-in_default c =
    cut-none (named c.args.name) no_checkpoint c.args.checkpoints
    (sym c.in_default.is ∙ position-chain _ _ _ _ c.args.checkpoints c.iter.ensures.rest (λ x b q k. search (rules, tests)) c.position.result c.position.ensures.ran)

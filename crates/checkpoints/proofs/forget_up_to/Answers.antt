-- `checkpoints::forget_up_to` meets its contract. The marks at k or below leave, then the others are ranked.
use Rattle.std.proofs.Common.{◌≡◌, ◌∙◌, ap, rules}
use Rattle.lists.specs.Padded.{without}
use Rattle.rules.specs.Shape.{no_checkpoint}
use Rattle.rules.specs.Checkpoints.{ranked, at_most, forget_up_to}
use Rattle.checkpoints.proofs.forget_up_to.Goals as goal

pub returns : goal.returns
unfolding forget_up_to
returns c =
    let rest : c.without-rest.result ≡ without (at_most c.args.k) no_checkpoint c.args.checkpoints = search rules in
    c.rank_all.ensures ∙ ap ranked rest

-- `checkpoints::add` meets its contract. The mark is placed, then all are ranked.
use Rattle.std.proofs.Common.{◌≡◌, ◌∙◌, ap, rules}
use Rattle.lists.specs.Padded.{placed}
use Rattle.rules.specs.Shape.{is_free_checkpoint}
use Rattle.rules.specs.Checkpoints.{ranked, add_checkpoint}
use Rattle.checkpoints.proofs.add.Goals as goal

pub returns : goal.returns
unfolding add_checkpoint
returns c =
    let at : c.placed-with_mark.result ≡ placed is_free_checkpoint _ c.args.checkpoints = search rules in
    c.rank_all.ensures ∙ ap ranked at

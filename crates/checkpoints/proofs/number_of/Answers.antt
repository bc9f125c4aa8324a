-- `checkpoints::number_of` meets its contract. By the chain.
use Rattle.std.proofs.Common.{◌∙◌, ap, rules, tests}
use Rattle.std.proofs.lemmas.Iterator.{YieldsList-from_slice}
use Rattle.std.proofs.lemmas.Iterator.Consumers.{YieldsList-from_copied}
use Rattle.std.proofs.lemmas.Iterator.Search.{find_from_yields_List}
use Rattle.lists.proofs.Library.{found-first}
use Rattle.rules.specs.declared.Checkpoint.{Checkpoint}
use Rattle.rules.specs.Shape.{no_checkpoint}
use Rattle.rules.specs.Checkpoints.{named}
use Rattle.checkpoints.proofs.number_of.Goals as goal

pub returns : goal.returns
returns c =
    ap (λ (m : Checkpoint). m.number)
    (c.unwrap_or.ensures
    ∙ found-first (named c.args.name) no_checkpoint c.args.checkpoints c.find.result
    (find_from_yields_List _ _ _ c.find.result c.find.ensures.ran (YieldsList-from_copied (YieldsList-from_slice c.args.checkpoints cc)) (λ x b q k. search (rules, tests))))

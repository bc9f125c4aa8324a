-- `load_queue::waiting_load` meets its contract. By the chain.
use Rattle.std.proofs.Common.{◌∙◌, rules, tests}
use Rattle.std.proofs.lemmas.Iterator.{YieldsList-from_slice}
use Rattle.std.proofs.lemmas.Iterator.Consumers.{YieldsList-from_copied}
use Rattle.std.proofs.lemmas.Iterator.Search.{find_from_yields_List}
use Rattle.lists.proofs.Library.{found-first}
use Rattle.rules.specs.Shape.{no_load}
use Rattle.rules.specs.Calls.{waiting_at}
use Rattle.load_queue.proofs.waiting_load.Goals as goal

pub returns : goal.returns
returns c =
    c.unwrap_or.ensures
    ∙ found-first (waiting_at c.args.i) no_load c.args.loads c.find.result
    (find_from_yields_List _ _ _ c.find.result c.find.ensures.ran (YieldsList-from_copied (YieldsList-from_slice c.args.loads cc)) (λ x b q k. search (rules, tests)))

-- `lowest_wanting` meets its contract.
use Rattle.std.proofs.Common.{rules, tests}
use Rattle.std.proofs.lemmas.Iterator.{YieldsList-from_slice}
use Rattle.std.proofs.lemmas.Iterator.Adapters.{option_map_id}
use Rattle.std.proofs.lemmas.Iterator.Consumers.{YieldsList-from_copied}
use Rattle.std.proofs.lemmas.Iterator.Search.{find_from_yields_List}
use mathlib.Core.Bool.{true}
use mathlib.Core.Path.{◌≡◌, sym, ◌∙◌}
use Rattle.lists.proofs.Cond.{cond-then}
use Rattle.lists.proofs.Library.{find-first}
use Rattle.rules.specs.Calls.{wants_line}
use Rattle.records.specs.Records.{has_room, tabled}
use Rattle.records.proofs.lowest_wanting.Goals as goal

pub returns : goal.returns
returns c =
    let wanting = wants_line (tabled c.args.figures c.args.tags) c.args.h in
    let room : has_room c.args.figures ≡ true = sym c.if-not-has_room.ensures.test in
    let found = find_from_yields_List wanting _ _ c.find.result c.find.ensures.ran (YieldsList-from_copied (YieldsList-from_slice c.args.loads cc)) (λ x b q k. search (rules, tests)) in
    c.unwrap_or.ensures ∙ rw (sym (option_map_id c.find.result) ∙ found) (find-first wanting _ c.args.loads) ∙ cond-then _ _ room

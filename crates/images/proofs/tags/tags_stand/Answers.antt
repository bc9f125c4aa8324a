-- `tags::tags_stand` meets its contract.
use Rattle.std.proofs.Common.{◌≡◌, ◌∙◌, rules, tests, length, take, ap}
use Rattle.std.proofs.lemmas.Iterator.{YieldsList-from_slice}
use Rattle.std.proofs.lemmas.Iterator.Search.{all_from_yields_List}
use Rattle.lists.proofs.Library.{every-list}
use Rattle.lists.specs.Padded.{every}
use Rattle.images.specs.declared.TagImage.{TagImage}
use mathlib.Core.List.{List}
use Rattle.images.specs.Images.{tag_stands}
use Rattle.images.proofs.Standing.{bounded-take}
use Rattle.images.proofs.tags.tags_stand.Goals as goal

pub returns : goal.returns
returns c =
    let long : length c.args.tags ≡ 256 = search rules in
    all_from_yields_List tag_stands _ _ _ c.all.ensures.ran (YieldsList-from_slice (take c.min.result c.args.tags) cc) (λ x b q k. search (rules, tests))
    ∙ every-list tag_stands (take c.min.result c.args.tags)
    ∙ ap (λ (l : List TagImage). every tag_stands l) (rw c.min.ensures (bounded-take c.args.n c.args.tags long))

-- `tags::zero_from` meets its contract.
use Rattle.std.proofs.Common.{◌≡◌, ◌-◌, ◌∙◌, rules, tests, length, take, drop, length-drop, arith, ap}
use Rattle.std.proofs.lemmas.Iterator.{YieldsList-from_slice}
use Rattle.std.proofs.lemmas.Iterator.Search.{all_from_yields_List}
use lib.Seq.{take_all}
use Rattle.lists.proofs.Library.{every-list}
use Rattle.lists.specs.Padded.{every}
use Rattle.images.specs.declared.TagImage.{TagImage}
use mathlib.Core.List.{List}
use Rattle.images.specs.Images.{zero_image}
use Rattle.images.proofs.tags.zero_from.Goals as goal

pub returns : goal.returns
unfolding zero_image
returns c =
    let long : length c.args.tags ≡ 256 = search rules in
    let rest = drop c.args.n c.args.tags in
    let whole : take (256 - c.args.n) rest ≡ rest = take_all (256 - c.args.n) rest (omega (arith, length-drop c.args.n c.args.tags)) in (
      all_from_yields_List zero_image _ _ _ c.all.ensures.ran (YieldsList-from_slice (take (256 - c.args.n) rest) cc) (λ x b q k. search (rules, tests))
          ∙ every-list zero_image (take (256 - c.args.n) rest)
          ∙ ap (λ (l : List TagImage). every zero_image l) whole,
      long,
    )

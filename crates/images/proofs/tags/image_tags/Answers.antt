-- `tags::image_tags` meets its contract.
use Rattle.std.proofs.Common.{◌≡◌, ◌∙◌, length, get_or, sym, map, arith, rules, tests}
use Rattle.std.proofs.lemmas.List.{get_or-map, length-map}
use Rattle.rules.specs.Shape.{no_tag}
use Rattle.images.specs.Images.{imaged_tag}
use Rattle.images.proofs.Mapped.{from-fn}
use Rattle.images.proofs.tags.image_tags.Goals as goal

pub returns : goal.returns
returns c =
    let long : length c.args.tags ≡ 256 = search rules in
    from-fn _ (λ i. imaged_tag (get_or c.args.tags i no_tag)) (λ i y q k. search (rules, tests)) 256 _ (map imaged_tag c.args.tags) c.from_fn.ensures.items
    (length-map c.args.tags imaged_tag ∙ long) (λ i d l. sym (get_or-map imaged_tag c.args.tags i no_tag d (omega arith)))

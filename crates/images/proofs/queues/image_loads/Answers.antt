-- `queues::image_loads` meets its contract.
use Rattle.std.proofs.Common.{◌≡◌, length, rules}
use Rattle.images.specs.Images.{imaged_load}
use Rattle.images.proofs.Mapped.{from-map}
use Rattle.images.proofs.queues.image_loads.Goals as goal

pub returns : goal.returns
returns c =
    let long : length c.args.loads ≡ 8 = search rules in
    from-map imaged_load _ 8 c.args.loads _ long c.map.ensures.items (λ x y p q k. search rules)

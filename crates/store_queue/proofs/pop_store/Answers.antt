-- `store_queue::pop_store` meets its contract. The fifteen places from the second on are copied before a free one.
use Rattle.std.proofs.Common.{◌≡◌, length, rules}
use Rattle.lists.proofs.Loops.{shifted-copy}
use Rattle.rules.specs.Shape.{store_places, no_store}
use Rattle.store_queue.proofs.pop_store.Goals as goal

pub returns : goal.returns
returns c =
    let len : length c.args.stores ≡ store_places = search rules in
    shifted-copy no_store 15 c.args.stores c.copy_from_slice.new.self len c.copy_from_slice.ensures.after

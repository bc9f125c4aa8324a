-- `store_queue::byte_of` meets its contract.
use Rattle.std.proofs.Common.{◌≡◌, get_or, ◌∙◌, w32, rules}
use Rattle.std.specs.Int.{to_le_bytes}
use Rattle.store_queue.proofs.Forwarded.{le-byte}
use Rattle.store_queue.proofs.byte_of.Goals as goal

pub returns : goal.returns
returns c =
    let x : c.unwrap_or.result ≡ get_or (to_le_bytes w32 c.args.value) c.args.k 0 = search rules in
    x ∙ le-byte c.args.k c.args.value c.ranges.value.fits

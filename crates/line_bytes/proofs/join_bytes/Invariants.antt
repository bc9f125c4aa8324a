-- `join_bytes` meets its contract: what was read of k bytes, and what is left to read above them, give the whole.
use Rattle.std.proofs.Common.{ℕ, ◌≡◌, ◌≤◌, length, get_or, w32}
use Rattle.std.specs.Int.{from_le_bytes}
use Rattle.lists.specs.Bytes.{gather}
use Rattle.rules.specs.Forward.{all_forwarded}
use Rattle.line_bytes.specs.Reads.{read_of, byte_from}
use Rattle.line_bytes.proofs.Reading.{joined_above, left}
use Rattle.line_bytes.proofs.join_bytes.Given as goal

abbrev pub invariant-loop-k : goal.invariant-loop-k
invariant-loop-k l =
    (length l.bytes ≡ 4) × ((j : ℕ) → l.k ≤ j → get_or l.bytes j 0 ≡ 0)
    × (read_of (all_forwarded l.i l.stores l.a l.width) (gather (byte_from l.i l.a l.stores l.cache l.p l.here) l.a l.width)
    ≡ joined_above l.k (from_le_bytes w32 l.bytes) l.forwarded (left l.i l.a l.width l.stores l.cache l.p l.here l.k))

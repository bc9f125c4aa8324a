-- `play_lines` meets its contract.
use lib.ListN.{length}
use Prim.Native.Nat.{◌≤◌}
use mathlib.Core.Path.{◌≡◌}
use Rattle.std.specs.Bool.{then_some}
use Rattle.std.specs.Slice.Iter.{split_inclusive_rest}
use Rattle.script.specs.Commands.{held_bytes}
use Rattle.script_play.specs.Player.{player_at}
use Rattle.script_play.proofs.InputPlays.{PlayedTo}
use Rattle.script_play.proofs.input.play_lines.Given as goal

abbrev pub invariant-loop-piece : goal.invariant-loop-piece
invariant-loop-piece l =
    (goal.iterator-loop-piece).can_next l.piece-iterator × (goal.iterator-loop-piece).is_finite l.piece-iterator
    × (l.line.length ≤ held_bytes)
    × (length l.cache ≡ length l.initial.cache) × (length l.memory ≡ length l.initial.memory) × (length l.out ≡ length l.initial.out)
    × PlayedTo l.input (split_inclusive_rest l.piece-iterator)
    (player_at l.fn.player l.initial.cache l.initial.memory l.initial.out 0)
    (player_at (record { run = then_some l.started l.state; line = l.line }) l.cache l.memory l.out l.at)

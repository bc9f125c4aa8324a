-- `write_words` meets its contract. The bytes that are left to write give the whole line.
use mathlib.Core.Path.{◌≡◌}
use Prim.Native.Nat.{◌≤◌, ◌-◌, ◌+◌, ◌*◌}
use lib.ListN.{length}
use Rattle.lists.specs.Counted.{steps_from}
use Rattle.lists.proofs.CountedLoops.{change}
use Rattle.rules.specs.Lines.{written_back_at}
use Rattle.line_bytes.specs.Writes.{marked_line}
use Rattle.line_bytes.proofs.write_words.Given as goal

abbrev pub invariant-loop-i : goal.invariant-loop-i
invariant-loop-i l =
    let written = change (written_back_at (marked_line l.marks l.line) l.cache l.v) 0 in
    (l.i ≤ 16) × (length l.memory ≡ length l.initial.memory)
    × (steps_from written (16 * l.line) 16 l.initial.memory ≡ steps_from written (16 * l.line + l.i) (16 - l.i) l.memory)

-- `write_back_all` meets its contract. The slots that are left to write back give the whole.
use Rattle.std.proofs.Common.{◌≡◌, ◌-◌}
use Rattle.lists.specs.Counted.{steps_from}
use Rattle.line_bytes.proofs.Writing.{slot_written}
use Rattle.line_bytes.proofs.write_back_all.Given as goal

abbrev pub invariant-loop-k : goal.invariant-loop-k
invariant-loop-k l =
    steps_from (slot_written l.fn.tags l.cache) 0 l.count l.initial.memory ≡ steps_from (slot_written l.fn.tags l.cache) l.k (l.count - l.k) l.memory

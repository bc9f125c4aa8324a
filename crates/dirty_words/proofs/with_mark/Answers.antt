-- `with_mark` meets its contract: the mark is added where it is not set.
use Prim.Native.Nat.{◌/◌, ◌%◌, ◌<◌}
use native.Mathlib.Omega.{arith}
use Rattle.dirty_words.proofs.Marks.{mark-set}
use Rattle.dirty_words.proofs.with_mark.Goals as goal

pub returns : goal.returns
returns c =
    let h : c.args.address % 16 / 4 < 4 = omega arith in
    search mark-set

-- `hold` meets its contract.
use native.Mathlib.Omega.{arith}
use mathlib.Core.Path.{◌≡◌, ap, ◌∙◌}
use lib.ListN.{length, take}
use lib.Seq.{length-take-le}
use Prim.Native.Nat.{◌+◌}
use Rattle.std.proofs.Common.{rules}
use Rattle.script.specs.Commands.{held_bytes}
use Rattle.model.proofs.Facts.{length-of}
use Rattle.script_text.proofs.Writing.{word_copied}
use Rattle.script_play.proofs.InputPlays.{held_all}
use Rattle.script_play.proofs.HeldLine.hold.Goals as goal

pub returns : goal.returns
returns c =
    let line = c.args.self in
    let len : length line.bytes ≡ held_bytes = search (rules, length-of) in
    let taken : length (take c.min-n.result c.args.more.now) ≡ c.min-n.result = length-take-le c.min-n.result c.args.more.now (omega arith) in
    let copied = word_copied line.length _ line.bytes _ _ (omega arith) c.copy_from_slice.ensures.after (omega arith) in
    record { bytes = ap (take (line.length + c.min-n.result)) copied ∙ held_all line.length c.min-n.result line.bytes c.args.more.now c.requires len c.min-n.ensures; short = omega arith }

-- The laws of the script player: an input may be cut anywhere, and the bytes held of a line are enough.
use Prim.Native.Nat.{ℕ}
use mathlib.Core.Path.{refl, sym, ◌∙◌, ap}
use mathlib.Core.List.{List, [], ◌∷◌, ◌++◌, append_assoc}
use native.Mathlib.Omega.{arith}
use lib.Dec.{ltb}
use lib.ListN.{length, take, length-take}
use lib.Seq.{take_all}
use borrow.Author.Tests.{lt-ltb, ltb-true, ltb-false}
use Rattle.lists.proofs.Cond.{cases}
use Rattle.script.specs.Commands.{longest_line, held_bytes, command_of}
use Rattle.script.specs.Play.{byte_output, after_byte, output, after_bytes}
use Rattle.script.specs.Claims.{CutsDoNotMatter, LinesHeldShort}

pub cuts : CutsDoNotMatter
unfolding output after_bytes
cuts [] ys p = (refl, refl)
cuts (b ∷ xs) ys p =
    let r = cuts xs ys (after_byte b p) in
    (ap (λ (o : List ℕ). byte_output b p ++ o) r.0 ∙ sym (append_assoc (byte_output b p) _ _), r.1)

pub held-short : LinesHeldShort
unfolding command_of
held-short line = cases (ltb longest_line (length line))
    (λ t. rw (t, lt-ltb longest_line (length (take held_bytes line)) (omega (arith, length-take held_bytes line, ltb-true longest_line (length line) t))))
    (λ t. rw (take_all held_bytes line (omega (arith, ltb-false longest_line (length line) t))))

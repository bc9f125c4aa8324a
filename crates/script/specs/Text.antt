-- Texts as bytes, so that letters and words of the script language can be written as they are read.
use Rattle.std.specs.Prelude.{ℕ, List, [] as none, ◌∷◌ as ◌then◌}
use Prim.Native.Char.{code}
use Prim.Native.String.{String, [], ◌∷◌}

-- the bytes of a text (its characters are below 128)
abbrev pub bytes_of : String → List ℕ
bytes_of [] = none
bytes_of (c ∷ s) = code c then bytes_of s

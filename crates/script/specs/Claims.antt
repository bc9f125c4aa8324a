-- The claims about the script language, each closed.
use Rattle.std.specs.Prelude.{ℕ, ◌≡◌, Bool, true, false, List, ◌++◌, take}
use Rattle.std.proofs.Math.Option.{Option, some, none}
use Rattle.lists.specs.Padded.{every}
use Rattle.rules.specs.Calls.{retry}
use Rattle.script.specs.Commands.{Command, make, held_bytes, command_of}
use Rattle.script.specs.Play.{Player, output, after_bytes, played}
use Rattle.script.specs.Example.{example_input, example_output, waits_input, waits_output, edge_input, edge_output, bad_lines, long_line, largest_line}

-- where an input is cut into chunks does not matter
abbrev pub CutsDoNotMatter : Type 0
CutsDoNotMatter =
    (xs ys : List ℕ) (p : Player)
    → (output (xs ++ ys) p ≡ output xs p ++ output ys (after_bytes xs p)) × (after_bytes (xs ++ ys) p ≡ after_bytes ys (after_bytes xs p))

-- a line is known by the bytes that are held of it
abbrev pub LinesHeldShort : Type 0
LinesHeldShort = (line : List ℕ) → command_of (take held_bytes line) ≡ command_of line

-- the line is no command
abbrev pub is_bad : Option Command → Bool
is_bad none = true
is_bad (some c) = false

-- 01's example, the two words of a load that waits, and lines at the limits
pub record ExamplesPlayed : Type 0 where
  pub example : played example_input ≡ example_output
  pub waits : played waits_input ≡ waits_output
  pub edge : played edge_input ≡ edge_output
  pub bad : every (λ l. is_bad (command_of l)) bad_lines ≡ true
  pub long : command_of long_line ≡ some (make (retry 1))
  pub largest : command_of largest_line ≡ some (make (retry 4294967295))

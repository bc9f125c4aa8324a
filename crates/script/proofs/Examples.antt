-- 01's example played whole, the two words of a load that waits, and lines at the limits, computed.
use mathlib.Core.Path.{◌≡◌, refl}
use mathlib.Core.Bool.{true}
use mathlib.Core.Option.{some}
use Rattle.lists.specs.Padded.{every}
use Rattle.rules.specs.Calls.{retry}
use Rattle.rules.specs.Computed.{computed}
use Rattle.script.specs.Commands.{make, words, decimal, numbers, command_of}
use Rattle.script.specs.Words.{digits, said, answer_line}
use Rattle.script.specs.Play.{effect, byte_output, after_byte, output, after_bytes, at_end, played}
use Rattle.script.specs.Example.{example_input, example_output, waits_input, waits_output, edge_input, edge_output, bad_lines, long_line, largest_line}
use Rattle.script.specs.Claims.{is_bad, ExamplesPlayed}

example-played : played example_input ≡ example_output
unfolding computed words decimal numbers command_of digits said answer_line effect byte_output after_byte output after_bytes at_end played
example-played = refl

waits-played : played waits_input ≡ waits_output
unfolding computed words decimal numbers command_of digits said answer_line effect byte_output after_byte output after_bytes at_end played
waits-played = refl

edge-played : played edge_input ≡ edge_output
unfolding computed words decimal numbers command_of digits said answer_line effect byte_output after_byte output after_bytes at_end played
edge-played = refl

bad-lines : every (λ l. is_bad (command_of l)) bad_lines ≡ true
unfolding computed words decimal numbers command_of
bad-lines = refl

long-line : command_of long_line ≡ some (make (retry 1))
unfolding computed words decimal numbers command_of
long-line = refl

largest-line : command_of largest_line ≡ some (make (retry 4294967295))
unfolding computed words decimal numbers command_of
largest-line = refl

pub examples-played : ExamplesPlayed
examples-played = record { example = example-played; waits = waits-played; edge = edge-played; bad = bad-lines; long = long-line; largest = largest-line }

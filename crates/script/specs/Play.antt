-- The script player: a line played, and a whole input as a fold over its bytes.
use Rattle.std.specs.Prelude.{ℕ, ◌*◌, cond, List, [], ◌∷◌, ◌++◌, eqb, length, replicate}
use Rattle.std.proofs.Math.Option.{Option, some, none}
use Rattle.rules.specs.Shape.{World, line_bytes}
use Rattle.rules.specs.Calls.{Call}
use Rattle.rules.specs.Runs.{StartAnswer, ready, start_refused, start_answer, start_world, answer, next}
use Rattle.rules.specs.declared.Figures.{Figures}
use Rattle.script.specs.Commands.{Command, start, make, line_feed, command_of}
use Rattle.script.specs.Words.{ready_line, refused_line, answer_line}

-- ---- a line

-- what a line prints, and the run after it; there is none before an accepted G
pub record Effect : Type 0 where
  pub says : List ℕ
  pub run : Option World

-- "script line malformed, or a call before an accepted G"
abbrev pub malformed_line : ℕ
malformed_line = 6

-- a refused line leaves the run that was going on
abbrev pub refused_effect : ℕ → Option World → Effect
refused_effect k r = record { says = refused_line k; run = r }

-- G, by the answer of the start and what it leaves
abbrev pub start_effect : StartAnswer → World → Option World → Effect
start_effect ready w r = record { says = ready_line; run = some w }
start_effect (start_refused k) w r = refused_effect k r

-- any other letter
abbrev pub call_effect : Call → Option World → Effect
call_effect c none = refused_effect malformed_line none
call_effect c (some w) = record { says = answer_line (answer c w); run = some (next c w) }

abbrev pub zeros : ℕ → List ℕ
zeros n = replicate n 0

-- a cache for these figures, all zero
abbrev pub zero_cache : Figures → List ℕ
zero_cache f = zeros (f.sets * f.ways * line_bytes)

-- "G sets ways memory (memory zeroed)"
unfoldable pub effect : Option Command → Option World → Effect
effect none r = refused_effect malformed_line r
effect (some (start f size)) r =
    start_effect (start_answer f (zero_cache f) (zeros size)) (start_world f (zero_cache f) (zeros size)) r
effect (some (make c)) r = call_effect c r

-- ---- bytes

-- between two bytes: the run, and the line so far
pub record Player : Type 0 where
  pub run : Option World
  pub line : List ℕ

abbrev pub new_player : Player
new_player = record { run = none; line = [] }

-- a byte's output: "Lines end with LF", "One output line .. answers each"
unfoldable pub byte_output : ℕ → Player → List ℕ
byte_output b p = cond (eqb b line_feed) (effect (command_of p.line) p.run).says []

unfoldable pub after_byte : ℕ → Player → Player
after_byte b p =
    cond (eqb b line_feed) (record { run = (effect (command_of p.line) p.run).run; line = [] })
    (record { run = p.run; line = p.line ++ (b ∷ []) })

-- ---- bytes one after the other

unfoldable pub output : List ℕ → Player → List ℕ
output [] p = []
output (b ∷ bs) p = byte_output b p ++ output bs (after_byte b p)

unfoldable pub after_bytes : List ℕ → Player → Player
after_bytes [] p = p
after_bytes (b ∷ bs) p = after_bytes bs (after_byte b p)

-- ---- a whole input

-- "a last one without LF gives 6"
unfoldable pub at_end : Player → List ℕ
at_end p = cond (eqb (length p.line) 0) [] (refused_line malformed_line)

unfoldable pub played : List ℕ → List ℕ
played input = output input new_player ++ at_end (after_bytes input new_player)

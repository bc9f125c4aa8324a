-- The script language: a line, as bytes before its LF, taken apart.
use Rattle.std.specs.Prelude.{ℕ, ◌+◌, ◌*◌, ◌-◌, Bool, cond, ◌&&◌, List, [], ◌∷◌, ltb, leb, eqb, length}
use Prim.Native.Char.{code}
use Rattle.std.proofs.Math.Option.{Option, some, none}
use Rattle.lists.specs.Padded.{every}
use Rattle.rules.specs.Shape.{top_number, geometry}
use Rattle.rules.specs.Calls.{Call, load, store, retry, commit, abort, idle, reply, flush}
use Rattle.rules.specs.declared.Figures.{Figures}
use Rattle.rules.specs.declared.WritePolicy.TheVariants.{WriteBack, WriteThrough}

-- what a line asks for: a start (its figures and the memory length), or a call
pub data Command : Type 0 where
  start : Figures → ℕ → Command
  make : Call → Command

-- ---- bytes

abbrev pub line_feed : ℕ
line_feed = code "\n"

abbrev pub space : ℕ
space = code " "

-- 0 to 9
abbrev pub first_digit : ℕ
first_digit = code "0"

abbrev pub last_digit : ℕ
last_digit = code "9"

abbrev pub is_digit : ℕ → Bool
is_digit b = leb first_digit b && leb b last_digit

-- "at most 64 bytes before it"
abbrev pub longest_line : ℕ
longest_line = 64

-- what is held of a line: one byte more than the longest has, which tells that it is longer
abbrev pub held_bytes : ℕ
held_bytes = longest_line + 1

-- ---- words: "separated by one space"

abbrev pub joined : ℕ → List (List ℕ) → List (List ℕ)
joined b [] = (b ∷ []) ∷ []
joined b (w ∷ ws) = (b ∷ w) ∷ ws

-- what stands between the spaces of a line; two spaces have an empty word between them
unfoldable pub words : List ℕ → List (List ℕ)
words [] = [] ∷ []
words (b ∷ bs) = cond (eqb b space) ([] ∷ words bs) (joined b (words bs))

-- ---- numbers: "unsigned decimals of 32 bits (leading zeros allowed)"

-- the value of digits that follow the number v
unfoldable pub decimal : ℕ → List ℕ → ℕ
decimal v [] = v
decimal v (b ∷ bs) = decimal (10 * v + (b - first_digit)) bs

abbrev pub is_number : List ℕ → Bool
is_number w = ltb 0 (length w) && (every is_digit w && leb (decimal 0 w) top_number)

abbrev pub also_number : ℕ → Option (List ℕ) → Option (List ℕ)
also_number n none = none
also_number n (some ns) = some (n ∷ ns)

-- the numbers of these words, if each is one
unfoldable pub numbers : List (List ℕ) → Option (List ℕ)
numbers [] = some []
numbers (w ∷ ws) = cond (is_number w) (also_number (decimal 0 w) (numbers ws)) none

-- ---- letters

-- a letter with no number: I (idle), R (reply), F (flush)
abbrev pub with_none : ℕ → Option Command
with_none c = cond (eqb c (code "I")) (some (make idle)) (cond (eqb c (code "R")) (some (make reply)) (cond (eqb c (code "F")) (some (make flush)) none))

-- with one: A number (inquiry), C number (commit), X number (abort)
abbrev pub with_one : ℕ → ℕ → Option Command
with_one c n =
    cond (eqb c (code "A")) (some (make (retry n))) (cond (eqb c (code "C")) (some (make (commit n))) (cond (eqb c (code "X")) (some (make (abort n))) none))

-- with two: L (load) address width
abbrev pub with_two : ℕ → ℕ → ℕ → Option Command
with_two c a w = cond (eqb c (code "L")) (some (make (load a w))) none

-- with three: G sets ways memory, S (store) address width value. 02, card 1: "The script player keeps to write-back."
abbrev pub with_three : ℕ → ℕ → ℕ → ℕ → Option Command
with_three c x y z =
    cond (eqb c (code "G")) (some (start (geometry WriteBack x y) z))
    (cond (eqb c (code "S")) (some (make (store x y z))) none)

abbrev pub named : ℕ → Option (List ℕ) → Option Command
named c none = none
named c (some []) = with_none c
named c (some (x ∷ [])) = with_one c x
named c (some (x ∷ y ∷ [])) = with_two c x y
named c (some (x ∷ y ∷ z ∷ [])) = with_three c x y z
named c (some (x ∷ y ∷ z ∷ u ∷ ns)) = none

-- ---- a line

-- "A line is a letter and unsigned decimals"
abbrev pub of_words : List (List ℕ) → Option Command
of_words [] = none
of_words ([] ∷ ws) = none
of_words ((c ∷ []) ∷ ws) = named c (numbers ws)
of_words ((c ∷ d ∷ cs) ∷ ws) = none

-- what a line asks for; none of "an empty line, a longer one" and a malformed one
unfoldable pub command_of : List ℕ → Option Command
command_of line = cond (ltb longest_line (length line)) none (of_words (words line))

-- Bytes written into a buffer from a place on; every other byte is kept.
use Rattle.std.specs.Prelude.{ℕ, ◌+◌, cond, ◌≡◌, List, [], leb, length}
use Rattle.std.proofs.lemmas.List.Edits.{sets}

-- the bytes xs stand from place at on, and the place behind them is handed back
pub record Wrote (at : ℕ) (xs before after : List ℕ) (end : ℕ) : Type 0 where
  pub bytes : after ≡ sets before at xs
  pub next : end ≡ at + length xs

-- the longest word, "waits-requested"
abbrev pub longest_word : ℕ
longest_word = 15

-- a space and a number of 32 bits
abbrev pub spaced_room : ℕ
spaced_room = 11

-- room for the longest line of output, with some to spare
abbrev pub line_room : ℕ
line_room = 32

-- the bytes, if a line has room from place at on, else none
unfoldable pub in_room : ℕ → List ℕ → List ℕ → List ℕ
in_room at out bytes = cond (leb (at + line_room) (length out)) bytes []

-- 01's example, the two words of a load that waits, an input at the edges, lines that are no command, and lines that just are one.
use Rattle.std.specs.Prelude.{ℕ, List, [], ◌∷◌, ◌++◌, replicate}
use Prim.Native.Char.{code}
use Rattle.script.specs.Text.{bytes_of}

-- ---- 01's example

abbrev pub example_input : List ℕ
example_input = bytes_of "G 1 1 32\nS 4 1 7\nL 4 1\nL 5 1\nX 3\nC 2\nI\nR\nI\nF\nL 5 1\n"

abbrev pub example_output : List ℕ
example_output =
    bytes_of "ready\nstored 1\nvalue 2 7\nwaits 3\nkept 2\ncommitted 2\nrequest 0\nfilled 0\ndrained 1\nflushed 1\nvalue 3 0\n"

-- ---- 02, card 4: load 2 waits, another load's miss requests its line, and it says so; load 3, of another line, waits, and load 4, of
-- the requested one, says so at once

abbrev pub waits_input : List ℕ
waits_input = bytes_of "G 1 1 32\nL 0 1\nL 4 1\nC 1\nI\nA 2\nL 16 1\nL 8 1\nR\nA 2\n"

abbrev pub waits_output : List ℕ
waits_output = bytes_of "ready\nwaits 1\nwaits 2\ncommitted 1\nrequest 0\nwaits-requested 2\nwaits 3\nwaits-requested 4\nfilled 0\nvalue 2 0\n"

-- ---- a call before an accepted G, a refused G in a run, a last line without LF

abbrev pub edge_input : List ℕ
edge_input = bytes_of "I\nG 1 1 32\nS 4 1 7\nG 3 1 32\nL 4 1\nI"

abbrev pub edge_output : List ℕ
edge_output = bytes_of "refused 6\nready\nstored 1\nrefused 1\nvalue 2 7\nrefused 6\n"

-- ---- lines that give 6

abbrev pub bad_lines : List (List ℕ)
bad_lines =
    -- an empty line
    [] ∷
    -- a small letter
    bytes_of "i" ∷
    -- another letter
    bytes_of "Q" ∷
    -- two letters
    bytes_of "II" ∷
    -- a space behind
    bytes_of "I " ∷
    -- a space before
    bytes_of " I" ∷
    -- two spaces
    bytes_of "L  4 1" ∷
    -- a tab
    bytes_of "L\t4 1" ∷
    -- a number too many
    bytes_of "I 1" ∷
    -- one too few
    bytes_of "L 4" ∷
    -- four numbers
    bytes_of "S 1 1 1 1" ∷
    -- a sign
    bytes_of "L +4 1" ∷
    -- a letter in a number
    bytes_of "L 4x 1" ∷
    -- 2^32
    bytes_of "A 4294967296" ∷
    -- no space
    bytes_of "L4 1" ∷
    -- a carriage return
    bytes_of "I\r" ∷
    -- 65 bytes: A, a space, 62 zeros and 1
    (bytes_of "A " ++ replicate 62 (code "0") ++ bytes_of "1") ∷
    []

-- ---- lines that just are commands

-- 64 bytes: A, a space, 61 zeros and 1
abbrev pub long_line : List ℕ
long_line = bytes_of "A " ++ replicate 61 (code "0") ++ bytes_of "1"

-- the largest number
abbrev pub largest_line : List ℕ
largest_line = bytes_of "A 4294967295"

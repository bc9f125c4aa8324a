-- The script language: the line that answers, as bytes.
use Rattle.std.specs.Prelude.{ℕ, zero, suc, ◌+◌, ◌/◌, ◌%◌, cond, List, [], ◌∷◌, ◌++◌, ltb}
use Rattle.rules.specs.Calls.{Answer, stored, value, waits, waits_requested, committed, kept, drained, requested, idled, filled, flushed, shown, checkpointed, previewed, refused}
use Rattle.script.specs.Text.{bytes_of}
use Rattle.script.specs.Commands.{line_feed, space, first_digit}

-- ---- numbers

-- the digits of n, at most k of them
unfoldable pub digits : ℕ → ℕ → List ℕ
digits zero n = []
digits (suc k) n = cond (ltb n 10) ((first_digit + n) ∷ []) (digits k (n / 10) ++ ((first_digit + n % 10) ∷ []))

-- a number of 32 bits has at most 10
abbrev pub printed : ℕ → List ℕ
printed n = digits 10 n

-- ---- words

abbrev pub ready_word : List ℕ
ready_word = bytes_of "ready"

abbrev pub stored_word : List ℕ
stored_word = bytes_of "stored"

abbrev pub value_word : List ℕ
value_word = bytes_of "value"

abbrev pub waits_word : List ℕ
waits_word = bytes_of "waits"

-- 02, card 4
abbrev pub waits_requested_word : List ℕ
waits_requested_word = bytes_of "waits-requested"

abbrev pub kept_word : List ℕ
kept_word = bytes_of "kept"

abbrev pub committed_word : List ℕ
committed_word = bytes_of "committed"

abbrev pub request_word : List ℕ
request_word = bytes_of "request"

abbrev pub filled_word : List ℕ
filled_word = bytes_of "filled"

abbrev pub drained_word : List ℕ
drained_word = bytes_of "drained"

abbrev pub flushed_word : List ℕ
flushed_word = bytes_of "flushed"

abbrev pub idle_word : List ℕ
idle_word = bytes_of "idle"

abbrev pub refused_word : List ℕ
refused_word = bytes_of "refused"

-- ---- a line

-- a word and its numbers, "One output line ending in LF"
unfoldable pub said : List ℕ → List ℕ → List ℕ
said word [] = word ++ (line_feed ∷ [])
said word (n ∷ ns) = said (word ++ (space ∷ printed n)) ns

-- "Numbers printed: operation number; for value, number then value; kept and committed, the last and h now in force; request and
-- filled, the line's first address; flushed, lines written." (02, card 2: words.) ".. Case (d) of idle prints idle. Others: refused and the number."
-- No line of a script shows a cache line, sets a mark or previews a reply.
unfoldable pub answer_line : Answer → List ℕ
answer_line (stored i) = said stored_word (i ∷ [])
answer_line (value i v) = said value_word (i ∷ v ∷ [])
answer_line (waits i) = said waits_word (i ∷ [])
answer_line (waits_requested i) = said waits_requested_word (i ∷ [])
answer_line (committed k) = said committed_word (k ∷ [])
answer_line (kept k) = said kept_word (k ∷ [])
answer_line (drained i) = said drained_word (i ∷ [])
answer_line (requested a) = said request_word (a ∷ [])
answer_line idled = said idle_word []
answer_line (filled a) = said filled_word (a ∷ [])
answer_line (flushed k) = said flushed_word (k ∷ [])
answer_line (shown p bs) = []
answer_line (checkpointed n) = []
answer_line (previewed p) = []
answer_line (refused k) = said refused_word (k ∷ [])

abbrev pub ready_line : List ℕ
ready_line = said ready_word []

abbrev pub refused_line : ℕ → List ℕ
refused_line k = said refused_word (k ∷ [])

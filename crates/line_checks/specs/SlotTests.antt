-- The clauses of the lines as tests of one record, in the order in which the code makes them. `line` are the 16 bytes of a slot, `home` those
-- of its line in memory; `memory` and `cache` are lists of such lines.
use Rattle.std.specs.Prelude.{ℕ, ◌+◌, ◌*◌, ◌/◌, ◌%◌, Bool, cond, not, ◌&&◌, ◌||◌, List, [], ltb, leb, eqb, length, take, get_or, replicate, nat_eq}
use Rattle.std.specs.Cmp.Lexicographic.{pointwise}
use Rattle.std.specs.List.{between}
use Rattle.std.specs.Simd.{first_chunks}
use Rattle.lists.specs.Counted.{all_from}
use Rattle.lists.specs.Padded.{any}
use Rattle.rules.specs.declared.Figures.{Figures}
use Rattle.rules.specs.declared.Tag.{Tag}
use Rattle.rules.specs.Shape.{word_bytes, line_words, all_marks, is_through, tag_at}
use Rattle.rules.specs.Lines.{holds_line, is_dirty_word, is_dirty}

-- the same bytes
abbrev pub same_bytes : List ℕ → List ℕ → Bool
same_bytes a b = pointwise nat_eq a b

-- word n of a line
abbrev pub word_at : List ℕ → ℕ → List ℕ
word_at line n = get_or (first_chunks word_bytes (length line / word_bytes) line) n []

-- line l of so many
abbrev pub line_at : List (List ℕ) → ℕ → List ℕ
line_at lines l = get_or lines l []

-- word n of a line with the marks d is dirty, or equals memory
unfoldable pub word_good : ℕ → List ℕ → List ℕ → ℕ → Bool
word_good d line home n = is_dirty_word d n || same_bytes (word_at line n) (word_at home n)

-- a dirty line with the marks d: they are four, and its clean words equal memory
unfoldable pub marks_good : ℕ → List ℕ → List ℕ → Bool
marks_good d line home = leb d all_marks && all_from (word_good d line home) 0 line_words

-- a valid record in set s
unfoldable pub valid_good : Figures → List (List ℕ) → ℕ → List ℕ → Tag → Bool
valid_good f memory s line t =
    ltb t.line (length memory)
    && (eqb (t.line % f.sets) s
    && cond (is_dirty t) (not (is_through f.policy) && marks_good t.dirty line (line_at memory t.line))
    (same_bytes line (line_at memory t.line)))

-- an invalid record
unfoldable pub invalid_good : List ℕ → Tag → Bool
invalid_good line t = eqb t.dirty 0 && (eqb t.line 0 && same_bytes line (replicate 16 0))

-- a record in set s
unfoldable pub record_good : Figures → List (List ℕ) → ℕ → List ℕ → Tag → Bool
record_good f memory s line t =
    ltb t.age f.ways && cond t.valid (valid_good f memory s line t) (invalid_good line t)

-- two records of a set that may not stand together
unfoldable pub same_age_or_line : Tag → Tag → Bool
same_age_or_line u t = eqb u.age t.age || (t.valid && holds_line t.line u)

-- the record of way w of set s is well formed by itself, and may stand with those before it
unfoldable pub way_good : Figures → List (List ℕ) → ℕ → List Tag → List (List ℕ) → ℕ → Bool
way_good f memory s set lines w =
    record_good f memory s (line_at lines w) (tag_at set w) && not (any (λ u. same_age_or_line u (tag_at set w)) (take w set))

-- the records of set s
unfoldable pub set_good : Figures → List (List ℕ) → ℕ → List Tag → List (List ℕ) → Bool
set_good f memory s set lines = all_from (way_good f memory s set lines) 0 (length set)

-- what a list of the records in use, or of their lines, has of set s
abbrev pub of_set : {X : Type 0} → Figures → List X → ℕ → List X
of_set f xs s = between (s * f.ways) (s * f.ways + f.ways) xs

-- the records in use
unfoldable pub sets_good : Figures → List (List ℕ) → List Tag → List (List ℕ) → Bool
sets_good f memory tags cache = all_from (λ s. set_good f memory s (of_set f tags s) (of_set f cache s)) 0 f.sets

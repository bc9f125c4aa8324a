-- Checkpoints (02, card 3: branch marks): a list of eight places, the marks in order of setting, then the free places. Each change keeps
-- that order, and one function, `ranked`, numbers the marks where some move or one is added. (Where only the last ones go, the others
-- have their ranks; that every change leaves ranks 1, 2 and so on is part of what is kept well formed.)
use Rattle.std.specs.Prelude.{ℕ, suc, Bool, cond, not, ◌&&◌, List, ltb, leb, eqb}
use Rattle.lists.specs.Padded.{any, first, without, placed, changed, cut}
use Rattle.lists.specs.Counted.{each_from}
use Rattle.rules.specs.declared.Checkpoint.{Checkpoint}
use Rattle.rules.specs.Shape.{checkpoint_names, no_checkpoint, is_free_checkpoint}

-- ---- what is in force

-- a mark of that name
abbrev pub named : ℕ → Checkpoint → Bool
named x c = not (is_free_checkpoint c) && eqb c.name x

-- the name is in use
abbrev pub in_use : ℕ → List Checkpoint → Bool
in_use x cs = any (named x) cs

-- the number that the mark of that name remembers
abbrev pub number_of : ℕ → List Checkpoint → ℕ
number_of x cs = (first (named x) no_checkpoint cs).number

-- "A mark has a name 1 to 8"
abbrev pub name_allowed : ℕ → Bool
name_allowed x = leb 1 x && leb x checkpoint_names

-- ---- ranks

-- "its rank, by order of setting, among the marks in force": the mark at place i, counted from 0, has rank i + 1
abbrev pub rank_at : ℕ → Checkpoint → Checkpoint
rank_at i c = record { name = c.name; number = c.number; rank = cond (is_free_checkpoint c) c.rank (suc i) }

abbrev pub ranked : List Checkpoint → List Checkpoint
ranked cs = each_from rank_at 0 cs

-- ---- changes

-- a mark is set at n: it comes last
unfoldable pub add_checkpoint : ℕ → ℕ → List Checkpoint → List Checkpoint
add_checkpoint x n cs = ranked (placed is_free_checkpoint (record { name = x; number = n; rank = 0 }) cs)

-- a mark that remembers more than n
abbrev pub above : ℕ → Checkpoint → Bool
above n c = ltb n c.number

-- "A plain abort n forgets marks above n": they are the last ones, so the others keep their ranks
unfoldable pub forget_above : ℕ → List Checkpoint → List Checkpoint
forget_above n cs = changed (above n) (λ c. no_checkpoint) cs

-- a mark that remembers k or less
abbrev pub at_most : ℕ → Checkpoint → Bool
at_most k c = not (is_free_checkpoint c) && leb c.number k

-- "a commit forgets marks at or below h": they are the first ones, so the others move up
unfoldable pub forget_up_to : ℕ → List Checkpoint → List Checkpoint
forget_up_to k cs = ranked (without (at_most k) no_checkpoint cs)

-- "forgets that mark and all set later": what is left are the marks set before x
unfoldable pub forget_from : ℕ → List Checkpoint → List Checkpoint
forget_from x cs = cut (named x) no_checkpoint cs

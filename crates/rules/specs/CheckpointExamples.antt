-- Examples of checkpoints (02, card 3: branch marks): which ones a call forgets, their ranks, and stretches with marks.
use Rattle.std.specs.Prelude.{ℕ, List, [], ◌∷◌, replicate}
use Rattle.rules.specs.Dropped.{struck_too}
use Rattle.rules.specs.declared.Checkpoint.{Checkpoint}
use Rattle.rules.specs.declared.Request.TheVariants.{Free}
use Rattle.rules.specs.Shape.{World, world, no_load, no_checkpoint}
use Rattle.rules.specs.Calls.{Call, load, store, commit, abort, reply, show, checkpoint, restore}
use Rattle.rules.specs.Runs.{next, after}
use Rattle.rules.specs.Examples.{Stretch, plain, whole, struck_calls, two_of_four, dirty_requested}
use Rattle.rules.specs.States.{checkpoint_of, queues_with}

-- "h 2, last 4"; mark 2 was set before operation 3, and mark 7 after operation 4
abbrev pub marked_four : World
marked_four =
    world
    (queues_with (checkpoint_of 2 3 1 ∷ checkpoint_of 7 5 2 ∷ replicate 6 no_checkpoint) 4 2 Free two_of_four.queues.stores
    (replicate 8 no_load))
    two_of_four.hierarchy

-- ---- what is forgotten, and ranks

-- two marks at one number: the return to the first forgets both
unfoldable pub same_number : List Call
same_number = checkpoint 1 ∷ checkpoint 2 ∷ restore 1 ∷ restore 2 ∷ []

-- the return to the second keeps the first
unfoldable pub later_one : List Call
later_one = checkpoint 1 ∷ checkpoint 2 ∷ restore 2 ∷ restore 1 ∷ []

-- an abort at the number of a mark keeps it, an abort below it does not
unfoldable pub aborted_at : List Call
aborted_at = store 0 1 7 ∷ checkpoint 1 ∷ load 16 1 ∷ abort 2 ∷ restore 1 ∷ []

unfoldable pub aborted_below : List Call
aborted_below = store 0 1 7 ∷ checkpoint 1 ∷ abort 1 ∷ restore 1 ∷ []

-- marks 5 and 3, before operations 1 and 2; commit 1 forgets the first
unfoldable pub ranked_two : List Call
ranked_two = checkpoint 5 ∷ store 0 1 7 ∷ checkpoint 3 ∷ []

-- "h 2, last 4" with four marks: one right above h, one at 4, two at last + 1. What an abort, a commit and a return leave of them.
abbrev pub four_marked : World
four_marked =
    world
    (queues_with
    (checkpoint_of 2 3 1 ∷ checkpoint_of 4 4 2 ∷ checkpoint_of 7 5 3 ∷ checkpoint_of 1 5 4 ∷ replicate 4 no_checkpoint)
    4 2 Free two_of_four.queues.stores (replicate 8 no_load))
    two_of_four.hierarchy

abbrev pub left_by : Call → List Checkpoint
left_by c = (next c four_marked).queues.checkpoints

-- ---- stretches

-- 02's: the setting of mark x, which answers n, the body, and the return to x
abbrev pub returning : World → ℕ → ℕ → List Call → List Call → Stretch
returning w x n body later = record {
  from = w;
  before = [];
  opens = checkpoint x ∷ [];
  body = body;
  ends = restore x;
  strikes = struck_too n;
  later = later;
}

-- the marks that the whole run leaves, and those that the struck run leaves
abbrev pub seen_checkpoints : Stretch → List Checkpoint
seen_checkpoints s = (after (whole s) s.from).queues.checkpoints

abbrev pub struck_checkpoints : Stretch → List Checkpoint
struck_checkpoints s = (after (struck_calls s) s.from).queues.checkpoints

-- A plain stretch. Mark 7 is in force at 5, which is the next number. Then a load, a store and an abort; and the return to 7.
unfoldable pub mark_before : Stretch
mark_before = plain marked_four [] 5 (load 0 1 ∷ store 4 1 9 ∷ []) (restore 7 ∷ [])

-- Line 0 is dirty, and line 1 is requested for the committed load 2. Then a load that waits, a second mark, a held store, a setting that
-- is refused, and a reply that evicts the dirty line.
unfoldable pub evicting_mark : Stretch
evicting_mark =
    returning dirty_requested 1 3 (load 32 1 ∷ checkpoint 2 ∷ store 4 1 9 ∷ checkpoint 1 ∷ reply ∷ []) (show 16 ∷ [])

-- Mark 7 is in force at 5. Then mark 3 at 5, mark 4 at 5, a setting and a return that are refused, and a load; and the return to 7.
unfoldable pub second_mark : Stretch
second_mark = returning marked_four 3 5 (checkpoint 4 ∷ checkpoint 3 ∷ restore 8 ∷ load 0 1 ∷ []) (restore 7 ∷ [])

-- Marks 2 and 7 are in force, at 3 and 5. Then mark 3 at 5, a load, a commit that forgets mark 2 and gives 7 and 3 other ranks, a later
-- mark, and the return to that one.
unfoldable pub committing_mark : Stretch
committing_mark = returning marked_four 3 5 (load 0 1 ∷ commit 3 ∷ checkpoint 4 ∷ restore 4 ∷ []) (commit 4 ∷ [])

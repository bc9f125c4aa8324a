-- Which checkpoints (02, card 3: branch marks) each call leaves, with their names, numbers and ranks: claims beside the rules' own definitions.
use Rattle.std.specs.Prelude.{ℕ, suc, ◌-◌, ◌≡◌, Bool, true, false, not, List, [], ◌∷◌, ◌++◌, map, ltb, leb, length}
use Rattle.lists.specs.Padded.{first, filter}
use Rattle.rules.specs.declared.Checkpoint.{Checkpoint}
use Rattle.rules.specs.Shape.{World, world, no_checkpoint, is_free_checkpoint}
use Rattle.rules.specs.Checkpoints.{named, number_of, ranked}
use Rattle.rules.specs.Calls.{Call, load, store, retry, commit, abort, idle, reply, flush, show, checkpoint, restore, preview, checkpointed, is_accepted, next_number}
use Rattle.rules.specs.Runs.{answer, next}
use Rattle.rules.specs.Kept.{Formed}

-- ---- the marks of a world

abbrev pub checkpoints_of : World → List Checkpoint
checkpoints_of w = w.queues.checkpoints

-- the marks in force, in order of setting
abbrev pub in_force : World → List Checkpoint
in_force w = filter (λ c. not (is_free_checkpoint c)) (checkpoints_of w)

-- the rank of the mark of name x
abbrev pub rank_of : ℕ → World → ℕ
rank_of x w = (first (named x) no_checkpoint (checkpoints_of w)).rank

-- the same world with other checkpoints
abbrev pub with_checkpoints : List Checkpoint → World → World
with_checkpoints cs w =
    world
    (record {
      last = w.queues.last;
      committed = w.queues.committed;
      request = w.queues.request;
      stores = w.queues.stores;
      loads = w.queues.loads;
      checkpoints = cs;
    })
    w.hierarchy

-- ---- setting

-- an accepted setting of x
pub record SetExact (x : ℕ) (w : World) : Type 0 where
  -- "Setting answers that number"
  pub answers : answer (checkpoint x) w ≡ checkpointed (next_number w.queues)
  -- it "remembers the next operation number and its rank, by order of setting, among the marks in force": the next one; the marks in force
  -- before it stay as they were, and there is no other
  pub marks :
      in_force (next (checkpoint x) w)
      ≡ in_force w ++ record { name = x; number = next_number w.queues; rank = suc (length (in_force w)) } ∷ []
  -- nothing else changes
  pub rest : next (checkpoint x) w ≡ with_checkpoints (checkpoints_of (next (checkpoint x) w)) w

abbrev pub SetsExactly : ℕ → World → Type 0
SetsExactly x w = is_accepted (answer (checkpoint x) w) ≡ true → SetExact x w

-- ---- returning

-- an accepted return to x, which remembers n
pub record ReturnExact (x n : ℕ) (w : World) : Type 0 where
  -- "returning answers as the abort does": the abort at that number, which is accepted
  pub answers : answer (restore x) w ≡ answer (abort n) w
  pub accepted : is_accepted (answer (abort n) w) ≡ true
  -- "Returning to it does what an abort at that number does", but for the marks
  pub rest : next (restore x) w ≡ with_checkpoints (checkpoints_of (next (restore x) w)) (next (abort n) w)
  -- "and forgets that mark and all set later": those of a lower rank stay as they were, and there is no other
  pub marks : in_force (next (restore x) w) ≡ filter (λ c. ltb c.rank (rank_of x w)) (in_force w)
  -- so ranks 1 to r − 1 are left, where r was its rank
  pub left : suc (length (in_force (next (restore x) w))) ≡ rank_of x w
  -- n is the next operation number
  pub number : next_number (next (restore x) w).queues ≡ n

abbrev pub ReturnsExactly : ℕ → World → Type 0
ReturnsExactly x w = is_accepted (answer (restore x) w) ≡ true → ReturnExact x (number_of x (checkpoints_of w)) w

-- ---- abort and commit

-- "A plain abort n forgets marks above n": the others stay as they were, and there is no other
abbrev pub AbortsExactly : ℕ → World → Type 0
AbortsExactly n w =
    is_accepted (answer (abort n) w) ≡ true → in_force (next (abort n) w) ≡ filter (λ c. leb c.number n) (in_force w)

-- the marks at or below h
abbrev pub committed_checkpoints : ℕ → World → List Checkpoint
committed_checkpoints h w = filter (λ c. leb c.number h) (in_force w)

-- a mark, when j marks before it are forgotten
abbrev pub lowered : ℕ → Checkpoint → Checkpoint
lowered j c = record { name = c.name; number = c.number; rank = c.rank - j }

-- "a commit forgets marks at or below h": where there are j of them, the rank of each other falls by j; and there is no other
abbrev pub CommitsExactly : ℕ → World → Type 0
CommitsExactly h w =
    is_accepted (answer (commit h) w) ≡ true
    → in_force (next (commit h) w)
    ≡ map (lowered (length (committed_checkpoints h w))) (filter (λ c. ltb h c.number) (in_force w))

-- ---- every other call, and every state

abbrev pub changes_checkpoints : Call → Bool
changes_checkpoints (load a w) = false
changes_checkpoints (store a w v) = false
changes_checkpoints (retry i) = false
changes_checkpoints (commit k) = true
changes_checkpoints (abort n) = true
changes_checkpoints idle = false
changes_checkpoints reply = false
changes_checkpoints flush = false
changes_checkpoints (show a) = false
changes_checkpoints (checkpoint x) = true
changes_checkpoints (restore x) = true
changes_checkpoints preview = false

-- no other call sets or forgets a mark
abbrev pub CheckpointsStay : Call → World → Type 0
CheckpointsStay c w = changes_checkpoints c ≡ false → checkpoints_of (next c w) ≡ checkpoints_of w

-- after every change the marks are numbered by one function, 1, 2 and so on
abbrev pub CheckpointsRanked : Call → World → Type 0
CheckpointsRanked c w = Formed w → ranked (checkpoints_of (next c w)) ≡ checkpoints_of (next c w)

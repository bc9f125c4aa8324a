-- The dropped stretch, what is struck from it, and demand 3.
use Rattle.std.specs.Prelude.{ℕ, ◌≡◌, Bool, true, false, not, ◌||◌, List, [], ◌∷◌, ◌++◌, map, T, leb, ltb, eqb, length, replicate}
use Rattle.lists.specs.Padded.{every, select}
use Rattle.rules.specs.declared.Figures.{Figures}
use Rattle.rules.specs.Shape.{World}
use Rattle.rules.specs.Calls.{Call, load, store, retry, commit, abort, idle, reply, flush, show, checkpoint, restore, preview, checkpointed, is_accepted, next_number}
use Rattle.rules.specs.Runs.{answer, next, answers, after, start_world, start_answer, ready}

-- ---- a dropped stretch

-- the call is an abort naming less than n
abbrev pub aborts_below : ℕ → Call → Bool
aborts_below n (load a w) = false
aborts_below n (store a w v) = false
aborts_below n (retry i) = false
aborts_below n (commit k) = false
aborts_below n (abort m) = ltb m n
aborts_below n idle = false
aborts_below n reply = false
aborts_below n flush = false
aborts_below n (show a) = false
aborts_below n (checkpoint x) = false
aborts_below n (restore x) = false
aborts_below n preview = false

-- no call that passes the test is accepted: of the calls, made from w on
abbrev pub NoneAccepted : (Call → Bool) → List Call → World → Type 0
NoneAccepted test [] w = Unit {0}
NoneAccepted test (c ∷ cs) w = (T (test c) → T (is_accepted (answer c w)) → ⊥) × NoneAccepted test cs (next c w)

-- "no accepted abort in it names less than n"
abbrev pub NoAbortBelow : ℕ → List Call → World → Type 0
NoAbortBelow n cs w = NoneAccepted (aborts_below n) cs w

-- 02, card 3: "set and return calls"
abbrev pub is_checkpoint_call : Call → Bool
is_checkpoint_call (load a w) = false
is_checkpoint_call (store a w v) = false
is_checkpoint_call (retry i) = false
is_checkpoint_call (commit k) = false
is_checkpoint_call (abort m) = false
is_checkpoint_call idle = false
is_checkpoint_call reply = false
is_checkpoint_call flush = false
is_checkpoint_call (show a) = false
is_checkpoint_call (checkpoint x) = true
is_checkpoint_call (restore x) = true
is_checkpoint_call preview = false

-- the stretch, made from w on, is dropped for n
pub record Dropped (n : ℕ) (stretch : List Call) (w : World) : Type 0 where
  -- "the next operation number is n before its first call"
  pub opens : next_number w.queues ≡ n
  -- "its last call is an accepted abort naming n" ("It may be that abort alone.")
  pub body : List Call
  pub ends : stretch ≡ body ++ abort n ∷ []
  pub accepted : T (is_accepted (answer (abort n) (after body w)))
  -- "and no accepted abort in it names less than n"
  pub above : NoAbortBelow n stretch w
  -- 02, card 3: "A plain stretch keeps its property if no set or return call, accepted or refused, is inside it."
  pub quiet : every (λ c. not (is_checkpoint_call c)) stretch ≡ true

-- the call sets the mark of name x
abbrev pub sets_checkpoint : ℕ → Call → Bool
sets_checkpoint x (load a w) = false
sets_checkpoint x (store a w v) = false
sets_checkpoint x (retry i) = false
sets_checkpoint x (commit k) = false
sets_checkpoint x (abort m) = false
sets_checkpoint x idle = false
sets_checkpoint x reply = false
sets_checkpoint x flush = false
sets_checkpoint x (show a) = false
sets_checkpoint x (checkpoint y) = eqb y x
sets_checkpoint x (restore y) = false
sets_checkpoint x preview = false

-- 02, card 3: "A stretch from setting a mark to the accepted return to it", made from w on; the mark has name x and remembers n
pub record Restored (x n : ℕ) (stretch : List Call) (w : World) : Type 0 where
  pub body : List Call
  pub shape : stretch ≡ checkpoint x ∷ (body ++ restore x ∷ [])
  -- "setting a mark": it is accepted, and answers the number that the mark remembers
  pub sets : answer (checkpoint x) w ≡ checkpointed n
  -- "the accepted return"
  pub returns : T (is_accepted (answer (restore x) (after body (next (checkpoint x) w))))
  -- "to it": to that setting, so that no other setting of the name is accepted in between
  pub set-once : NoneAccepted (sets_checkpoint x) body (next (checkpoint x) w)

-- ---- what is struck

-- "Struck from it, accepted or refused, are every load, every store, every inquiry about a number n or above,
-- and every abort naming n or above, the last one too."
abbrev pub struck : ℕ → Call → Bool
struck n (load a w) = true
struck n (store a w v) = true
struck n (retry i) = leb n i
struck n (commit k) = false
struck n (abort m) = leb n m
struck n idle = false
struck n reply = false
struck n flush = false
struck n (show a) = false
-- (a plain stretch has none of them; in a mark stretch they are struck too, below)
struck n (checkpoint x) = false
struck n (restore x) = false
-- 02, card 7: "A preview inside a dropped stretch counts among the remaining calls." (So it does in a mark stretch.)
struck n preview = false

-- 02, card 3: "when its set and return calls, refused ones included, are struck too"
abbrev pub struck_too : ℕ → Call → Bool
struck_too n c = struck n c || is_checkpoint_call c

-- "All other calls of the run remain, before the stretch, in it and after it, with the same arguments and in the same order.":
-- which calls of pre ++ stretch ++ post remain, when those of the stretch that pass a test are struck
abbrev pub remaining : (Call → Bool) → List Call → List Call → List Call → List Bool
remaining strike pre stretch post =
    replicate (length pre) true ++ (map (λ c. not (strike c)) stretch ++ replicate (length post) true)

-- ---- demand 3

-- Striking those calls leaves no trace: both runs begin at w.
pub record NoTrace (strike : Call → Bool) (pre stretch post : List Call) (w : World) : Type 0 where
  -- "Each remaining call has the same answer in both"
  pub same-answers :
      select (remaining strike pre stretch post) (answers (pre ++ (stretch ++ post)) w)
      ≡ answers (select (remaining strike pre stretch post) (pre ++ (stretch ++ post))) w
  -- "At the end both memories and both caches are equal byte for byte, and both states in every field"
  pub same_end :
      after (pre ++ (stretch ++ post)) w
      ≡ after (select (remaining strike pre stretch post) (pre ++ (stretch ++ post))) w

-- every run from w on, and every dropped stretch in it
abbrev pub DroppedStretch : World → Type 0
DroppedStretch w =
    (n : ℕ) (pre stretch post : List Call) → Dropped n stretch (after pre w) → NoTrace (struck n) pre stretch post w

-- "for every run after a start and every dropped stretch in it": whatever memory and cache bytes the start found
abbrev pub DroppedAfterStart : Figures → List ℕ → List ℕ → Type 0
DroppedAfterStart f cache memory =
    start_answer f cache memory ≡ ready → DroppedStretch (start_world f cache memory)

-- 02, card 3: every run from w on, and every stretch in it from the setting of a mark to the accepted return to it
abbrev pub RestoredStretch : World → Type 0
RestoredStretch w =
    (x n : ℕ) (pre stretch post : List Call) → Restored x n stretch (after pre w) → NoTrace (struck_too n) pre stretch post w

abbrev pub RestoredAfterStart : Figures → List ℕ → List ℕ → Type 0
RestoredAfterStart f cache memory =
    start_answer f cache memory ≡ ready → RestoredStretch (start_world f cache memory)

-- The next operation number: "it is 1 after a start, rises by 1 with each accepted load or store, and becomes n with an accepted
-- abort naming n."
use Rattle.std.specs.Prelude.{ℕ, ◌+◌, ◌≡◌, true, List}
use Rattle.rules.specs.declared.Figures.{Figures}
use Rattle.rules.specs.Shape.{World}
use Rattle.rules.specs.Checkpoints.{number_of}
use Rattle.rules.specs.Flat.{number_in}
use Rattle.rules.specs.Calls.{Call, Answer, load, store, retry, commit, abort, idle, reply, flush, show, checkpoint, restore, preview, is_accepted, next_number}
use Rattle.rules.specs.Runs.{answer, next, start_world}

-- the next number after an accepted call that answered r, when it was i before
abbrev pub number_after : Call → Answer → ℕ → ℕ
number_after (load a w) r i = i + 1
number_after (store a w v) r i = i + 1
number_after (retry j) r i = i
number_after (commit k) r i = i
number_after (abort n) r i = n
number_after idle r i = i
number_after reply r i = i
number_after flush r i = i
number_after (show a) r i = i
number_after (checkpoint x) r i = i
-- 02, card 3: "returning answers as the abort does", the last now in force (`ReturnNumber` says which number that makes the next)
number_after (restore x) r i = number_in r + 1
number_after preview r i = i

-- 02, card 3: after an accepted return it is the number that the mark remembers
abbrev pub ReturnNumber : ℕ → World → Type 0
ReturnNumber x w =
    is_accepted (answer (restore x) w) ≡ true → next_number (next (restore x) w).queues ≡ number_of x w.queues.checkpoints

abbrev pub FirstNumber : Figures → List ℕ → List ℕ → Type 0
FirstNumber f cache memory = next_number (start_world f cache memory).queues ≡ 1

abbrev pub NextNumber : Call → World → Type 0
NextNumber c w = is_accepted (answer c w) ≡ true → next_number (next c w).queues ≡ number_after c (answer c w) (next_number w.queues)

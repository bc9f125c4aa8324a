-- The tag lookup and the two words of a load that waits, as claims (02, card 4): what the lookup answers, by the fields of the records and
-- the miss register (01's request register); which of the two words is said, by the register alone; what a call that waits leaves; and that
-- no other call says either word.
use Rattle.std.specs.Prelude.{ℕ, ◌+◌, ◌<◌, ◌≡◌, Bool, true, false}
use Rattle.rules.specs.declared.Request.{Request}
use Rattle.rules.specs.declared.Request.TheVariants.{Line}
use Rattle.rules.specs.declared.Lookup.TheVariants.{Hit, Pending, Miss}
use Rattle.rules.specs.Shape.{Hierarchy, World, line_of, first_slot, tag_at}
use Rattle.rules.specs.Lines.{slot_of, lookup}
use Rattle.rules.specs.Calls.{Call, Answer, load, store, retry, commit, abort, idle, reply, flush, show, checkpoint, restore, preview, waits, waits_requested, is_accepted, next_number}
use Rattle.rules.specs.Runs.{answer, next}
use Rattle.rules.specs.Values.{lacks_byte, IsWait, waiting_load}

-- ---- the lookup

-- way w of the line's set has the line: its record is valid and names it
pub record InWay (b : Hierarchy) (l w : ℕ) : Type 0 where
  pub valid : (tag_at b.tags (first_slot b l + w)).valid ≡ true
  pub same : (tag_at b.tags (first_slot b l + w)).line ≡ l

-- way w is the lowest that has it. (In a well-formed state it is the only one.)
pub record PresentIn (b : Hierarchy) (l w : ℕ) : Type 0 where
  pub a-way : w < b.figures.ways
  pub there : InWay b l w
  pub lowest : (k : ℕ) → k < w → InWay b l k → ⊥

-- no way of its set has the line
abbrev pub Absent : Hierarchy → ℕ → Type 0
Absent b l = (w : ℕ) → w < b.figures.ways → InWay b l w → ⊥

-- "present with its way, requested, or absent": each of the three exactly under its condition
pub record LookupExact (r : Request) (b : Hierarchy) (l : ℕ) : Type 0 where
  pub hit-only : (w : ℕ) → lookup r b l ≡ Hit w → PresentIn b l w
  pub hit-whenever : (w : ℕ) → PresentIn b l w → lookup r b l ≡ Hit w
  pub pending-only : lookup r b l ≡ Pending → Absent b l × (r ≡ Line l)
  pub pending-whenever : Absent b l → r ≡ Line l → lookup r b l ≡ Pending
  pub miss-only : lookup r b l ≡ Miss → Absent b l × (r ≡ Line l → ⊥)
  pub miss-whenever : Absent b l → (r ≡ Line l → ⊥) → lookup r b l ≡ Miss
  -- the slot of that way is where every rule looks for the line
  pub slot : (w : ℕ) → lookup r b l ≡ Hit w → first_slot b l + w ≡ slot_of b l

-- ---- which of the two words

-- the miss register names the line of address a
abbrev pub LineRequested : World → ℕ → Type 0
LineRequested w a = w.queues.request ≡ Line (line_of a)

-- the answer r of operation i, a load of the n bytes from a on, when w is the state before the call
pub record StatusExactly (i a n : ℕ) (w : World) (r : Answer) : Type 0 where
  -- "waits-requested" only if some byte is lacking and the load's line is requested, and whenever it is so
  pub requested-only : (j : ℕ) → r ≡ waits_requested j → (lacks_byte i w a n ≡ true) × LineRequested w a
  pub requested-whenever : lacks_byte i w a n ≡ true → LineRequested w a → r ≡ waits_requested i
  -- "waits" only if some byte is lacking and the load's line is not requested, and whenever it is so
  pub waits-only : (j : ℕ) → r ≡ waits j → (lacks_byte i w a n ≡ true) × (LineRequested w a → ⊥)
  pub waits-whenever : lacks_byte i w a n ≡ true → (LineRequested w a → ⊥) → r ≡ waits i

-- an accepted load
abbrev pub LoadStatus : ℕ → ℕ → World → Type 0
LoadStatus a n w = is_accepted (answer (load a n) w) ≡ true → StatusExactly (next_number w.queues) a n w (answer (load a n) w)

-- an accepted inquiry, about the waiting load of that number
abbrev pub RetryStatus : ℕ → World → Type 0
RetryStatus i w =
    is_accepted (answer (retry i) w) ≡ true → StatusExactly i (waiting_load i w).address (waiting_load i w).width w (answer (retry i) w)

-- ---- what a call that waits leaves, by whichever word

-- load j of the n bytes from a on waits, and v is what it leaves: it is listed as waiting; h, stores, marks, register and lines stay
pub record ListedWaiting (j a n : ℕ) (w v : World) : Type 0 where
  pub listed : waiting_load j v ≡ record { number = j; address = a; width = n; waiting = true; forwarded = false }
  pub same-committed : v.queues.committed ≡ w.queues.committed
  pub same-stores : v.queues.stores ≡ w.queues.stores
  pub same-checkpoints : v.queues.checkpoints ≡ w.queues.checkpoints
  pub same-request : v.queues.request ≡ w.queues.request
  pub same_lines : v.hierarchy ≡ w.hierarchy

abbrev pub LoadWaitLeaves : ℕ → ℕ → World → Type 0
LoadWaitLeaves a n w = (j : ℕ) → IsWait j (answer (load a n) w) → ListedWaiting j a n w (next (load a n) w)

-- an inquiry that waits changes nothing
abbrev pub RetryWaitLeaves : ℕ → World → Type 0
RetryWaitLeaves i w = (j : ℕ) → IsWait j (answer (retry i) w) → next (retry i) w ≡ w

-- ---- "in loads and inquiries alike": and in no other call

abbrev pub may_wait : Call → Bool
may_wait (load a n) = true
may_wait (store a n v) = false
may_wait (retry i) = true
may_wait (commit k) = false
may_wait (abort n) = false
may_wait idle = false
may_wait reply = false
may_wait flush = false
may_wait (show a) = false
may_wait (checkpoint x) = false
may_wait (restore x) = false
may_wait preview = false

abbrev pub NoOtherWaits : Call → World → Type 0
NoOtherWaits c w = may_wait c ≡ false → (j : ℕ) → IsWait j (answer c w) → ⊥

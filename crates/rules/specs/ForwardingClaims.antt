-- Loads fed from held stores (02, card 6), as claims beside the rules' own definitions: which loads are forwarded, that no other call sets or
-- changes it, that an inquiry which answers reads its line, and what a commit uses. ("does not open its data array" shows in the ages alone.)
use Rattle.std.specs.Prelude.{ℕ, ◌+◌, ◌≤◌, ◌<◌, ◌≡◌, Bool, true, false, not, ◌&&◌, eqb}
use Rattle.lists.specs.Padded.{any, first, filter, without}
use Rattle.rules.specs.declared.LoadEntry.{LoadEntry}
use Rattle.rules.specs.Shape.{World, world, no_load, is_free_load, line_of}
use Rattle.rules.specs.Lines.{present, use_line}
use Rattle.rules.specs.Forward.{older_covers}
use Rattle.rules.specs.Calls.{Call, load, store, retry, commit, abort, idle, reply, flush, show, checkpoint, restore, preview, value, is_accepted, next_number, with_loads, answered_by, use_each}
use Rattle.rules.specs.Runs.{answer, next}
use Rattle.rules.specs.Values.{waiting_load}

-- ---- the load of a number

-- some load is listed under number i. (Numbers begin at 1, and in a well-formed state no two are alike.)
abbrev pub is_listed : ℕ → World → Bool
is_listed i w = any (λ l. eqb l.number i) w.queues.loads

abbrev pub listed_load : ℕ → World → LoadEntry
listed_load i w = first (λ l. eqb l.number i) no_load w.queues.loads

-- ---- the load call

-- the byte at x is in a held store numbered below i
abbrev pub in_older_store : ℕ → World → ℕ → Bool
in_older_store i w x = any (older_covers i x) w.queues.stores

-- each of the n bytes from a on is in a held store numbered below i
abbrev pub EachInStores : ℕ → ℕ → ℕ → World → Type 0
EachInStores i a n w = (x : ℕ) → a ≤ x → x < a + n → in_older_store i w x ≡ true

-- load i of the n bytes from a on answers a value: w is the state before it, v the state after it
pub record ForwardedExact (i a n : ℕ) (w v : World) : Type 0 where
  -- it is listed, with its answer
  pub numbered : (listed_load i v).number ≡ i
  pub at : (listed_load i v).address ≡ a
  pub wide : (listed_load i v).width ≡ n
  pub has-answer : (listed_load i v).waiting ≡ false
  -- it is forwarded only if each of its bytes is in an older held store then, and whenever it is so
  pub only : (listed_load i v).forwarded ≡ true → EachInStores i a n w
  pub whenever : EachInStores i a n w → (listed_load i v).forwarded ≡ true

abbrev pub LoadForwarded : ℕ → ℕ → World → Type 0
LoadForwarded a n w = (i x : ℕ) → answer (load a n) w ≡ value i x → ForwardedExact i a n w (next (load a n) w)

-- ---- every call

-- the call is a load, and takes number i
abbrev pub Takes : Call → World → ℕ → Type 0
Takes (load a n) w i = i ≡ next_number w.queues
Takes (store a n v) w i = ⊥
Takes (retry j) w i = ⊥
Takes (commit k) w i = ⊥
Takes (abort n) w i = ⊥
Takes idle w i = ⊥
Takes reply w i = ⊥
Takes flush w i = ⊥
Takes (show a) w i = ⊥
Takes (checkpoint x) w i = ⊥
Takes (restore x) w i = ⊥
Takes preview w i = ⊥

-- every other load that is listed after a call was listed before it, with the same bytes, and forwarded or not as it is now
pub record AsBefore (i : ℕ) (w v : World) : Type 0 where
  pub listed : is_listed i w ≡ true
  pub at : (listed_load i v).address ≡ (listed_load i w).address
  pub wide : (listed_load i v).width ≡ (listed_load i w).width
  pub same : (listed_load i v).forwarded ≡ (listed_load i w).forwarded

abbrev pub ForwardedStays : Call → World → Type 0
ForwardedStays c w = (i : ℕ) → 0 < i → (Takes c w i → ⊥) → is_listed i (next c w) ≡ true → AsBefore i w (next c w)

-- the calls that list a load, answer one or take one off
abbrev pub changes_loads : Call → Bool
changes_loads (load a n) = true
changes_loads (store a n v) = false
changes_loads (retry i) = true
changes_loads (commit k) = true
changes_loads (abort n) = true
changes_loads idle = false
changes_loads reply = false
changes_loads flush = false
changes_loads (show a) = false
changes_loads (checkpoint x) = false
changes_loads (restore x) = true
changes_loads preview = false

-- no other touches the list: a store that drains takes no load with it that it fed
abbrev pub LoadsStay : Call → World → Type 0
LoadsStay c w = changes_loads c ≡ false → (next c w).queues.loads ≡ w.queues.loads

-- ---- inquiry

-- an inquiry about i answers a value, for the load l, which waited: it cannot be fed from held stores alone, so its rule is 01's
pub record LineRead (i : ℕ) (l : LoadEntry) (w : World) : Type 0 where
  -- some byte is in no older held store, and the line is present
  pub partly : EachInStores i l.address l.width w → ⊥
  pub there : present w.hierarchy (line_of l.address) ≡ true
  -- "a committed load leaves the list and uses its line if present"
  pub uses : i ≤ w.queues.committed → (next (retry i) w).hierarchy ≡ use_line (line_of l.address) w.hierarchy
  pub leaves : i ≤ w.queues.committed → is_listed i (next (retry i) w) ≡ false
  -- "an uncommitted one is marked answered": it uses nothing yet, and is not forwarded
  pub keeps : w.queues.committed < i → (next (retry i) w).hierarchy ≡ w.hierarchy
  pub stays :
      w.queues.committed < i
      → listed_load i (next (retry i) w) ≡ record { number = i; address = l.address; width = l.width; waiting = false; forwarded = false }

abbrev pub RetryReadsLine : ℕ → World → Type 0
RetryReadsLine i w = (x : ℕ) → answer (retry i) w ≡ value i x → LineRead i (waiting_load i w) w

-- ---- commit

-- the same world, with the forwarded loads not listed
abbrev pub without_forwarded : World → World
without_forwarded w = world (with_loads (without (λ l. l.forwarded) no_load w.queues.loads) w.queues) w.hierarchy

-- an accepted commit k
pub record CommitUses (k : ℕ) (w : World) : Type 0 where
  -- with the forwarded loads not listed it is accepted too, and leaves the same lines and ages
  pub alike : answer (commit k) (without_forwarded w) ≡ answer (commit k) w
  pub as-if : (next (commit k) w).hierarchy ≡ (next (commit k) (without_forwarded w)).hierarchy
  -- "All other loads use lines as 01 says."
  pub others : (next (commit k) w).hierarchy ≡ use_each (filter (answered_by k) (filter (λ l. not l.forwarded) w.queues.loads)) w.hierarchy
  -- where there is no other, no line is touched
  pub none-used : any (λ l. answered_by k l && not l.forwarded) w.queues.loads ≡ false → (next (commit k) w).hierarchy ≡ w.hierarchy
  -- forwarded or not, the answered loads numbered k or less leave the list, and no other does
  pub left :
      filter (λ l. not (is_free_load l)) (next (commit k) w).queues.loads
      ≡ filter (λ l. not (is_free_load l) && not (answered_by k l)) w.queues.loads

abbrev pub CommitUsesExactly : ℕ → World → Type 0
CommitUsesExactly k w = is_accepted (answer (commit k) w) ≡ true → CommitUses k w

-- The calls: their answers, their refusals in order, and what each does when it is accepted.
use Rattle.std.specs.Prelude.{ℕ, ◌+◌, ◌*◌, ◌-◌, ◌%◌, ◌^◌, Bool, true, false, cond, not, ◌&&◌, ◌||◌, List, [], ◌∷◌, ◌++◌, ltb, leb, eqb, get_or, take, drop}
use Rattle.std.proofs.Math.Option.{Option, some, none}
use Rattle.lists.specs.Padded.{any, every, first, filter, without, shifted, placed, changed}
use Rattle.rules.specs.declared.StoreEntry.{StoreEntry}
use Rattle.rules.specs.declared.LoadEntry.{LoadEntry}
use Rattle.rules.specs.declared.Checkpoint.{Checkpoint}
use Rattle.rules.specs.declared.Request.{Request}
use Rattle.rules.specs.declared.Request.TheVariants.{Free, Line}
use Rattle.rules.specs.declared.Lookup.{Lookup}
use Rattle.rules.specs.declared.Lookup.TheVariants.{Hit, Pending, Miss}
use Rattle.rules.specs.Shape.{Queues, Hierarchy, line_bytes, top_number, no_store, no_load, is_free_store, is_free_load, is_free, requested_line, line_of, writes_through}
use Rattle.rules.specs.Lines.{present, place_of, lookup, use_line, write_store, write_back_all, dirty_words, fill_line, Preview, preview_of}
use Rattle.rules.specs.Forward.{load_value, all_forwarded}
use Rattle.rules.specs.Checkpoints.{in_use, number_of, name_allowed, add_checkpoint, forget_above, forget_up_to, forget_from}

-- ---- calls and answers

pub data Call : Type 0 where
  -- address, width
  load : ℕ → ℕ → Call
  -- address, width, value
  store : ℕ → ℕ → ℕ → Call
  -- 01: inquiry, about an operation number
  retry : ℕ → Call
  -- k
  commit : ℕ → Call
  -- n
  abort : ℕ → Call
  idle : Call
  reply : Call
  flush : Call
  -- 01: show line, by an address
  show : ℕ → Call
  -- 02, card 3: set a mark, return to it; its name
  checkpoint : ℕ → Call
  restore : ℕ → Call
  -- 02, card 7: preview of a reply
  preview : Call

-- Each answer with 01's numbers.
pub data Answer : Type 0 where
  -- the refusal's number
  refused : ℕ → Answer
  -- the operation number
  stored : ℕ → Answer
  -- the operation number and the value
  value : ℕ → ℕ → Answer
  -- the operation number: some byte has neither, and the load's line is not requested
  waits : ℕ → Answer
  -- the same where its line is requested (02, card 4: "waits-requested")
  waits_requested : ℕ → Answer
  -- the h now in force
  committed : ℕ → Answer
  -- the last now in force (also of a return: "returning answers as the abort does")
  kept : ℕ → Answer
  -- idle (a): the operation number
  drained : ℕ → Answer
  -- idle (b) and (c), printed "request": the line's first address
  requested : ℕ → Answer
  -- idle (d), printed "idle"
  idled : Answer
  -- the line's first address
  filled : ℕ → Answer
  -- words written
  flushed : ℕ → Answer
  -- where in the cache the part begins, and its bytes
  shown : ℕ → List ℕ → Answer
  -- the number that the mark remembers
  checkpointed : ℕ → Answer
  -- what the reply will do
  previewed : Preview → Answer

-- "A call is accepted when its answer is no refusal."
abbrev pub is_accepted : Answer → Bool
is_accepted (refused k) = false
is_accepted (stored i) = true
is_accepted (value i v) = true
is_accepted (waits i) = true
is_accepted (waits_requested i) = true
is_accepted (committed k) = true
is_accepted (kept k) = true
is_accepted (drained i) = true
is_accepted (requested a) = true
is_accepted idled = true
is_accepted (filled a) = true
is_accepted (flushed k) = true
is_accepted (shown p bs) = true
is_accepted (checkpointed n) = true
is_accepted (previewed p) = true

-- what a call leaves, with its answer
pub record Outcome : Type 0 where
  pub answer : Answer
  pub queues : Queues
  pub hierarchy : Hierarchy

-- the answer alone: nothing changes
abbrev pub unchanged : Answer → Queues → Hierarchy → Outcome
unchanged r q b = record { answer = r; queues = q; hierarchy = b }

-- ---- refusals

-- a refusal: its number, and whether its condition applies
pub record Check : Type 0 where
  pub number : ℕ
  pub applies : Bool

abbrev pub check : ℕ → Bool → Check
check k t = record { number = k; applies = t }

-- the first that applies refuses; else the call is done
unfoldable pub guarded : {A : Type 0} → List Check → (ℕ → A) → A → A
guarded [] refuse done = done
guarded (k ∷ ks) refuse done = cond k.applies (refuse k.number) (guarded ks refuse done)

-- none of the refusals applies
abbrev pub passes : List Check → Bool
passes ks = every (λ k. not k.applies) ks

-- "Widths are 1, 2 or 4."
abbrev pub width_allowed : ℕ → Bool
width_allowed w = eqb w 1 || (eqb w 2 || eqb w 4)

-- 2: "width is not 1, 2 or 4"; 3: "address is not a multiple of width"; 4: "address + width exceeds memory length"
abbrev pub access_checks : Hierarchy → ℕ → ℕ → List Check
access_checks b a w =
    check 2 (not (width_allowed w)) ∷ check 3 (not (eqb (a % w) 0)) ∷ check 4 (ltb b.size (a + w)) ∷ []

-- 5: "a stored value is 256 to the power width or more"
abbrev pub value_check : ℕ → ℕ → Check
value_check w v = check 5 (leb (256 ^ w) v)

-- 13: "load or store: last is 4294967295"
abbrev pub number_check : Queues → Check
number_check q = check 13 (eqb q.last top_number)

-- 17: "reply: register free"; 02, card 7: a preview too
abbrev pub request_check : Queues → Check
request_check q = check 17 (is_free q.request)

-- a held store numbered h or less
unfoldable pub committed_store : ℕ → StoreEntry → Bool
committed_store h s = not (is_free_store s) && leb s.number h

-- the waiting load of number i
unfoldable pub waiting_at : ℕ → LoadEntry → Bool
waiting_at i l = not (is_free_load l) && (eqb l.number i && l.waiting)

-- the refusals of each call that stand between 1 and 10, by the call and the hierarchy: there is none
abbrev pub early_checks : Call → Hierarchy → List Check
early_checks (load a w) b = []
early_checks (store a w v) b = []
early_checks (retry i) b = []
early_checks (commit k) b = []
early_checks (abort n) b = []
early_checks idle b = []
early_checks reply b = []
early_checks flush b = []
early_checks (show a) b = []
early_checks (checkpoint x) b = []
early_checks (restore x) b = []
early_checks preview b = []

-- the refusals of each call that follow 1 and 10, in order: 2, 3, 4, 5, 13, then 11 or 12; 19, 20, 21; the others alone
abbrev pub call_checks : Call → Queues → Hierarchy → List Check
-- 12: "load: 8 are listed"
call_checks (load a w) q b = access_checks b a w ++ (number_check q ∷ check 12 (not (any is_free_load q.loads)) ∷ [])
-- 11: "store: 16 are held"
call_checks (store a w v) q b =
    access_checks b a w ++ (value_check w v ∷ number_check q ∷ check 11 (not (any is_free_store q.stores)) ∷ [])
-- 14: "inquiry: no waiting load of that number"
call_checks (retry i) q b = check 14 (not (any (waiting_at i) q.loads)) ∷ []
-- 15: "commit: k is below h or above last"
call_checks (commit k) q b = check 15 (ltb k q.committed || ltb q.last k) ∷ []
-- 16: "abort: n is at most h or above last + 1"
call_checks (abort n) q b = check 16 (leb n q.committed || ltb (q.last + 1) n) ∷ []
call_checks idle q b = []
call_checks reply q b = request_check q ∷ []
-- 18: "flush: a committed store is held"
call_checks flush q b = check 18 (any (committed_store q.committed) q.stores) ∷ []
call_checks (show a) q b = []
-- 02, card 3. 19: "name outside 1 to 8"; 20: "set, name in use"; 21: "return, name not in use, or set when last is 4294967295"
call_checks (checkpoint x) q b =
    check 19 (not (name_allowed x)) ∷ check 20 (in_use x q.checkpoints) ∷ check 21 (eqb q.last top_number) ∷ []
call_checks (restore x) q b = check 19 (not (name_allowed x)) ∷ check 21 (not (in_use x q.checkpoints)) ∷ []
-- 02, card 7: "refusals are the same" as a reply's
call_checks preview q b = request_check q ∷ []

-- ---- store

-- the next operation number
abbrev pub next_number : Queues → ℕ
next_number q = q.last + 1

-- "Store takes last + 1 as its number and joins the held stores, uncommitted."
unfoldable pub store_rule : ℕ → ℕ → ℕ → Queues → Hierarchy → Outcome
store_rule a w v q b = record {
  answer = stored (next_number q);
  queues = record {
    last = next_number q;
    committed = q.committed;
    request = q.request;
    stores = placed is_free_store (record { number = next_number q; address = a; width = w; value = v }) q.stores;
    loads = q.loads;
    checkpoints = q.checkpoints;
  };
  hierarchy = b;
}

-- ---- load

abbrev pub is_none : Option ℕ → Bool
is_none none = true
is_none (some v) = false

-- 02, card 4: "'waits' becomes 'waits-requested' when the lookup says requested, .. and stays 'waits' otherwise". (A load whose line is
-- present lacks no byte, so that it does not wait.)
abbrev pub wait_answer : ℕ → Lookup → Answer
wait_answer i (Hit w) = waits i
wait_answer i Pending = waits_requested i
wait_answer i Miss = waits i

-- "If some byte has neither, the answer is 'waits'.", in the word for what the lookup of its line says
abbrev pub load_answer : ℕ → Lookup → Option ℕ → Answer
load_answer i f none = wait_answer i f
load_answer i f (some v) = value i v

-- "Load takes last + 1 and joins the loads. .. A load call never makes a request and never changes an age." 02, card 6: "The load list must
-- record how the answer was found". (A load that waits has a byte that no held store covers.)
unfoldable pub load_rule : ℕ → ℕ → Queues → Hierarchy → Outcome
load_rule a w q b =
    let v = load_value (next_number q) a w q.stores b in
    record {
      answer = load_answer (next_number q) (lookup q.request b (line_of a)) v;
      queues = record {
        last = next_number q;
        committed = q.committed;
        request = q.request;
        stores = q.stores;
        loads =
            placed is_free_load
            (record {
              number = next_number q;
              address = a;
              width = w;
              waiting = is_none v;
              forwarded = all_forwarded (next_number q) q.stores a w;
            })
            q.loads;
        checkpoints = q.checkpoints;
      };
      hierarchy = b;
    }

-- ---- inquiry

abbrev pub with_loads : List LoadEntry → Queues → Queues
with_loads ls q =
    record { last = q.last; committed = q.committed; request = q.request; stores = q.stores; loads = ls; checkpoints = q.checkpoints }

-- the load, marked answered. (It waited, so it is not forwarded: the byte that no older held store covers comes from its line.)
abbrev pub answered : LoadEntry → LoadEntry
answered l = record { number = l.number; address = l.address; width = l.width; waiting = false; forwarded = l.forwarded }

-- "Once answered, a committed load leaves the list and uses its line if present; an uncommitted one is marked answered."
unfoldable pub answer_load : ℕ → ℕ → LoadEntry → Queues → Hierarchy → Outcome
answer_load i v l q b =
    cond (leb i q.committed)
    (record {
      answer = value i v;
      queues = with_loads (without (waiting_at i) no_load q.loads) q;
      hierarchy = use_line (line_of l.address) b;
    })
    (record { answer = value i v; queues = with_loads (changed (waiting_at i) answered q.loads) q; hierarchy = b })

-- the listed load l of number i, tried again, reads v
unfoldable pub retry_with : ℕ → LoadEntry → Option ℕ → Queues → Hierarchy → Outcome
retry_with i l none q b = unchanged (wait_answer i (lookup q.request b (line_of l.address))) q b
retry_with i l (some v) q b = answer_load i v l q b

-- "Inquiry about number i tries a waiting load again by the same rule."
unfoldable pub retry_rule : ℕ → Queues → Hierarchy → Outcome
retry_rule i q b =
    let l = first (waiting_at i) no_load q.loads in
    retry_with i l (load_value i l.address l.width q.stores b) q b

-- ---- commit

-- an answered load numbered k or less
unfoldable pub answered_by : ℕ → LoadEntry → Bool
answered_by k l = not (is_free_load l) && (leb l.number k && not l.waiting)

-- one that uses its line. 02, card 6: a load whose bytes all came from held stores "no longer uses its line at commit, even if those stores
-- have drained since. The load list must record how the answer was found, and the age rules read accordingly. All other loads use lines as
-- 01 says."
unfoldable pub uses_line_by : ℕ → LoadEntry → Bool
uses_line_by k l = answered_by k l && not l.forwarded

-- each load of the list, in order, uses its line if the line is present
unfoldable pub use_each : List LoadEntry → Hierarchy → Hierarchy
use_each [] b = b
use_each (l ∷ ls) b = use_each ls (use_line (line_of l.address) b)

-- "Commit k sets h to k. Answered loads numbered k or less leave the list in number order, each using its line if the line is present.": but
-- a forwarded one leaves without using it
unfoldable pub commit_rule : ℕ → Queues → Hierarchy → Outcome
commit_rule k q b = record {
  answer = committed k;
  queues = record {
    last = q.last;
    committed = k;
    request = q.request;
    stores = q.stores;
    loads = without (answered_by k) no_load q.loads;
    checkpoints = forget_up_to k q.checkpoints;
  };
  hierarchy = use_each (filter (uses_line_by k) q.loads) b;
}

-- ---- abort

-- a store, a load numbered n or more
abbrev pub young_store : ℕ → StoreEntry → Bool
young_store n s = leb n s.number

abbrev pub young_load : ℕ → LoadEntry → Bool
young_load n l = leb n l.number

-- "removes every store and load numbered n or more and sets last to n − 1": numbers rise along a queue, so what is removed is its end
-- (an abort and a return differ in the marks that they forget)
unfoldable pub squash : (List Checkpoint → List Checkpoint) → ℕ → Queues → Queues
squash forget n q = record {
  last = n - 1;
  committed = q.committed;
  request = q.request;
  stores = changed (young_store n) (λ s. no_store) q.stores;
  loads = changed (young_load n) (λ l. no_load) q.loads;
  checkpoints = forget q.checkpoints;
}

unfoldable pub abort_rule : ℕ → Queues → Hierarchy → Outcome
abort_rule n q b = record { answer = kept (n - 1); queues = squash (forget_above n) n q; hierarchy = b }

-- ---- set a mark, and return to it

-- 02, card 3: it "remembers the next operation number"; "Setting answers that number"
unfoldable pub checkpoint_rule : ℕ → Queues → Hierarchy → Outcome
checkpoint_rule x q b = record {
  answer = checkpointed (next_number q);
  queues = record {
    last = q.last;
    committed = q.committed;
    request = q.request;
    stores = q.stores;
    loads = q.loads;
    checkpoints = add_checkpoint x (next_number q) q.checkpoints;
  };
  hierarchy = b;
}

-- "Returning to it does what an abort at that number does, and forgets that mark and all set later."
unfoldable pub restore_rule : ℕ → Queues → Hierarchy → Outcome
restore_rule x q b =
    let n = number_of x q.checkpoints in record { answer = kept (n - 1); queues = squash (forget_from x) n q; hierarchy = b }

-- ---- idle

abbrev pub with_request : Request → Queues → Queues
with_request r q =
    record { last = q.last; committed = q.committed; request = r; stores = q.stores; loads = q.loads; checkpoints = q.checkpoints }

-- the oldest held store; the free entry where none is held
abbrev pub oldest_store : Queues → StoreEntry
oldest_store q = get_or q.stores 0 no_store

-- a waiting load numbered below i
unfoldable pub waits_below : ℕ → LoadEntry → Bool
waits_below i l = not (is_free_load l) && (ltb l.number i && l.waiting)

-- "The oldest held store is committed, no waiting load has a smaller number"
unfoldable pub store_ready : Queues → Bool
store_ready q =
    committed_store q.committed (oldest_store q) && not (any (waits_below (oldest_store q).number) q.loads)

-- (a) ".. and its line is present". 02, card 1: with write-through "Draining .. needs no line present"
abbrev pub can_drain : Queues → Hierarchy → Bool
can_drain q b = store_ready q && (writes_through b || present b (line_of (oldest_store q).address))

-- "write it, mark the line dirty, use the line, remove the store"; 02, card 2: it "marks the word written" (`write_store` has
-- both, for either policy)
abbrev pub drain_oldest : Queues → Hierarchy → Outcome
drain_oldest q b = record {
  answer = drained (oldest_store q).number;
  queues = record {
    last = q.last;
    committed = q.committed;
    request = q.request;
    stores = shifted no_store q.stores;
    loads = q.loads;
    checkpoints = q.checkpoints;
  };
  hierarchy = write_store (oldest_store q) b;
}

-- a committed waiting load whose line is absent
unfoldable pub wants_line : Hierarchy → ℕ → LoadEntry → Bool
wants_line b h l = not (is_free_load l) && (leb l.number h && (l.waiting && not (present b (line_of l.address))))

-- (b) "The register is free and some committed waiting load's line is absent"
abbrev pub can_request_load : Queues → Hierarchy → Bool
can_request_load q b = is_free q.request && any (wants_line b q.committed) q.loads

-- "request the line of the lowest such number"
abbrev pub lowest_wanting : Queues → Hierarchy → LoadEntry
lowest_wanting q b = first (wants_line b q.committed) no_load q.loads

-- "the oldest store is committed, no waiting load is older and its line is absent". 02, card 1: with write-through "Rule (c) of idle
-- disappears". (No store would meet it there: where (c) would apply, (a) does.)
abbrev pub store_needs_line : Queues → Hierarchy → Bool
store_needs_line q b = not (writes_through b) && (store_ready q && not (present b (line_of (oldest_store q).address)))

-- (c) "The register is free, .."
abbrev pub can_request_store : Queues → Hierarchy → Bool
can_request_store q b = is_free q.request && store_needs_line q b

-- the line of this address is requested
abbrev pub request_line : ℕ → Queues → Hierarchy → Outcome
request_line a q b =
    record { answer = requested (line_of a * line_bytes); queues = with_request (Line (line_of a)) q; hierarchy = b }

-- "Idle does the first that applies." (d) "Nothing."
unfoldable pub idle_rule : Queues → Hierarchy → Outcome
idle_rule q b =
    cond (can_drain q b) (drain_oldest q b)
    (cond (can_request_load q b) (request_line (lowest_wanting q b).address q b)
    (cond (can_request_store q b) (request_line (oldest_store q).address q b)
    (unchanged idled q b)))

-- ---- reply

-- the requested line is filled, "and the register is free"
unfoldable pub reply_rule : Queues → Hierarchy → Outcome
reply_rule q b = record {
  answer = filled (requested_line q.request * line_bytes);
  queues = with_request Free q;
  hierarchy = fill_line (requested_line q.request) b;
}

-- ---- preview of a reply

-- 02, card 7: what a reply to the request will do; "the originals stay unchanged"
unfoldable pub preview_rule : Queues → Hierarchy → Outcome
preview_rule q b = unchanged (previewed (preview_of b (requested_line q.request))) q b

-- ---- flush

-- "Flush writes every dirty line to memory, marks it clean .. Ages stay." 02, card 2: "Eviction and flush write
-- marked words only, and flush answers the count of words."
unfoldable pub flush_rule : Queues → Hierarchy → Outcome
flush_rule q b = record { answer = flushed (dirty_words b); queues = q; hierarchy = write_back_all b }

-- ---- show line

-- the empty part of the cache: what show line gives in place of a refusal
abbrev pub empty_part : Answer
empty_part = shown 0 []

-- "Show line gives the present line's bytes as a part of the lent cache. It gives an empty part when the line is absent,
-- the address is outside memory, .."
unfoldable pub show_rule : ℕ → Queues → Hierarchy → Outcome
show_rule a q b =
    unchanged
    (cond (ltb a b.size && present b (line_of a))
    (shown (place_of b a) (take line_bytes (drop (place_of b a) b.cache))) empty_part)
    q b

-- ---- all of them

-- what an accepted call does
abbrev pub rule : Call → Queues → Hierarchy → Outcome
rule (load a w) q b = load_rule a w q b
rule (store a w v) q b = store_rule a w v q b
rule (retry i) q b = retry_rule i q b
rule (commit k) q b = commit_rule k q b
rule (abort n) q b = abort_rule n q b
rule idle q b = idle_rule q b
rule reply q b = reply_rule q b
rule flush q b = flush_rule q b
rule (show a) q b = show_rule a q b
rule (checkpoint x) q b = checkpoint_rule x q b
rule (restore x) q b = restore_rule x q b
rule preview q b = preview_rule q b

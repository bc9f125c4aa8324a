-- Demand 2: each value that a call of a run answers is what flat memory holds; and flat memory after a run.
use Prim.Native.Nat.{ℕ}
use mathlib.Core.Path.{◌≡◌, refl, sym, ◌∙◌, ap, ap₂, subst}
use mathlib.Core.Bool.{Bool, true, false, cond, not, ◌&&◌, true≢false, false≢true}
use mathlib.Core.List.{List, ◌++◌}
use native.Mathlib.Omega.{arith}
use lib.Dec.{ltb, eqb}
use borrow.Author.Tests.{eqb-true, eq-eqb}
use Rattle.lists.specs.Padded.{every, first, filter}
use Rattle.lists.specs.Counted.{some_from}
use Rattle.lists.specs.Bytes.{value_at}
use Rattle.lists.proofs.Cond.{either, and_left, and_right, or-then}
use Rattle.lists.proofs.Every.{every_first}
use Rattle.lists.proofs.Selected.{filter-append, filter-all, filter-filter}
use Rattle.rules.specs.declared.Figures.{Figures}
use Rattle.rules.specs.declared.StoreEntry.{StoreEntry}
use Rattle.rules.specs.declared.LoadEntry.{LoadEntry}
use Rattle.rules.specs.declared.Lookup.{Lookup}
use Rattle.rules.specs.Shape.{Queues, Hierarchy, World, world, no_load, is_free_load, line_of}
use Rattle.rules.specs.Lines.{present, lookup}
use Rattle.rules.specs.Forward.{lacking}
use Rattle.rules.specs.Calls.{Call, Answer, Outcome, load, store, retry, commit, abort, idle, reply, flush, show, checkpoint, restore, preview, refused, stored, value, waits, waits_requested, committed, kept, drained, requested, idled, filled, flushed, shown, checkpointed, previewed, is_accepted, passes, call_checks, waiting_at, next_number, wait_answer, store_rule, commit_rule, abort_rule, checkpoint_rule, restore_rule, can_drain, can_request_load, can_request_store, idle_rule, reply_rule, flush_rule, show_rule, rule, preview_rule}
use Rattle.rules.specs.WellFormed.{well_formed}
use Rattle.rules.specs.Runs.{refusal, answer, after, start_world}
use Rattle.rules.specs.Flat.{History, no_history, below, added, noted, history_of, load_of, flat_of, applied_all, held_store, flat_before}
use Rattle.rules.specs.Values.{history_at, Claim, AfterStart, FromState, RightValue, ValuesRight, InquiryAbout, InquiriesRight, FlatAfter}
use Rattle.rules.proofs.Checks.{refusal-by, outcome-by, either-word}
use Rattle.rules.proofs.QueueView.{parts}
use Rattle.rules.proofs.Entries.{Waits, tried, tried-waits}
use Rattle.rules.proofs.Kept.{start-leaves}
use Rattle.rules.proofs.Stored.{all_append, older_held, flat_older}
use Rattle.rules.proofs.Waits.{answer_from, load-rule-answers, retry-rule-answers}
use Rattle.rules.proofs.FlatCalls.{clear}
use Rattle.rules.proofs.History.{same_load, remembered, Traced, up-below, TracedAt, run-traced, history-snoc, start-traced, state-traced}

-- ---- what the invariant says of flat memory

module _ (found : List ℕ) (h : History) (q : Queues) (b : Hierarchy) (k : Traced found h q b) where
  -- at operation i, if every drained store is older: flat memory of the state, with the older held stores applied
  flat-before : (i : ℕ) → every (below i) k.gone ≡ true → flat_before i h found ≡ flat_older i q.stores b
  flat-before i older =
      ap (λ (ss : List StoreEntry). applied_all (filter (below i) ss) found) k.parted
      ∙ ap (λ (ss : List StoreEntry). applied_all ss found)
      (filter-append (below i) k.gone (filter held_store q.stores)
      ∙ ap₂ (λ (ss ts : List StoreEntry). ss ++ ts) (filter-all (below i) k.gone older)
      (filter-filter held_store (below i) (older_held i) (λ s. refl) q.stores))
      ∙ all_append k.gone (filter (older_held i) q.stores) found
      ∙ ap (applied_all (filter (older_held i) q.stores)) (sym k.flat)

  -- with the held stores on top: what was found with every store applied
  pub flat-whole : applied_all (filter held_store q.stores) (flat_of b) ≡ applied_all h.stores found
  flat-whole =
      ap (applied_all (filter held_store q.stores)) k.flat
      ∙ sym (all_append k.gone (filter held_store q.stores) found)
      ∙ ap (λ (ss : List StoreEntry). applied_all ss found) (sym k.parted)

-- ---- the value that a call answers

-- the answer is a value
abbrev reads : Answer → Bool
reads (refused k) = false
reads (stored i) = false
reads (value i v) = true
reads (waits i) = false
reads (waits_requested i) = false
reads (committed k) = false
reads (kept k) = false
reads (drained i) = false
reads (requested a) = false
reads idled = false
reads (filled a) = false
reads (flushed k) = false
reads (shown p bs) = false
reads (checkpointed n) = false
reads (previewed p) = false

refusal-reads : (c : Call) (k : ℕ) → reads (refusal c k) ≡ false
refusal-reads = refusal-by (λ c r. reads r ≡ false) (λ c k. refl) (λ a. refl)

-- a value, where a load waits or answers a value
value-is : (m : List ℕ) (j : ℕ) (f : Lookup) (ss : List StoreEntry) (b : Hierarchy) (a n i v : ℕ) → answer_from m j f ss b a n ≡ value i v → (j ≡ i) × (v ≡ value_at m a n)
value-is m j f ss b a n i v = go (some_from (lacking j ss b) a n)
  where
    go : (t : Bool) → cond t (wait_answer j f) (value j (value_at m a n)) ≡ value i v → (j ≡ i) × (v ≡ value_at m a n)
    go true e = absurd (false≢true (sym (either-word (λ r. reads r ≡ false) j refl refl f) ∙ ap reads e))
    go false e = (cc, cc)

module _ (found : List ℕ) (h : History) (q : Queues) (b : Hierarchy) (k : Traced found h q b) (wf : well_formed q b ≡ true) where
  -- of the answer r to the call c
  abbrev Right : Call → Answer → Type 0
  Right c r = (i v : ℕ) → r ≡ value i v → RightValue found (noted c (value i v) h) c i v

  no_value : (c : Call) (r : Answer) → reads r ≡ false → Right c r
  no_value c r e i v f = absurd (true≢false (sym (ap reads f) ∙ e))

  load-right : (a n : ℕ) → passes (call_checks (load a n) q b) ≡ true → Right (load a n) (rule (load a n) q b).answer
  unfolding noted added first
  load-right a n e i v f =
      let older : every (below (next_number q)) k.gone ≡ true = up-below q.committed (next_number q) (omega (arith, (parts q b wf).order)) k.gone k.settled in
      let x = value-is (flat_older (next_number q) q.stores b) (next_number q) (lookup q.request b (line_of a)) q.stores b a n i v (sym (load-rule-answers q b wf a n e) ∙ f) in
      subst (λ (j : ℕ). RightValue found (noted (load a n) (value j v) h) (load a n) j v) x.0
      (record {
        numbered = rw (eq-eqb (next_number q) (next_number q) refl);
        asked = rw (eq-eqb (next_number q) (next_number q) refl) (refl, refl);
        holds =
            rw (eq-eqb (next_number q) (next_number q) refl)
            (x.1 ∙ ap (λ (m : List ℕ). value_at m a n) (sym (flat-before found h q b k (next_number q) older)));
        ordered = k.ordered;
      })

  -- the load that an inquiry is about, and the history's
  module _ (j : ℕ) (e : passes (call_checks (retry j) q b) ≡ true) where
    abbrev asked-load : LoadEntry
    asked-load = tried j q

    waiting : Waits j asked-load
    waiting = tried-waits j q b e

    tried-older : every (below j) k.gone ≡ true
    tried-older =
        let c : clear k.gone asked-load ≡ true = every_first (clear k.gone) (waiting_at j) no_load q.loads refl k.ahead in
        subst (λ (i : ℕ). every (below i) k.gone ≡ true) waiting.numbered (or-then (not asked-load.waiting) _ c (ap not waiting.waits))

    tried_same : same_load (load_of j h) asked-load ≡ true
    tried_same =
        let r : remembered h asked-load ≡ true = every_first (remembered h) (waiting_at j) no_load q.loads refl k.listed in
        subst (λ (i : ℕ). same_load (load_of i h) asked-load ≡ true) waiting.numbered (or-then (is_free_load asked-load) _ r waiting.held)

    tried-number : (load_of j h).number ≡ asked-load.number
    tried-number = eqb-true _ _ (and_left _ _ tried_same)

    tried-place : ((load_of j h).address ≡ asked-load.address) × ((load_of j h).width ≡ asked-load.width)
    tried-place =
        let s = and_right (eqb (load_of j h).number asked-load.number) _ tried_same in
        (eqb-true _ _ (and_left _ _ s), eqb-true _ _ (and_right (eqb (load_of j h).address asked-load.address) _ s))

    pub inquiry-about : InquiryAbout h j (world q b)
    inquiry-about =
        record { numbered = tried-number ∙ waiting.numbered; address_is = sym tried-place.0; width_is = sym tried-place.1 }

    retry-right : Right (retry j) (rule (retry j) q b).answer
    unfolding noted added
    retry-right i v f =
        let x = value-is (flat_older j q.stores b) j (lookup q.request b (line_of asked-load.address)) q.stores b asked-load.address asked-load.width i v (sym (retry-rule-answers q b wf j e) ∙ f) in
        subst (λ (n : ℕ). RightValue found h (retry j) n v) x.0
        (record {
          numbered = tried-number ∙ waiting.numbered;
          asked = refl;
          holds =
              rw (tried-place.0, tried-place.1)
              (x.1 ∙ ap (λ (m : List ℕ). value_at m asked-load.address asked-load.width) (sym (flat-before found h q b k j tried-older)));
          ordered = k.ordered;
        })

  rule-right : (c : Call) → passes (call_checks c q b) ≡ true → Right c (rule c q b).answer
  unfolding store_rule commit_rule abort_rule checkpoint_rule restore_rule idle_rule reply_rule flush_rule show_rule preview_rule
  rule-right (load a n) e = load-right a n e
  rule-right (store a n v) e = no_value (store a n v) _ refl
  rule-right (retry j) e = retry-right j e
  rule-right (commit j) e = no_value (commit j) _ refl
  rule-right (abort n) e = no_value (abort n) _ refl
  rule-right idle e =
      either (λ (o : Outcome). Right idle o.answer) (can_drain q b) (λ t. no_value idle _ refl)
      (λ t. either (λ (o : Outcome). Right idle o.answer) (can_request_load q b) (λ t. no_value idle _ refl)
      (λ t. either (λ (o : Outcome). Right idle o.answer) (can_request_store q b) (λ t. no_value idle _ refl) (λ t. no_value idle _ refl)))
  rule-right reply e = no_value reply _ refl
  rule-right flush e = no_value flush _ refl
  rule-right (show a) e =
      either (Right (show a)) (ltb a b.size && present b (line_of a)) (λ t. no_value (show a) _ refl) (λ t. no_value (show a) _ refl)
  rule-right (checkpoint x) e = no_value (checkpoint x) _ refl
  rule-right (restore x) e = no_value (restore x) _ refl
  rule-right preview e = no_value preview _ refl

-- ---- runs

module _ (found : List ℕ) (h : History) (w : World) (k : TracedAt found h w) where
  at : (before : List Call) → TracedAt found (history_of h before w) (after before w)
  at before = run-traced found before h w k

  values-run : (run : List Call) → ValuesRight found h w run
  unfolding answer
  values-run run before c later s i v e =
      rw (history-snoc before c h w, e)
      (outcome-by c (after before w).queues (after before w).hierarchy
      (λ o. (i v : ℕ) → o.answer ≡ value i v → RightValue found (noted c (value i v) (history_of h before w)) c i v)
      (λ n i v f. absurd (true≢false (sym (ap reads f) ∙ refusal-reads c n)))
      (λ fit wf p. rule-right found (history_of h before w) (after before w).queues (after before w).hierarchy (at before) wf c p)
      i v e)

  inquiries-run : (run : List Call) → InquiriesRight found h w run
  unfolding answer
  inquiries-run run before c later s i is-retry =
      rw is-retry
      (outcome-by (retry i) (after before w).queues (after before w).hierarchy
      (λ o. is_accepted o.answer ≡ true → InquiryAbout (history_of h before w) i (after before w)) (λ n e. absurd (false≢true e))
      (λ fit wf p e. inquiry-about found (history_of h before w) (after before w).queues (after before w).hierarchy (at before) wf i p))

  flat-run : (run : List Call) → FlatAfter found h w run
  flat-run run = flat-whole found (history_of h run w) (after run w).queues (after run w).hierarchy (at run)

-- a claim of every run from where the invariant holds
pub after-start :
    (claim : Claim) → ((found : List ℕ) (h : History) (w : World) → TracedAt found h w → (run : List Call) → claim found h w run)
    → (f : Figures) (cache memory : List ℕ) → AfterStart claim f cache memory
after-start claim holds f cache memory e run =
    holds memory no_history (start_world f cache memory) (rw (start-leaves f cache memory e) (start-traced f memory)) run

pub from-state :
    (claim : Claim) → ((found : List ℕ) (h : History) (w : World) → TracedAt found h w → (run : List Call) → claim found h w run)
    → (w : World) → FromState claim w
from-state claim holds w f run = holds (flat_of w.hierarchy) (history_at w) w (state-traced w f) run

pub values-after-start : (f : Figures) (cache memory : List ℕ) → AfterStart ValuesRight f cache memory
values-after-start = after-start ValuesRight values-run

pub values-from-state : (w : World) → FromState ValuesRight w
values-from-state = from-state ValuesRight values-run

pub inquiries-after-start : (f : Figures) (cache memory : List ℕ) → AfterStart InquiriesRight f cache memory
inquiries-after-start = after-start InquiriesRight inquiries-run

pub inquiries-from-state : (w : World) → FromState InquiriesRight w
inquiries-from-state = from-state InquiriesRight inquiries-run

pub flat-after-start : (f : Figures) (cache memory : List ℕ) → AfterStart FlatAfter f cache memory
flat-after-start = after-start FlatAfter flat-run

pub flat-from-state : (w : World) → FromState FlatAfter w
flat-from-state = from-state FlatAfter flat-run

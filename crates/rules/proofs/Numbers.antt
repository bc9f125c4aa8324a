-- The next operation number, after a start and after each accepted call.
use Prim.Native.Nat.{ℕ, ◌+◌, ◌<◌}
use mathlib.Core.Path.{◌≡◌, refl}
use mathlib.Core.Bool.{true, ◌||◌, false≢true}
use mathlib.Core.List.{List}
use mathlib.Core.Option.{Option, some, none}
use native.Mathlib.Omega.{arith}
use lib.Dec.{ltb, leb}
use borrow.Author.Tests.{leb-false, not-true}
use Rattle.lists.specs.Padded.{every, first}
use Rattle.lists.proofs.Cond.{either, and_left, or_left}
use Rattle.rules.specs.declared.Figures.{Figures}
use Rattle.rules.specs.declared.LoadEntry.{LoadEntry}
use Rattle.rules.specs.Shape.{Queues, Hierarchy, World, no_load}
use Rattle.rules.specs.Forward.{load_value}
use Rattle.rules.specs.Calls.{Call, Outcome, load, store, retry, commit, abort, idle, reply, flush, show, checkpoint, restore, preview, is_accepted, passes, call_checks, rule, next_number, waiting_at, load_rule, store_rule, answer_load, retry_with, retry_rule, commit_rule, squash, abort_rule, checkpoint_rule, restore_rule, can_drain, can_request_load, can_request_store, idle_rule, reply_rule, flush_rule, show_rule, preview_rule}
use Rattle.rules.specs.Runs.{started, unstarted, start_allowed, start_world, refusal, answer, next}
use Rattle.rules.specs.Numbers.{number_after, FirstNumber, NextNumber}
use Rattle.rules.proofs.Checks.{refusal-by, outcome-by}

pub first-number : (f : Figures) (cache memory : List ℕ) → FirstNumber f cache memory
unfolding start_world started unstarted
first-number f cache memory =
    either (λ (w : World). next_number w.queues ≡ 1) (start_allowed f cache memory) (λ e. refl) (λ e. refl)

module _ (q : Queues) (b : Hierarchy) where
  abbrev Same : Outcome → Type 0
  Same o = next_number o.queues ≡ next_number q

  retry-same : (i : ℕ) (l : LoadEntry) (v : Option ℕ) → Same (retry_with i l v q b)
  unfolding retry_with answer_load
  retry-same i l none = refl
  retry-same i l (some v) = either Same (leb i q.committed) (λ e. refl) (λ e. refl)

  pub rule-number : (c : Call) → passes (call_checks c q b) ≡ true → next_number (rule c q b).queues ≡ number_after c (rule c q b).answer (next_number q)
  unfolding load_rule store_rule retry_rule commit_rule abort_rule squash checkpoint_rule restore_rule idle_rule reply_rule flush_rule show_rule preview_rule every
  rule-number (load a w) p = refl
  rule-number (store a w v) p = refl
  rule-number (retry i) p =
      let l : LoadEntry = first (waiting_at i) no_load q.loads in
      retry-same i l (load_value i l.address l.width q.stores b)
  rule-number (commit k) p = refl
  rule-number (abort n) p =
      let t = not-true (leb n q.committed || ltb (q.last + 1) n) (and_left _ true p) in
      let above : q.committed < n = leb-false n q.committed (or_left _ _ t) in
      omega arith
  rule-number idle p =
      either Same (can_drain q b) (λ e. refl)
      (λ e. either Same (can_request_load q b) (λ e. refl)
      (λ e. either Same (can_request_store q b) (λ e. refl) (λ e. refl)))
  rule-number reply p = refl
  rule-number flush p = refl
  rule-number (show a) p = refl
  rule-number (checkpoint x) p = refl
  rule-number (restore x) p = refl
  rule-number preview p = refl

-- the empty part is no refusal, and changes no number
refusal-number : (c : Call) (k : ℕ) (q : Queues) → is_accepted (refusal c k) ≡ true → next_number q ≡ number_after c (refusal c k) (next_number q)
refusal-number c k q = refusal-by (λ c r. is_accepted r ≡ true → next_number q ≡ number_after c r (next_number q)) (λ c k e. absurd (false≢true e)) (λ a e. refl) c k

pub next-number : (c : Call) (w : World) → NextNumber c w
unfolding answer next
next-number c w =
    outcome-by c w.queues w.hierarchy
    (λ o. is_accepted o.answer ≡ true → next_number o.queues ≡ number_after c o.answer (next_number w.queues))
    (λ k e. refusal-number c k w.queues e) (λ fit wf p e. rule-number w.queues w.hierarchy c p)

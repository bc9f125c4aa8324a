-- What the checks and the rules see of queues from which the entries numbered n or more were squashed, and some checkpoints forgotten
-- (`forget`; no rule but a commit looks at them): a call that remains in a dropped stretch answers alike and leaves the squashed queues of what it would have left.
use Prim.Native.Nat.{ℕ, ◌+◌, ◌-◌, ◌≤◌, ◌<◌}
use mathlib.Core.Path.{◌≡◌, refl, ◌∙◌, ap, fun_ext}
use mathlib.Core.Bool.{Bool, true, false, not, ◌&&◌, ◌||◌}
use mathlib.Core.List.{List}
use mathlib.Core.Option.{Option, some, none}
use native.Mathlib.Omega.{arith}
use lib.Dec.{ltb, leb}
use borrow.Author.Tests.{ltb-true, leb-true, leb-false, eqb-true, lt-ltb, le-ltb, le-leb, lt-leb}
use Rattle.lists.specs.Padded.{any, first}
use Rattle.lists.specs.Bytes.{gather}
use Rattle.lists.proofs.Cond.{both, cases, and_left, and_right}
use Rattle.lists.proofs.Sweep.{Untouched, sweep-any, sweep-first, sweep-final, sweep-filter, sweep-without, sweep-changed, sweep-shifted, sweep-head, stays, agrees}
use Rattle.rules.specs.declared.LoadEntry.{LoadEntry}
use Rattle.rules.specs.Shape.{Queues, Hierarchy, no_store, no_load, is_free_store, is_free_load, is_free, writes_through}
use Rattle.rules.specs.Forward.{older_covers, load_byte, load_value}
use Rattle.rules.specs.Calls.{Outcome, committed_store, waiting_at, answered_by, uses_line_by, waits_below, wants_line, young_store, young_load, squash, answered, answer_load, retry_with, retry_rule, commit_rule, oldest_store, store_ready, can_drain, store_needs_line, can_request_store, idle_rule, reply_rule, flush_rule, show_rule, preview_rule}
use Rattle.rules.specs.declared.Checkpoint.{Checkpoint}
use Rattle.rules.specs.Checkpoints.{forget_up_to}

-- the outcome with its queues squashed
abbrev pub squashed_outcome : (List Checkpoint → List Checkpoint) → ℕ → Outcome → Outcome
squashed_outcome forget n o = record { answer = o.answer; queues = squash forget n o.queues; hierarchy = o.hierarchy }

-- ---- the tests of the rules pass entries numbered below n only

module _ (n : ℕ) where
  pub committed-untouched : (h : ℕ) → h < n → Untouched (young_store n) no_store (committed_store h)
  unfolding committed_store
  committed-untouched h k = record {
    hollow = refl;
    apart = λ s e. lt-leb n s.number (omega (arith, leb-true s.number h (and_right (not (is_free_store s)) _ e)));
  }

  pub covers-untouched : (i a : ℕ) → i ≤ n → Untouched (young_store n) no_store (older_covers i a)
  unfolding older_covers
  covers-untouched i a k = record {
    hollow = refl;
    apart = λ s e. lt-leb n s.number (omega (arith, ltb-true s.number i (and_left _ _ (and_right (not (is_free_store s)) _ e))));
  }

  pub below-untouched : (i : ℕ) → i ≤ n → Untouched (young_load n) no_load (waits_below i)
  unfolding waits_below
  below-untouched i k = record {
    hollow = refl;
    apart = λ l e. lt-leb n l.number (omega (arith, ltb-true l.number i (and_left _ _ (and_right (not (is_free_load l)) _ e))));
  }

  pub answered-untouched : (k : ℕ) → k < n → Untouched (young_load n) no_load (answered_by k)
  unfolding answered_by
  answered-untouched k h = record {
    hollow = refl;
    apart = λ l e. lt-leb n l.number (omega (arith, leb-true l.number k (and_left _ _ (and_right (not (is_free_load l)) _ e))));
  }

  pub uses-untouched : (k : ℕ) → k < n → Untouched (young_load n) no_load (uses_line_by k)
  unfolding uses_line_by answered_by
  uses-untouched k h = record {
    hollow = refl;
    apart = λ l e. (answered-untouched k h).apart l (and_left _ _ e);
  }

  pub waiting-untouched : (i : ℕ) → i < n → Untouched (young_load n) no_load (waiting_at i)
  unfolding waiting_at
  waiting-untouched i k = record {
    hollow = refl;
    apart = λ l e. lt-leb n l.number (omega (arith, eqb-true l.number i (and_left _ _ (and_right (not (is_free_load l)) _ e))));
  }

  pub wants-untouched : (b : Hierarchy) (h : ℕ) → h < n → Untouched (young_load n) no_load (wants_line b h)
  unfolding wants_line
  wants-untouched b h k = record {
    hollow = refl;
    apart = λ l e. lt-leb n l.number (omega (arith, leb-true l.number h (and_left _ _ (and_right (not (is_free_load l)) _ e))));
  }

-- ---- each rule and its checks, on the squashed queues

module _ (forget : List Checkpoint → List Checkpoint) (n : ℕ) (q : Queues) (b : Hierarchy) (behind : q.committed < n) where
  pub n-positive : leb n 0 ≡ false
  n-positive = lt-leb n 0 (omega arith)

  -- ---- flush, reply, show line

  pub flush-check : any (committed_store q.committed) (squash forget n q).stores ≡ any (committed_store q.committed) q.stores
  unfolding squash
  flush-check = sweep-any (committed-untouched n q.committed behind) q.stores

  pub flush-squash : flush_rule (squash forget n q) b ≡ squashed_outcome forget n (flush_rule q b)
  unfolding flush_rule
  flush-squash = refl

  pub reply-squash : reply_rule (squash forget n q) b ≡ squashed_outcome forget n (reply_rule q b)
  unfolding reply_rule squash
  reply-squash = refl

  pub show-squash : (a : ℕ) → show_rule a (squash forget n q) b ≡ squashed_outcome forget n (show_rule a q b)
  unfolding show_rule
  show-squash a = refl

  -- a preview looks at the register and the lines alone
  pub preview-squash : preview_rule (squash forget n q) b ≡ squashed_outcome forget n (preview_rule q b)
  unfolding preview_rule squash
  preview-squash = refl

  -- ---- inquiry

  byte-squash : (i a : ℕ) → i ≤ n → load_byte i (squash forget n q).stores b a ≡ load_byte i q.stores b a
  unfolding squash load_byte
  byte-squash i a k =
      rw (sweep-any (covers-untouched n i a k) q.stores, sweep-final (covers-untouched n i a k) no_store q.stores)

  value-squash : (i a w : ℕ) → i ≤ n → load_value i a w (squash forget n q).stores b ≡ load_value i a w q.stores b
  unfolding load_value
  value-squash i a w k = ap (λ (f : ℕ → Option ℕ). gather f a w) (fun_ext (λ x. byte-squash i x k))

  answer-squash : (i v : ℕ) (l : LoadEntry) → i < n → answer_load i v l (squash forget n q) b ≡ squashed_outcome forget n (answer_load i v l q b)
  unfolding answer_load squash
  answer-squash i v l k =
      both (squashed_outcome forget n) {s = leb i q.committed} {t = leb i q.committed} refl
      (λ e. rw (sweep-without (waiting-untouched n i k) q.loads n-positive))
      (λ e. rw (sweep-changed (waiting-untouched n i k) answered (waiting-untouched n i k).apart q.loads))

  retry-with : (i : ℕ) (l : LoadEntry) → i < n → (v : Option ℕ) → retry_with i l v (squash forget n q) b ≡ squashed_outcome forget n (retry_with i l v q b)
  unfolding retry_with squash
  retry-with i l k none = refl
  retry-with i l k (some v) = answer-squash i v l k

  pub retry-check : (i : ℕ) → i < n → any (waiting_at i) (squash forget n q).loads ≡ any (waiting_at i) q.loads
  unfolding squash
  retry-check i k = sweep-any (waiting-untouched n i k) q.loads

  retry-load : (i : ℕ) → i < n → first (waiting_at i) no_load (squash forget n q).loads ≡ first (waiting_at i) no_load q.loads
  unfolding squash
  retry-load i k = sweep-first (waiting-untouched n i k) q.loads

  pub retry-squash : (i : ℕ) → i < n → retry_rule i (squash forget n q) b ≡ squashed_outcome forget n (retry_rule i q b)
  unfolding retry_rule
  retry-squash i k =
      let l : LoadEntry = first (waiting_at i) no_load q.loads in
      rw (retry-load i k, value-squash i l.address l.width (omega arith))
      (retry-with i l k (load_value i l.address l.width q.stores b))

  -- ---- commit

  pub commit-check :
      (k : ℕ) → n ≤ q.last + 1 → ((ltb k q.committed || ltb q.last k) ≡ false → k < n)
      → (ltb k q.committed || ltb (squash forget n q).last k) ≡ (ltb k q.committed || ltb q.last k)
  unfolding squash
  commit-check k low early =
      cases (ltb k q.committed) (λ e. rw e)
      (λ e. rw e (cases (ltb q.last k)
      (λ f. rw f (lt-ltb (n - 1) k (omega (arith, ltb-true q.last k f))))
      (λ f. rw f (le-ltb (n - 1) k (omega (arith, early (rw (e, f))))))))

  pub commit-squash : (k : ℕ) → k < n → forget (forget_up_to k q.checkpoints) ≡ forget_up_to k (forget q.checkpoints) → commit_rule k (squash forget n q) b ≡ squashed_outcome forget n (commit_rule k q b)
  unfolding commit_rule squash
  commit-squash k early marks =
      rw (sweep-without (answered-untouched n k early) q.loads n-positive, sweep-filter (uses-untouched n k early) q.loads, marks)

  -- ---- abort: one that names less than n, and is refused

  pub abort-check : (m : ℕ) → m ≤ q.committed → (leb m q.committed || ltb ((squash forget n q).last + 1) m) ≡ (leb m q.committed || ltb (q.last + 1) m)
  abort-check m h = rw (le-leb m q.committed h)

  -- ---- idle

  head-committed : committed_store q.committed (oldest_store (squash forget n q)) ≡ committed_store q.committed (oldest_store q)
  unfolding squash
  head-committed =
      ap (committed_store q.committed) (sweep-head (young_store n) no_store q.stores n-positive)
      ∙ agrees (committed-untouched n q.committed behind) (oldest_store q)

  pub head-stays : committed_store q.committed (oldest_store q) ≡ true → oldest_store (squash forget n q) ≡ oldest_store q
  unfolding squash
  head-stays e =
      sweep-head (young_store n) no_store q.stores n-positive
      ∙ stays (committed-untouched n q.committed behind) (oldest_store q) e

  older-waiting : committed_store q.committed (oldest_store q) ≡ true → any (waits_below (oldest_store q).number) (squash forget n q).loads ≡ any (waits_below (oldest_store q).number) q.loads
  unfolding squash
  older-waiting e =
      let early : (oldest_store q).number ≤ n = omega (arith, leb-false n (oldest_store q).number ((committed-untouched n q.committed behind).apart (oldest_store q) e)) in
      sweep-any (below-untouched n (oldest_store q).number early) q.loads

  pub ready-squash : store_ready (squash forget n q) ≡ store_ready q
  unfolding store_ready
  ready-squash =
      let h : (squash forget n q).committed ≡ q.committed = unfold squash in refl in
      cases (committed_store q.committed (oldest_store q))
      (λ e. rw (h, head-stays e, older-waiting e)) (λ e. rw (h, head-committed, e))

  pub ready-committed : store_ready q ≡ true → committed_store q.committed (oldest_store q) ≡ true
  unfolding store_ready
  ready-committed e = and_left _ _ e

  drain-check : can_drain (squash forget n q) b ≡ can_drain q b
  drain-check =
      cases (store_ready q) (λ e. rw (ready-squash, head-stays (ready-committed e))) (λ e. rw (ready-squash, e))

  request-store-check : (is_free q.request && store_needs_line (squash forget n q) b) ≡ can_request_store q b
  request-store-check =
      ap (λ (t : Bool). is_free q.request && (not (writes_through b) && t))
      (cases (store_ready q) (λ e. rw (ready-squash, head-stays (ready-committed e))) (λ e. rw (ready-squash, e)))

  pub idle-squash : idle_rule (squash forget n q) b ≡ squashed_outcome forget n (idle_rule q b)
  unfolding idle_rule squash
  idle-squash =
      both (squashed_outcome forget n) drain-check
      (λ e. rw (head-stays (ready-committed (and_left _ _ e)), sweep-shifted (young_store n) no_store q.stores n-positive))
      (λ e. both (squashed_outcome forget n) (ap (λ (t : Bool). is_free q.request && t) (sweep-any wants q.loads))
      (λ f. rw (sweep-first wants q.loads))
      (λ f. both (squashed_outcome forget n) request-store-check
      (λ g. rw (head-stays (ready-committed (and_left _ _ (and_right (not (writes_through b)) _ (and_right (is_free q.request) _ g))))))
      (λ g. refl)))
    where
      wants : Untouched (young_load n) no_load (wants_line b q.committed)
      wants = wants-untouched n b q.committed behind

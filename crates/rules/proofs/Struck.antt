-- One call of a dropped stretch: a struck one changes nothing of the squashed queues and nothing of the hierarchy; a remaining one does
-- to the squashed queues what it does to the whole ones; none lowers h, or the next number below n.
use Prim.Native.Nat.{ℕ, ◌+◌, ◌-◌, ◌≤◌, ◌<◌}
use mathlib.Core.Path.{◌≡◌, refl, sym, ◌∙◌, ap}
use mathlib.Core.Bool.{Bool, true, false, not, ◌||◌, true≢false, false≢true}
use mathlib.Core.List.{List, [], ◌∷◌, ◌++◌}
use mathlib.Core.Option.{Option, some, none}
use native.Mathlib.Omega.{arith}
use lib.Dec.{ltb, leb}
use borrow.Author.Tests.{ltb-false, leb-true, leb-false, eqb-true, lt-ltb, le-ltb, le-leb, lt-leb, not-true}
use Rattle.lists.specs.Padded.{every, first, placed}
use Rattle.lists.proofs.Cond.{either, cases, and_left, and_right, or_left, wrong}
use Rattle.lists.proofs.Sweep.{sweep, sweep-hides, sweep-placed}
use Rattle.rules.specs.declared.StoreEntry.{StoreEntry}
use Rattle.rules.specs.declared.LoadEntry.{LoadEntry}
use Rattle.rules.specs.declared.Checkpoint.{Checkpoint}
use Rattle.rules.specs.Shape.{Queues, Hierarchy, no_store, no_load, is_free_store, is_free_load, fits}
use Rattle.rules.specs.Forward.{load_value}
use Rattle.rules.specs.Calls.{Call, Answer, Outcome, Check, load, store, retry, commit, abort, idle, reply, flush, show, is_accepted, unchanged, check, guarded, passes, early_checks, call_checks, waiting_at, young_store, young_load, squash, answered, answer_load, retry_with, retry_rule, load_rule, store_rule, commit_rule, abort_rule, can_drain, can_request_load, can_request_store, idle_rule, reply_rule, flush_rule, show_rule, rule, checkpoint, restore, preview, preview_rule}
use Rattle.rules.specs.WellFormed.{well_formed}
use Rattle.rules.specs.Runs.{refusal, outcome}
use Rattle.rules.specs.Dropped.{struck, aborts_below, is_checkpoint_call}
use Rattle.rules.proofs.Checks.{guarded-same, guarded-map, shut, opened-by, own_checks, decided, own-passes, outcome-by, rule-accepts}
use Rattle.rules.proofs.QueueView.{parts, good_store, good_load, free-store, free-load}
use Rattle.rules.specs.Checkpoints.{forget_above}
use Rattle.rules.proofs.Checkpoints.{Forgets}
use Rattle.rules.proofs.Squash.{squashed_outcome, n-positive, flush-check, flush-squash, reply-squash, show-squash, retry-check, retry-squash, commit-check, commit-squash, abort-check, idle-squash, preview-squash}

-- ---- a struck call is hidden

pub record Hidden (forget : List Checkpoint → List Checkpoint) (n : ℕ) (q : Queues) (b : Hierarchy) (o : Outcome) : Type 0 where
  pub same-queues : squash forget n o.queues ≡ squash forget n q
  pub same-hierarchy : o.hierarchy ≡ b

-- the squashed queues, with other lists
abbrev listing : ℕ → Queues → List StoreEntry → List LoadEntry → List Checkpoint → Queues
listing n q ss ls cs =
    record { last = n - 1; committed = q.committed; request = q.request; stores = ss; loads = ls; checkpoints = cs }

module _ (forget : List Checkpoint → List Checkpoint) (n : ℕ) (q : Queues) (b : Hierarchy) (behind : q.committed < n) (low : n ≤ q.last + 1) (wf : well_formed q b ≡ true) (marks : Forgets forget n q.checkpoints) where
  load-swept : (l : LoadEntry) → l.number ≡ q.last + 1 → sweep (young_load n) no_load (placed is_free_load l q.loads) ≡ sweep (young_load n) no_load q.loads
  load-swept l e =
      sweep-placed (young_load n) no_load (good_load b q.last q.committed q.stores) is_free_load l (le-leb n l.number (omega arith))
      (λ x g f. rw (free-load b q.last q.committed q.stores x g f, n-positive forget n q b behind))
      q.loads (parts q b wf).loads-good

  store-swept : (s : StoreEntry) → s.number ≡ q.last + 1 → sweep (young_store n) no_store (placed is_free_store s q.stores) ≡ sweep (young_store n) no_store q.stores
  store-swept s e =
      sweep-placed (young_store n) no_store (good_store b q.last) is_free_store s (le-leb n s.number (omega arith))
      (λ x g f. rw (free-store b q.last x g f, n-positive forget n q b behind))
      q.stores (parts q b wf).stores-good

  load-hidden : (a w : ℕ) → Hidden forget n q b (load_rule a w q b)
  unfolding load_rule squash
  load-hidden a w = record {
    same-queues = ap (λ (ls : List LoadEntry). listing n q (sweep (young_store n) no_store q.stores) ls (forget q.checkpoints)) (load-swept _ refl);
    same-hierarchy = refl;
  }

  store-hidden : (a w v : ℕ) → Hidden forget n q b (store_rule a w v q b)
  unfolding store_rule squash
  store-hidden a w v = record {
    same-queues = ap (λ (ss : List StoreEntry). listing n q ss (sweep (young_load n) no_load q.loads) (forget q.checkpoints)) (store-swept _ refl);
    same-hierarchy = refl;
  }

  -- a load numbered n or more is marked answered
  young : (i : ℕ) → n ≤ i → (l : LoadEntry) → waiting_at i l ≡ true → young_load n l ≡ true
  unfolding waiting_at
  young i k l e = le-leb n l.number (omega (arith, eqb-true l.number i (and_left _ _ (and_right (not (is_free_load l)) _ e))))

  answer-hidden : (i v : ℕ) (l : LoadEntry) → n ≤ i → Hidden forget n q b (answer_load i v l q b)
  unfolding answer_load squash
  answer-hidden i v l k = rw (lt-leb i q.committed (omega arith)) (record {
    same-queues =
        ap (λ (ls : List LoadEntry). listing n q (sweep (young_store n) no_store q.stores) ls (forget q.checkpoints))
        (sweep-hides (young_load n) no_load (waiting_at i) answered (λ x e. rw (young i k x e)) q.loads);
    same-hierarchy = refl;
  })

  retry-with-hidden : (i : ℕ) (l : LoadEntry) → n ≤ i → (v : Option ℕ) → Hidden forget n q b (retry_with i l v q b)
  unfolding retry_with
  retry-with-hidden i l k none = record { same-queues = refl; same-hierarchy = refl }
  retry-with-hidden i l k (some v) = answer-hidden i v l k

  retry-hidden : (i : ℕ) → n ≤ i → Hidden forget n q b (retry_rule i q b)
  unfolding retry_rule
  retry-hidden i k =
      let l : LoadEntry = first (waiting_at i) no_load q.loads in
      retry-with-hidden i l k (load_value i l.address l.width q.stores b)

  -- entries numbered m or more are removed, and checkpoints forgotten, by an abort or a return
  pub squash-hidden : (drop : List Checkpoint → List Checkpoint) (m : ℕ) → n ≤ m → forget (drop q.checkpoints) ≡ forget q.checkpoints → squash forget n (squash drop m q) ≡ squash forget n q
  unfolding squash
  squash-hidden drop m k e =
      λ i. listing n q
      (sweep-hides (young_store n) no_store (young_store m) (λ s. no_store) (λ x t. rw (n-positive forget n q b behind, later x.number t)) q.stores i)
      (sweep-hides (young_load n) no_load (young_load m) (λ l. no_load) (λ x t. rw (n-positive forget n q b behind, later x.number t)) q.loads i)
      (e i)
    where
      later : (x : ℕ) → leb m x ≡ true → leb n x ≡ true
      later x e = le-leb n x (omega (arith, leb-true m x e))

  abort-hidden : (m : ℕ) → n ≤ m → Hidden forget n q b (abort_rule m q b)
  unfolding abort_rule
  abort-hidden m k = record { same-queues = squash-hidden (forget_above m) m k (marks.aborts m k); same-hierarchy = refl }

  rule-hidden : (c : Call) → struck n c ≡ true → Hidden forget n q b (rule c q b)
  rule-hidden (load a w) s = load-hidden a w
  rule-hidden (store a w v) s = store-hidden a w v
  rule-hidden (retry i) s = retry-hidden i (leb-true n i s)
  rule-hidden (commit k) s = absurd (false≢true s)
  rule-hidden (abort m) s = abort-hidden m (leb-true n m s)
  rule-hidden idle s = absurd (false≢true s)
  rule-hidden reply s = absurd (false≢true s)
  rule-hidden flush s = absurd (false≢true s)
  rule-hidden (show a) s = absurd (false≢true s)
  rule-hidden (checkpoint x) s = absurd (false≢true s)
  rule-hidden (restore x) s = absurd (false≢true s)
  rule-hidden preview s = absurd (false≢true s)

  pub outcome-hidden : (c : Call) → struck n c ≡ true → Hidden forget n q b (outcome c q b)
  outcome-hidden c s =
      outcome-by c q b (Hidden forget n q b) (λ k. record { same-queues = refl; same-hierarchy = refl }) (λ f g p. rule-hidden c s)

-- ---- h and the next number

-- the call is no accepted abort naming less than n
abbrev pub Above : ℕ → Call → Answer → Type 0
Above n c a = aborts_below n c ≡ true → is_accepted a ≡ false

-- h does not fall, and the next number does not fall below n
pub record Steady (n : ℕ) (q : Queues) (o : Outcome) : Type 0 where
  pub rises : q.committed ≤ o.queues.committed
  pub low : n ≤ o.queues.last + 1

module _ (n : ℕ) (q : Queues) (b : Hierarchy) (low : n ≤ q.last + 1) where
  same : {o : Outcome} → o.queues.committed ≡ q.committed → o.queues.last ≡ q.last → Steady n q o
  same e f = record { rises = omega arith; low = omega arith }

  retry-steady : (i : ℕ) (l : LoadEntry) (v : Option ℕ) → Steady n q (retry_with i l v q b)
  unfolding retry_with answer_load
  retry-steady i l none = same refl refl
  retry-steady i l (some v) = either (Steady n q) (leb i q.committed) (λ e. same refl refl) (λ e. same refl refl)

  -- an accepted call that is no abort naming less than n, and no return
  rule-steady : (c : Call) → passes (call_checks c q b) ≡ true → is_checkpoint_call c ≡ false → aborts_below n c ≡ false → Steady n q (rule c q b)
  unfolding load_rule store_rule retry_rule commit_rule abort_rule squash idle_rule reply_rule flush_rule show_rule preview_rule every
  rule-steady (load a w) p quiet f = record { rises = omega arith; low = omega arith }
  rule-steady (store a w v) p quiet f = record { rises = omega arith; low = omega arith }
  rule-steady (retry i) p quiet f =
      let l : LoadEntry = first (waiting_at i) no_load q.loads in
      retry-steady i l (load_value i l.address l.width q.stores b)
  rule-steady (commit k) p quiet f = record {
    rises = ltb-false k q.committed (or_left _ (ltb q.last k) (not-true _ (and_left _ _ p)));
    low = omega arith;
  }
  rule-steady (abort m) p quiet f = record { rises = omega arith; low = omega (arith, ltb-false m n f) }
  rule-steady idle p quiet f =
      either (Steady n q) (can_drain q b) (λ e. same refl refl)
      (λ e. either (Steady n q) (can_request_load q b) (λ e. same refl refl)
      (λ e. either (Steady n q) (can_request_store q b) (λ e. same refl refl) (λ e. same refl refl)))
  rule-steady reply p quiet f = same refl refl
  rule-steady flush p quiet f = same refl refl
  rule-steady (show a) p quiet f = same refl refl
  rule-steady (checkpoint x) p quiet f = absurd (true≢false quiet)
  rule-steady (restore x) p quiet f = absurd (true≢false quiet)
  rule-steady preview p quiet f = same refl refl

  pub outcome-steady : (c : Call) → is_checkpoint_call c ≡ false → Above n c (outcome c q b).answer → Steady n q (outcome c q b)
  outcome-steady c quiet =
      outcome-by c q b (λ o. Above n c o.answer → Steady n q o) (λ k f. same refl refl)
      (λ fit wf p f. rule-steady c p quiet (cases (aborts_below n c) (λ t. wrong (rule-accepts q b c) (f t)) (λ t. t)))

  -- ---- a remaining call, on the squashed queues

  module _ (forget : List Checkpoint → List Checkpoint) (behind : q.committed < n) (marks : Forgets forget n q.checkpoints) where
    -- an abort naming less than n is refused
    refused-abort : (m : ℕ) → m < n → is_accepted (decided (abort m) q b).answer ≡ false → m ≤ q.committed
    unfolding guarded abort_rule
    refused-abort m k e =
        cases (leb m q.committed) (λ t. leb-true m q.committed t)
        (λ t. absurd (true≢false (rw (t, le-ltb (q.last + 1) m (omega arith)) at e)))

    -- a commit that is not refused names less than n
    early-commit : (k : ℕ) → (decided (commit k) q b).queues.committed < n → (ltb k q.committed || ltb q.last k) ≡ false → k < n
    unfolding guarded commit_rule
    early-commit k h e = rw e at h

    checks-squash :
        (c : Call) → struck n c ≡ false → is_checkpoint_call c ≡ false → Above n c (decided c q b).answer → (decided c q b).queues.committed < n
        → call_checks c (squash forget n q) b ≡ call_checks c q b
    checks-squash (load a w) s quiet f k = absurd (true≢false s)
    checks-squash (store a w v) s quiet f k = absurd (true≢false s)
    checks-squash (retry i) s quiet f k =
        ap (λ (t : Bool). check 14 (not t) ∷ []) (retry-check forget n q b behind i (leb-false n i s))
    checks-squash (commit j) s quiet f k =
        unfold squash in (ap (λ (t : Bool). check 15 t ∷ []) (commit-check forget n q b behind j low (early-commit j k)))
    checks-squash (abort m) s quiet f k =
        let below : m < n = leb-false n m s in
        unfold squash in (ap (λ (t : Bool). check 16 t ∷ []) (abort-check forget n q b behind m (refused-abort m below (f (lt-ltb m n below)))))
    checks-squash idle s quiet f k = refl
    checks-squash reply s quiet f k = unfold squash in refl
    checks-squash flush s quiet f k = unfold squash in (ap (λ (t : Bool). check 18 t ∷ []) (flush-check forget n q b behind))
    checks-squash (show a) s quiet f k = refl
    checks-squash (checkpoint x) s quiet f k = absurd (true≢false quiet)
    checks-squash (restore x) s quiet f k = absurd (true≢false quiet)
    checks-squash preview s quiet f k = unfold squash in refl

    rule-squash :
        (c : Call) → struck n c ≡ false → is_checkpoint_call c ≡ false → Above n c (decided c q b).answer → (decided c q b).queues.committed < n → passes (call_checks c q b) ≡ true
        → rule c (squash forget n q) b ≡ squashed_outcome forget n (rule c q b)
    unfolding every
    rule-squash (load a w) s quiet f k p = absurd (true≢false s)
    rule-squash (store a w v) s quiet f k p = absurd (true≢false s)
    rule-squash (retry i) s quiet f k p = retry-squash forget n q b behind i (leb-false n i s)
    rule-squash (commit j) s quiet f k p =
        let early : j < n = early-commit j k (not-true _ (and_left _ _ p)) in
        commit-squash forget n q b behind j early (marks.commits j early)
    rule-squash (abort m) s quiet f k p =
        let below : m < n = leb-false n m s in
        wrong (le-leb m q.committed (refused-abort m below (f (lt-ltb m n below)))) (or_left _ (ltb (q.last + 1) m) (not-true _ (and_left _ _ p)))
    rule-squash idle s quiet f k p = idle-squash forget n q b behind
    rule-squash reply s quiet f k p = reply-squash forget n q b behind
    rule-squash flush s quiet f k p = flush-squash forget n q b behind
    rule-squash (show a) s quiet f k p = show-squash forget n q b behind a
    rule-squash (checkpoint x) s quiet f k p = absurd (true≢false quiet)
    rule-squash (restore x) s quiet f k p = absurd (true≢false quiet)
    rule-squash preview s quiet f k p = preview-squash forget n q b behind

    decided-squash :
        (c : Call) → struck n c ≡ false → is_checkpoint_call c ≡ false → Above n c (decided c q b).answer → (decided c q b).queues.committed < n
        → decided c (squash forget n q) b ≡ squashed_outcome forget n (decided c q b)
    decided-squash c s quiet f k =
        ap (λ (ks : List Check). guarded (early_checks c b ++ ks) (λ j. unchanged (refusal c j) (squash forget n q) b) (rule c (squash forget n q) b)) (checks-squash c s quiet f k)
        ∙ guarded-same (λ j. unchanged (refusal c j) (squash forget n q) b) (own_checks c q b) (rule c (squash forget n q) b) (squashed_outcome forget n (rule c q b)) (λ p. rule-squash c s quiet f k (own-passes c q b p))
        ∙ sym (guarded-map (squashed_outcome forget n) (λ j. unchanged (refusal c j) q b) (own_checks c q b) (rule c q b))

    pub outcome-squash :
        well_formed q b ≡ true → well_formed (squash forget n q) b ≡ true → (c : Call) → struck n c ≡ false → is_checkpoint_call c ≡ false → Above n c (outcome c q b).answer
        → (outcome c q b).queues.committed < n → outcome c (squash forget n q) b ≡ squashed_outcome forget n (outcome c q b)
    outcome-squash wf wf' c s quiet f k =
        cases (fits b)
        (λ e.
        opened-by c (squash forget n q) b e wf'
        ∙ decided-squash c s quiet (rw (opened-by c q b e wf) at f) (rw (opened-by c q b e wf) at k)
        ∙ ap (squashed_outcome forget n) (sym (opened-by c q b e wf)))
        (λ e. shut c (squash forget n q) b e ∙ ap (squashed_outcome forget n) (sym (shut c q b e)))

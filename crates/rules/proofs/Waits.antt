-- What an accepted load or inquiry answers: that it waits if a byte is lacking, else what flat memory holds once the older held stores are
-- applied. So it waits exactly if a byte is lacking; and then its line is absent, so that the word goes by the register alone.
use Prim.Native.Nat.{ℕ, ◌+◌, ◌≤◌, ◌<◌}
use mathlib.Core.Path.{◌≡◌, refl, sym, ◌∙◌, ap, subst}
use mathlib.Core.Bool.{Bool, true, false, cond, not, ◌&&◌, false≢true, and-false}
use mathlib.Core.List.{List}
use mathlib.Core.Option.{Option, some, none}
use mathlib.Core.Logic.{inl, inr, ⊎_elim}
use native.Mathlib.Omega.{arith}
use lib.Dec.{leb, ltb}
use lib.ListN.{length}
use borrow.Author.Tests.{eq-eqb, ne_eqb}
use Rattle.lists.specs.Padded.{any, first, placed}
use Rattle.lists.specs.Counted.{some_from}
use Rattle.lists.specs.Bytes.{value_at}
use Rattle.lists.proofs.Cond.{either, cases, wrong}
use Rattle.lists.proofs.Counting.{some-none}
use Rattle.lists.proofs.Some.{first-placed}
use Rattle.rules.specs.declared.StoreEntry.{StoreEntry}
use Rattle.rules.specs.declared.LoadEntry.{LoadEntry}
use Rattle.rules.specs.declared.Lookup.{Lookup}
use Rattle.rules.specs.declared.Lookup.TheVariants.{Pending, Miss}
use Rattle.rules.specs.Shape.{Queues, Hierarchy, World, names, no_load, is_free_load, line_of}
use Rattle.rules.specs.Lines.{present, lookup}
use Rattle.rules.specs.Forward.{older_covers, load_value, lacking}
use Rattle.rules.specs.Calls.{Call, Answer, Outcome, load, store, retry, commit, abort, idle, reply, flush, show, checkpoint, restore, preview, refused, stored, value, waits, waits_requested, committed, kept, drained, requested, idled, filled, flushed, shown, checkpointed, previewed, is_accepted, rule, store_rule, commit_rule, abort_rule, can_drain, can_request_load, can_request_store, idle_rule, reply_rule, flush_rule, show_rule, checkpoint_rule, restore_rule, passes, access_checks, call_checks, next_number, waiting_at, is_none, wait_answer, load_answer, load_rule, answer_load, retry_with, retry_rule, preview_rule}
use Rattle.rules.specs.WellFormed.{well_formed}
use Rattle.rules.specs.Runs.{answer, next}
use Rattle.rules.specs.Flat.{number_in}
use Rattle.rules.specs.Values.{lacks_byte, IsWait, waiting_load, WaitsExactly, LoadWaits, RetryWaits}
use Rattle.rules.specs.TagLookup.{StatusExactly, LoadStatus, RetryStatus, ListedWaiting, LoadWaitLeaves, RetryWaitLeaves, may_wait, NoOtherWaits}
use Rattle.rules.proofs.Checks.{refusal-by, outcome-by, either-word}
use Rattle.rules.proofs.QueueView.{Parts, parts, good_load, load_low}
use Rattle.rules.proofs.Entries.{fine, one_line, load-checked, load-access, tried, tried-waits, none-forwarded}
use Rattle.rules.proofs.QueuesKept.{tried-good}
use Rattle.rules.proofs.FlatLines.{fits-memory}
use Rattle.rules.proofs.TagLookup.{names-tells, names-is}
use Rattle.rules.proofs.Stored.{flat_older, load-answers}

-- ---- the answers

-- the answer of operation i, a load of the n bytes from a on, when flat memory is m and f is what the lookup of its line says
abbrev pub answer_from : List ℕ → ℕ → Lookup → List StoreEntry → Hierarchy → ℕ → ℕ → Answer
answer_from m i f ss b a n = cond (some_from (lacking i ss b) a n) (wait_answer i f) (value i (value_at m a n))

module _ (q : Queues) (b : Hierarchy) (wf : well_formed q b ≡ true) where
  p : Parts q b
  p = parts q b wf

  inside : (a n : ℕ) → passes (access_checks b a n) ≡ true → a + n ≤ length b.memory
  inside a n e = omega (arith, fits-memory b p.fit, (fine b a n e).inside)

  pub load-rule-answers :
      (a n : ℕ) → passes (call_checks (load a n) q b) ≡ true
      → (load_rule a n q b).answer ≡ answer_from (flat_older (next_number q) q.stores b) (next_number q) (lookup q.request b (line_of a)) q.stores b a n
  unfolding load_rule
  load-rule-answers a n e = load-answers (next_number q) q.stores b (lookup q.request b (line_of a)) a n (inside a n (load-checked q b a n e).access)

  retry-answer : (i : ℕ) (l : LoadEntry) (o : Option ℕ) → (retry_with i l o q b).answer ≡ load_answer i (lookup q.request b (line_of l.address)) o
  unfolding retry_with answer_load
  retry-answer i l none = refl
  retry-answer i l (some v) = either (λ (o : Outcome). o.answer ≡ value i v) (leb i q.committed) (λ e. refl) (λ e. refl)

  tried-access : (i : ℕ) → passes (call_checks (retry i) q b) ≡ true → passes (access_checks b (tried i q).address (tried i q).width) ≡ true
  tried-access i e =
      load-access b q.last q.committed q.stores (tried i q) (tried-good q b p i) (tried-waits i q b e).held

  pub retry-rule-answers :
      (i : ℕ) → passes (call_checks (retry i) q b) ≡ true
      → (retry_rule i q b).answer
      ≡ answer_from (flat_older i q.stores b) i (lookup q.request b (line_of (tried i q).address)) q.stores b (tried i q).address (tried i q).width
  unfolding retry_rule
  retry-rule-answers i e =
      retry-answer i (tried i q) (load_value i (tried i q).address (tried i q).width q.stores b)
      ∙ load-answers i q.stores b (lookup q.request b (line_of (tried i q).address)) (tried i q).address (tried i q).width (inside (tried i q).address (tried i q).width (tried-access i e))

-- ---- answers that say that a load waits, in either word

-- the answer says that a load waits
abbrev pub says_wait : Answer → Bool
says_wait (refused k) = false
says_wait (stored i) = false
says_wait (value i v) = false
says_wait (waits i) = true
says_wait (waits_requested i) = true
says_wait (committed k) = false
says_wait (kept k) = false
says_wait (drained i) = false
says_wait (requested a) = false
says_wait idled = false
says_wait (filled a) = false
says_wait (flushed k) = false
says_wait (shown p bs) = false
says_wait (checkpointed n) = false
says_wait (previewed p) = false

wait-says : (j : ℕ) (r : Answer) → IsWait j r → says_wait r ≡ true
wait-says j r = ⊎_elim (λ e. ap says_wait e) (λ e. ap says_wait e)

wait-number : (j : ℕ) (r : Answer) → IsWait j r → number_in r ≡ j
wait-number j r = ⊎_elim (λ e. ap number_in e) (λ e. ap number_in e)

-- ---- waits, exactly

module _ (w : World) (i a n v : ℕ) (r : Answer)
    (e : r ≡ cond (lacks_byte i w a n) (wait_answer i (lookup w.queues.request w.hierarchy (line_of a))) (value i v)) where
  waits-lacks : (j : ℕ) → IsWait j r → lacks_byte i w a n ≡ true
  waits-lacks j x = cases (lacks_byte i w a n) (λ t. t) (λ t. let g : r ≡ value i v = rw t at e in wrong (wait-says j r x) (ap says_wait g))

  exactly : WaitsExactly i a n w r
  exactly = record {
    only = waits-lacks;
    whenever = λ t.
        let said : r ≡ wait_answer i (lookup w.queues.request w.hierarchy (line_of a)) = rw t at e in
        subst (IsWait i) (sym said) (either-word (IsWait i) i (inl refl) (inr refl) (lookup w.queues.request w.hierarchy (line_of a)));
    otherwise = λ t. (v, rw t at e);
  }

  -- ---- and in which word

  module _ (one : (j : ℕ) → a ≤ j → j < a + n → line_of j ≡ line_of a) where
    -- all bytes stand in one line, so that a byte is lacking only where the line is absent
    lacks-absent : lacks_byte i w a n ≡ true → present w.hierarchy (line_of a) ≡ false
    lacks-absent t =
        cases (present w.hierarchy (line_of a))
        (λ p. wrong t (some-none (lacking i w.queues.stores w.hierarchy) n a
        (λ k l u. rw (one k l u, p) (and-false (not (any (older_covers i k) w.queues.stores))))))
        (λ p. p)

    word : lacks_byte i w a n ≡ true → r ≡ cond (names w.queues.request (line_of a)) (waits_requested i) (waits i)
    unfolding lookup
    word t =
        let absent = lacks-absent t in
        let said : r ≡ wait_answer i (cond (names w.queues.request (line_of a)) Pending Miss) = rw (t, absent) at e in
        said ∙ go (names w.queues.request (line_of a))
      where
        go : (t : Bool) → wait_answer i (cond t Pending Miss) ≡ cond t (waits_requested i) (waits i)
        go true = refl
        go false = refl

    status-exactly : StatusExactly i a n w r
    status-exactly = record {
      requested-only = λ j s.
          let t = waits-lacks j (inr s) in
          let x = word t in (
            t,
            cases (names w.queues.request (line_of a)) (names-tells w.queues.request (line_of a))
                (λ m. let y : r ≡ waits i = rw m at x in let z : ◌≡◌ {A = ℕ} 0 1 = cc in absurd (omega arith)),
          );
      requested-whenever = λ t m. let x = word t in rw (names-is w.queues.request (line_of a) m) at x;
      waits-only = λ j s.
          let t = waits-lacks j (inl s) in
          let x = word t in (
            t,
            λ m. let y : r ≡ waits_requested i = rw (names-is w.queues.request (line_of a) m) at x in
                let z : ◌≡◌ {A = ℕ} 0 1 = cc in omega arith,
          );
      waits-whenever = λ t m.
          let x = word t in
          cases (names w.queues.request (line_of a)) (λ y. absurd (m (names-tells w.queues.request (line_of a) y))) (λ y. rw y at x);
    }

-- ---- an accepted load, and an accepted inquiry

pub load-waits : (a n : ℕ) (w : World) → LoadWaits a n w
unfolding answer
load-waits a n w =
    outcome-by (load a n) w.queues w.hierarchy
    (λ o. is_accepted o.answer ≡ true → WaitsExactly (next_number w.queues) a n w o.answer) (λ k f. absurd (false≢true f))
    (λ fit wf e f. exactly w (next_number w.queues) a n _ _ (load-rule-answers w.queues w.hierarchy wf a n e))

pub load-status : (a n : ℕ) (w : World) → LoadStatus a n w
unfolding answer
load-status a n w =
    outcome-by (load a n) w.queues w.hierarchy
    (λ o. is_accepted o.answer ≡ true → StatusExactly (next_number w.queues) a n w o.answer) (λ k f. absurd (false≢true f))
    (λ fit wf e f.
    status-exactly w (next_number w.queues) a n _ _ (load-rule-answers w.queues w.hierarchy wf a n e)
    (one_line w.hierarchy a n (load-checked w.queues w.hierarchy a n e).access))

pub retry-waits : (i : ℕ) (w : World) → RetryWaits i w
unfolding answer
retry-waits i w =
    outcome-by (retry i) w.queues w.hierarchy
    (λ o. is_accepted o.answer ≡ true → WaitsExactly i (waiting_load i w).address (waiting_load i w).width w o.answer) (λ k f. absurd (false≢true f))
    (λ fit wf e f. exactly w i (waiting_load i w).address (waiting_load i w).width _ _ (retry-rule-answers w.queues w.hierarchy wf i e))

pub retry-status : (i : ℕ) (w : World) → RetryStatus i w
unfolding answer
retry-status i w =
    outcome-by (retry i) w.queues w.hierarchy
    (λ o. is_accepted o.answer ≡ true → StatusExactly i (waiting_load i w).address (waiting_load i w).width w o.answer) (λ k f. absurd (false≢true f))
    (λ fit wf e f.
    status-exactly w i (waiting_load i w).address (waiting_load i w).width _ _ (retry-rule-answers w.queues w.hierarchy wf i e)
    (one_line w.hierarchy (waiting_load i w).address (waiting_load i w).width (tried-access w.queues w.hierarchy wf i e)))

-- ---- what a call that waits leaves

-- a load that waits says its own number, and has no value
wait-none : (i j : ℕ) (f : Lookup) (v : Option ℕ) → IsWait j (load_answer i f v) → (i ≡ j) × (is_none v ≡ true)
wait-none i j f none x = (sym (either-word (λ r. number_in r ≡ i) i refl refl f) ∙ wait-number j (wait_answer i f) x, refl)
wait-none i j f (some v) x = wrong (wait-says j (value i v) x) refl

module _ (q : Queues) (b : Hierarchy) (wf : well_formed q b ≡ true) where
  -- a new load takes the first free place, and is found by a test that no older one passes
  pub new-listed :
      (t : LoadEntry → Bool) (l : LoadEntry) → t l ≡ true → ((x : LoadEntry) → x.number ≤ q.last → t x ≡ false)
      → any is_free_load q.loads ≡ true → first t no_load (placed is_free_load l q.loads) ≡ l
  new-listed t l hit low =
      first-placed t is_free_load (good_load b q.last q.committed q.stores) l no_load hit
      (λ x g. low x (load_low b q.last q.committed q.stores x g)) q.loads (parts q b wf).loads-good

  -- one that waits, by its number
  waiting-listed :
      (a n : ℕ) → any is_free_load q.loads ≡ true
      → let l : LoadEntry = record { number = next_number q; address = a; width = n; waiting = true; forwarded = false } in
      first (waiting_at (next_number q)) no_load (placed is_free_load l q.loads) ≡ l
  unfolding waiting_at
  waiting-listed a n =
      new-listed (waiting_at (next_number q)) _ (rw (ne_eqb (next_number q) 0 (λ z. omega arith), eq-eqb (next_number q) (next_number q) refl))
      (λ x low. rw (ne_eqb x.number (next_number q) (λ z. omega arith)) (and-false (not (is_free_load x))))

pub load-wait-leaves : (a n : ℕ) (w : World) → LoadWaitLeaves a n w
unfolding answer next load_rule
load-wait-leaves a n w j =
    outcome-by (load a n) w.queues w.hierarchy
    (λ o. IsWait j o.answer → ListedWaiting j a n w (record { queues = o.queues; hierarchy = o.hierarchy })) (λ k x. wrong (wait-says j (refused k) x) refl)
    (λ fit wf e x.
    let i = next_number w.queues in
    let h = wait-none i j (lookup w.queues.request w.hierarchy (line_of a)) (load_value i a n w.queues.stores w.hierarchy) x in
    let bare = none-forwarded i w.queues.stores w.hierarchy n a h.1 in
    record {
      listed = rw (← h.0, h.1, bare) (waiting-listed w.queues w.hierarchy wf a n (load-checked w.queues w.hierarchy a n e).place);
      same-committed = refl;
      same-stores = refl;
      same-checkpoints = refl;
      same-request = refl;
      same_lines = refl;
    })

pub retry-wait-leaves : (i : ℕ) (w : World) → RetryWaitLeaves i w
unfolding answer next retry_rule retry_with
retry-wait-leaves i w j =
    outcome-by (retry i) w.queues w.hierarchy
    (λ o. IsWait j o.answer → ◌≡◌ {A = World} (record { queues = o.queues; hierarchy = o.hierarchy }) w) (λ k x. refl)
    (λ fit wf e. tried-keeps wf (tried i w.queues) (load_value i (tried i w.queues).address (tried i w.queues).width w.queues.stores w.hierarchy))
  where
    tried-keeps :
        (wf : well_formed w.queues w.hierarchy ≡ true) (l : LoadEntry) (v : Option ℕ) → IsWait j (retry_with i l v w.queues w.hierarchy).answer
        → ◌≡◌ {A = World} (record { queues = (retry_with i l v w.queues w.hierarchy).queues; hierarchy = (retry_with i l v w.queues w.hierarchy).hierarchy }) w
    tried-keeps wf l none x = refl
    tried-keeps wf l (some v) x =
        wrong (wait-says j _ x) (ap says_wait (retry-answer w.queues w.hierarchy wf i l (some v)))

-- ---- no other call waits

module _ (q : Queues) (b : Hierarchy) where
  abbrev Silent : Outcome → Type 0
  Silent o = says_wait o.answer ≡ false

  idle-silent : Silent (idle_rule q b)
  unfolding idle_rule
  idle-silent =
      either Silent (can_drain q b) (λ e. refl)
      (λ e. either Silent (can_request_load q b) (λ e. refl) (λ e. either Silent (can_request_store q b) (λ e. refl) (λ e. refl)))

  rule-silent : (c : Call) → may_wait c ≡ false → Silent (rule c q b)
  unfolding store_rule commit_rule abort_rule reply_rule flush_rule show_rule preview_rule checkpoint_rule restore_rule
  rule-silent (load a n) e = wrong refl e
  rule-silent (store a n v) e = refl
  rule-silent (retry i) e = wrong refl e
  rule-silent (commit k) e = refl
  rule-silent (abort n) e = refl
  rule-silent idle e = idle-silent
  rule-silent reply e = refl
  rule-silent flush e = refl
  rule-silent (show a) e =
      either (λ (r : Answer). says_wait r ≡ false) (ltb a b.size && present b (line_of a)) (λ t. refl) (λ t. refl)
  rule-silent (checkpoint x) e = refl
  rule-silent (restore x) e = refl
  rule-silent preview e = refl

pub no-other-waits : (c : Call) (w : World) → NoOtherWaits c w
unfolding answer
no-other-waits c w other j x =
    let silent = outcome-by c w.queues w.hierarchy (λ o. says_wait o.answer ≡ false)
    (refusal-by (λ c r. says_wait r ≡ false) (λ c k. refl) (λ a. refl) c) (λ fit wf e. rule-silent w.queues w.hierarchy c other) in
    wrong (wait-says j (answer c w) x) silent

-- Every call on a well-formed world leaves a well-formed world, and an accepted start leaves one: so no call of a run after a start is
-- refused with 1 or 10.
use Prim.Native.Nat.{ℕ, ◌*◌, ◌<◌}
use mathlib.Core.Path.{◌≡◌, refl, sym, ◌∙◌, ap, subst}
use mathlib.Core.Bool.{Bool, true, false, not, ◌&&◌}
use mathlib.Core.List.{List, [], ◌∷◌}
use mathlib.Core.Option.{Option, some, none}
use native.Mathlib.Omega.{arith}
use lib.ListN.{replicate}
use lib.Dec.{leb, eqb}
use borrow.Author.Tests.{ltb-true, leb-false, lt-ltb, le-leb, ne_eqb, eq-eqb, not-true, not-false}
use Rattle.lists.specs.Padded.{any, every, climbing, free_last, rising, filter}
use Rattle.lists.proofs.Cond.{either, cases, and_left, and_right, and_both, or-one, or-two, or-by, wrong}
use Rattle.lists.proofs.Every.{every_first}
use Rattle.lists.proofs.Some.{any-first, first_any}
use Rattle.rules.specs.declared.Figures.{Figures}
use Rattle.rules.specs.declared.LoadEntry.{LoadEntry}
use Rattle.rules.specs.declared.Request.{Request}
use Rattle.rules.specs.declared.Request.TheVariants.{Free, Line}
use Rattle.rules.specs.Shape.{Queues, Hierarchy, World, no_load, is_free, requested_line, line_of, writes_through, fits, world, no_checkpoint}
use Rattle.rules.specs.Lines.{present, fill_line}
use Rattle.rules.specs.Forward.{load_value, some_uncovered, all_forwarded}
use Rattle.rules.specs.Checkpoints.{number_of, forget_above}
use Rattle.rules.specs.Calls.{Call, Outcome, load, store, retry, commit, abort, idle, reply, flush, show, checkpoint, restore, preview, refused, is_accepted, unchanged, passes, access_checks, call_checks, is_none, next_number, with_request, load_rule, store_rule, answer_load, retry_with, retry_rule, uses_line_by, use_each, commit_rule, abort_rule, checkpoint_rule, restore_rule, oldest_store, store_ready, can_drain, wants_line, can_request_load, lowest_wanting, can_request_store, idle_rule, reply_rule, flush_rule, show_rule, rule, preview_rule}
use Rattle.rules.specs.WellFormed.{free_store_zero, free_load_zero, store_passes, load_passes, committed_wait_at, waiting_uncovered_at, forwarded_answered_at, alone, request_absent, request_inside, request_wanted, waits_for, well_formed, free_checkpoint_zero, placed_at, name_fits, names_distinct, ranks_from, checkpoints_formed}
use Rattle.rules.specs.Runs.{refusal, outcome, answer, next, after, started, start_allowed, start_answer, start_world, ready, start_refused}
use Rattle.rules.specs.Kept.{Formed, StartFormed, NextKept, RunKept, own_outcome, Admitted, AdmittedAfterStart}
use Rattle.rules.proofs.Checks.{guarded-numbered, own_checks, opened-by, outcome-by, rule-accepts, refusal-number}
use Rattle.rules.proofs.LineFacts.{Good, good-tells, good-is}
use Rattle.rules.proofs.LineRules.{LinesKept, kept_refl, kept_then, kept-fits, use-line, write_store_lem, save-all, fill-line}
use Rattle.rules.proofs.LineStart.{start_fits, start-good}
use Rattle.rules.proofs.QueueView.{Parts, parts, whole, good_store, good_load, good_request, good-store, good-load}
use Rattle.rules.proofs.Checkpoints.{checkpoints-tell, checkpoints-are, above-formed}
use Rattle.rules.proofs.SquashFormed.{squash-formed}
use Rattle.rules.proofs.Entries.{load-checked, store-checked, commit-checked, abort-checked, checkpoint-checked, restore-checked, reply-checked, fine, line-inside, one_line, store_access, load-access, load-uncovered, ready-tells, for-is, wants-tells, tried, tried-waits, none-uncovered, none-forwarded, some-present}
use Rattle.rules.proofs.QueuesKept.{wanted_by, asks-line, other-lines, free-load-good, oldest-good, tried-good, load-joins, store-joins, answered-leaves, commits, marks, checkpoint-joins, oldest-leaves, asks}
use Rattle.rules.proofs.InForce.{in-force, stands-formed}

-- ---- the lines after a list of uses

use-each : (ls : List LoadEntry) (b : Hierarchy) → fits b ≡ true → Good b → LinesKept b (use_each ls b)
unfolding use_each
use-each [] b f g = kept_refl b g
use-each (l ∷ ls) b f g =
    let k = use-line (line_of l.address) b f g in kept_then b _ _ k (use-each ls _ (kept-fits b _ f k) k.good)

-- ---- the rules, where their checks pass

abbrev Leaves : Outcome → Type 0
Leaves o = well_formed o.queues o.hierarchy ≡ true

module _ (q : Queues) (b : Hierarchy) (wf : well_formed q b ≡ true) where
  p : Parts q b
  p = parts q b wf

  g : Good b
  g = good-tells b p.lines

  -- other queues, and lines that are kept
  with-lines : (q' : Queues) (c : Hierarchy) → well_formed q' b ≡ true → LinesKept b c → well_formed q' c ≡ true
  with-lines q' c e k = other-lines q' b c e k.shaped k.good (λ l r a. k.lines l ∙ a)

  not_free : eqb (next_number q) 0 ≡ false
  not_free = ne_eqb (next_number q) 0 (λ z. omega arith)

  load-formed : (a w : ℕ) → passes (call_checks (load a w) q b) ≡ true → Leaves (load_rule a w q b)
  unfolding load_rule free_load_zero load_passes committed_wait_at waiting_uncovered_at forwarded_answered_at
  load-formed a w e =
      let c = load-checked q b a w e in
      let v = load_value (next_number q) a w q.stores b in
      load-joins q b p (omega (arith, p.last_fits, c.room)) (record { number = next_number q; address = a; width = w; waiting = is_none v; forwarded = all_forwarded (next_number q) q.stores a w }) refl
      (good-load b (next_number q) q.committed q.stores _ (or-one _ _ (ap not not_free)) (le-leb (next_number q) (next_number q) (omega arith))
      (or-two (eqb (next_number q) 0) _ c.access)
      (or-two (eqb (next_number q) 0) _ (or-two (is_none v) _ (lt-ltb q.committed (next_number q) (omega (arith, p.order)))))
      (or-two (eqb (next_number q) 0) _ (or-by (not (is_none v)) _ (λ n. none-uncovered (next_number q) q.stores b w a (not-false _ n))))
      (cases (is_none v) (λ n. or-one _ _ (ap not (none-forwarded (next_number q) q.stores b w a n))) (λ n. or-two (not (all_forwarded (next_number q) q.stores a w)) _ (ap not n))))

  store-formed : (a w v : ℕ) → passes (call_checks (store a w v) q b) ≡ true → Leaves (store_rule a w v q b)
  unfolding store_rule free_store_zero store_passes
  store-formed a w v e =
      let c = store-checked q b a w v e in
      store-joins q b p (omega (arith, p.last_fits, c.room)) (record { number = next_number q; address = a; width = w; value = v }) refl
      (good-store b (next_number q) _ (or-one _ _ (ap not not_free)) (le-leb (next_number q) (next_number q) (omega arith))
      (or-two (eqb (next_number q) 0) _ (and_both _ _ c.access c.fits_width)))

  -- a waiting load that has a value has its line
  pub tried-present :
      (i : ℕ) → passes (call_checks (retry i) q b) ≡ true → is_none (load_value i (tried i q).address (tried i q).width q.stores b) ≡ false
      → present b (line_of (tried i q).address) ≡ true
  tried-present i e n =
      let l = tried i q in
      let t = tried-waits i q b e in
      let good = tried-good q b p i in
      some-present i q.stores b (line_of l.address) l.width l.address
      (one_line b l.address l.width (load-access b q.last q.committed q.stores l good t.held))
      (subst (λ (k : ℕ). some_uncovered k q.stores l.address l.width ≡ true) t.numbered (load-uncovered b q.last q.committed q.stores l good t.held t.waits))
      n

  retry-formed : (i : ℕ) → passes (call_checks (retry i) q b) ≡ true → Leaves (retry_rule i q b)
  unfolding retry_rule retry_with answer_load
  retry-formed i e = go (load_value i (tried i q).address (tried i q).width q.stores b) refl
    where
      go : (o : Option ℕ) → load_value i (tried i q).address (tried i q).width q.stores b ≡ o → Leaves (retry_with i (tried i q) o q b)
      go none h = wf
      go (some v) h =
          either Leaves (leb i q.committed)
          (λ t. with-lines _ _ (answered-leaves q b p i e (tried-present i e (ap is_none h))) (use-line (line_of (tried i q).address) b p.fit g))
          (λ t. marks q b p i (leb-false i q.committed t))

  commit-formed : (k : ℕ) → passes (call_checks (commit k) q b) ≡ true → Leaves (commit_rule k q b)
  unfolding commit_rule
  commit-formed k e =
      let c = commit-checked q b k e in
      with-lines _ _ (commits q b p k c.0 c.1) (use-each (filter (uses_line_by k) q.loads) b p.fit g)

  abort-formed : (n : ℕ) → passes (call_checks (abort n) q b) ≡ true → Leaves (abort_rule n q b)
  unfolding abort_rule
  abort-formed n e = let c = abort-checked q b n e in
      squash-formed (forget_above n) n q b c.0 c.1
      (checkpoints-are _ _ _ (above-formed q.committed q.last n q.checkpoints (omega (arith, c.0)) (checkpoints-tell _ _ _ p.marks))) wf

  checkpoint-formed : (x : ℕ) → passes (call_checks (checkpoint x) q b) ≡ true → Leaves (checkpoint_rule x q b)
  unfolding checkpoint_rule
  checkpoint-formed x e = let c = checkpoint-checked q b x e in checkpoint-joins q b p x c.0 c.1

  restore-formed : (x : ℕ) → passes (call_checks (restore x) q b) ≡ true → Leaves (restore_rule x q b)
  unfolding restore_rule
  restore-formed x e = stands-formed x (number_of x q.checkpoints) (world q b) (in-force x q b wf (restore-checked q b x e))

  -- the oldest store, if it is ready, is a good access
  ready-access : store_ready q ≡ true → passes (access_checks b (oldest_store q).address (oldest_store q).width) ≡ true
  ready-access e = store_access b q.last (oldest_store q) (oldest-good q b p) (ready-tells q e).held

  -- a line that is wanted is requested
  requests : (a : ℕ) → present b (line_of a) ≡ false → 16 * line_of a < b.size → wanted_by q b (line_of a) ≡ true → well_formed (with_request (Line (line_of a)) q) b ≡ true
  unfolding store_ready
  requests a absent inside wanted = asks q b p (Line (line_of a)) (asks-line (line_of a) (with_request (Line (line_of a)) q) b absent inside wanted)

  idle-formed : Leaves (idle_rule q b)
  unfolding idle_rule
  idle-formed =
      either Leaves (can_drain q b)
      (λ e.
      with-lines _ _ (oldest-leaves q b p (and_right (store_ready q) _ e))
      (write_store_lem (oldest_store q) b p.fit g (fine b _ _ (ready-access (and_left _ _ e))).one_word))
      (λ e. either Leaves (can_request_load q b)
      (λ e₁.
      let l = lowest_wanting q b in
      let some-wants = and_right (is_free q.request) _ e₁ in
      let w = wants-tells b q.committed l (any-first (wants_line b q.committed) no_load q.loads some-wants) in
      let good = every_first _ (wants_line b q.committed) no_load q.loads (free-load-good b q.last q.committed q.stores) p.loads-good in
      requests l.address w.1 (line-inside b l.address l.width (load-access b q.last q.committed q.stores l good w.0.held))
      (or-one _ _ (first_any (wants_line b q.committed) (waits_for q.committed (line_of l.address)) no_load q.loads some-wants (for-is q.committed (line_of l.address) l w.0))))
      (λ e₁. either Leaves (can_request_store q b)
      (λ e₂.
      let s = oldest_store q in
      let needs = and_right (is_free q.request) _ e₂ in
      let back = and_left (not (writes_through b)) _ needs in
      let e₃ = and_right (not (writes_through b)) _ needs in
      let is-ready = and_left _ _ e₃ in
      requests s.address (not-true _ (and_right (store_ready q) _ e₃)) (line-inside b s.address s.width (ready-access is-ready))
      (or-two (any (waits_for q.committed (line_of s.address)) q.loads) _
      (and_both (not (writes_through b)) _ back (and_both _ _ is-ready (eq-eqb (line_of s.address) (line_of s.address) refl)))))
      (λ e₂. wf)))

  -- what a request tells
  pub request-absent : (l : ℕ) → good_request (Line l) q b ≡ true → (present b l ≡ false) × (16 * l < b.size)
  unfolding good_request request_absent request_inside
  request-absent l e =
      (not-true (present b l) (and_left _ _ e), ltb-true (16 * l) b.size (and_left _ _ (and_right (not (present b l)) _ e)))

  free-request : good_request Free (with_request Free q) b ≡ true
  unfolding good_request request_absent request_inside request_wanted
  free-request = refl

  reply-formed : passes (call_checks reply q b) ≡ true → Leaves (reply_rule q b)
  unfolding reply_rule
  reply-formed e = go q.request p.wanted (reply-checked q b e)
    where
      go : (r : Request) → good_request r q b ≡ true → is_free r ≡ false → well_formed (with_request Free q) (fill_line (requested_line r) b) ≡ true
      go Free h f = wrong refl f
      go (Line l) h f =
          let t = request-absent l h in
          let k = fill-line l b p.fit g t.0 t.1 in
          other-lines (with_request Free q) b (fill_line l b) (asks q b p Free free-request) k.shaped k.good
          (λ m n a. let z : ◌≡◌ {A = ℕ} 0 1 = cc in let no : ⊥ = omega arith in absurd no)

  flush-formed : Leaves (flush_rule q b)
  unfolding flush_rule
  flush-formed = with-lines q _ wf (save-all b p.fit g)

  pub rule-formed : (c : Call) → passes (call_checks c q b) ≡ true → Leaves (rule c q b)
  rule-formed (load a w) e = load-formed a w e
  rule-formed (store a w v) e = store-formed a w v e
  rule-formed (retry i) e = retry-formed i e
  rule-formed (commit k) e = commit-formed k e
  rule-formed (abort n) e = abort-formed n e
  rule-formed idle e = idle-formed
  rule-formed reply e = reply-formed e
  rule-formed flush e = flush-formed
  rule-formed (show a) e = unfold show_rule in wf
  rule-formed (checkpoint x) e = checkpoint-formed x e
  rule-formed (restore x) e = restore-formed x e
  rule-formed preview e = unfold preview_rule in wf

-- ---- a call, and a run

pub next-kept : (c : Call) (w : World) → NextKept c w
unfolding next
next-kept c w f =
    outcome-by c w.queues w.hierarchy Leaves (λ k. f) (λ fit wf e. rule-formed w.queues w.hierarchy wf c e)

pub run-kept : (run : List Call) (w : World) → RunKept run w
unfolding after
run-kept [] w f = f
run-kept (c ∷ cs) w f = run-kept cs (next c w) (next-kept c w f)

-- ---- a start

-- an accepted start
pub start-allowed : (f : Figures) (cache memory : List ℕ) → start_answer f cache memory ≡ ready → start_allowed f cache memory ≡ true
unfolding start_answer
start-allowed f cache memory e =
    cases (start_allowed f cache memory) (λ t. t)
    (λ t. let r : start_refused 1 ≡ ready = rw t at e in let z : ◌≡◌ {A = ℕ} 0 1 = cc in let no : ⊥ = omega arith in absurd no)

pub start-leaves : (f : Figures) (cache memory : List ℕ) → start_answer f cache memory ≡ ready → start_world f cache memory ≡ started f memory
unfolding start_world
start-leaves f cache memory e = rw (start-allowed f cache memory e)

start-checkpoints : checkpoints_formed 0 0 (replicate 8 no_checkpoint) ≡ true
unfolding checkpoints_formed every any free_last climbing free_checkpoint_zero placed_at name_fits names_distinct ranks_from
start-checkpoints = refl

pub start-formed : (f : Figures) (cache memory : List ℕ) → StartFormed f cache memory
start-formed f cache memory e =
    rw (start-leaves f cache memory e)
    (whole _ _ (unfold started rising every good_store good_load free_store_zero free_load_zero store_passes load_passes committed_wait_at waiting_uncovered_at forwarded_answered_at alone good_request request_absent request_inside request_wanted in (record {
      fit = start_fits f cache memory (start-allowed f cache memory e);
      lines = good-is _ (start-good f cache memory (start-allowed f cache memory e));
      store-places = refl;
      load-places = refl;
      last_fits = omega arith;
      order = omega arith;
      stores-rise = refl;
      loads-rise = refl;
      stores-good = refl;
      loads-good = refl;
      apart = refl;
      wanted = refl;
      marks = start-checkpoints;
    })))

-- ---- neither 1 nor 10

-- neither check 1 nor check 10 has the number
abbrev own_number : ℕ → Bool
own_number k = not (eqb k 1) && not (eqb k 10)

own-numbers : (c : Call) (q : Queues) (b : Hierarchy) → every (λ k. own_number k.number) (own_checks c q b) ≡ true
unfolding every
own-numbers (load a w) q b = refl
own-numbers (store a w v) q b = refl
own-numbers (retry i) q b = refl
own-numbers (commit k) q b = refl
own-numbers (abort n) q b = refl
own-numbers idle q b = refl
own-numbers reply q b = refl
own-numbers flush q b = refl
own-numbers (show a) q b = refl
own-numbers (checkpoint x) q b = refl
own-numbers (restore x) q b = refl
own-numbers preview q b = refl

pub admitted : (c : Call) (w : World) → Formed w → Admitted c w
unfolding answer
admitted c w f = record {
  own = is-own;
  not-1 = λ e. let no : true ≡ false = sym (only 1 e) in let z : ◌≡◌ {A = ℕ} 0 1 = cc in omega arith;
  not-10 = λ e. let no : true ≡ false = sym (only 10 e) in let z : ◌≡◌ {A = ℕ} 0 1 = cc in omega arith;
}
  where
    is-own : outcome c w.queues w.hierarchy ≡ own_outcome c w
    is-own = opened-by c w.queues w.hierarchy (parts w.queues w.hierarchy f).fit f

    only : (j : ℕ) → (outcome c w.queues w.hierarchy).answer ≡ refused j → own_number j ≡ true
    only j =
        subst (λ (o : Outcome). o.answer ≡ refused j → own_number j ≡ true) (sym is-own)
        (guarded-numbered (λ k. unchanged (refusal c k) w.queues w.hierarchy) (λ o. o.answer ≡ refused j → own_number j ≡ true) own_number
        (own_checks c w.queues w.hierarchy) (rule c w.queues w.hierarchy) (own-numbers c w.queues w.hierarchy)
        (λ k t e. subst (λ (i : ℕ). own_number i ≡ true) (refusal-number c k j e) t)
        (λ e. wrong (rule-accepts w.queues w.hierarchy c) (ap is_accepted e)))

pub admitted-after-start : (f : Figures) (cache memory : List ℕ) → AdmittedAfterStart f cache memory
admitted-after-start f cache memory e run before c later s =
    admitted c (after before (start_world f cache memory))
    (run-kept before (start_world f cache memory) (start-formed f cache memory e))

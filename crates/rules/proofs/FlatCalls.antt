-- What each accepted call does to the held stores and to flat memory of the state: what is drained is applied, a store comes last, an
-- abort drops the young ones, and nothing else changes.
use Prim.Native.Nat.{ℕ, ◌+◌, ◌-◌, ◌<◌}
use mathlib.Core.Path.{◌≡◌, refl, sym, ◌∙◌, ap}
use mathlib.Core.Bool.{Bool, true, false, not, ◌&&◌, ◌||◌, false≢true}
use mathlib.Core.List.{List, [], ◌∷◌, ◌++◌}
use mathlib.Core.Option.{Option, some, none}
use native.Mathlib.Omega.{arith}
use lib.Dec.{ltb, leb, eqb}
use borrow.Author.Tests.{ltb-true, ltb-false, eqb-false, lt-ltb, le-leb, lt-leb, ne_eqb, not-true, not-false}
use Rattle.lists.specs.Padded.{every, first, filter}
use Rattle.lists.proofs.Cond.{either, cases, and_left, and_right, or-two, or-by, wrong}
use Rattle.lists.proofs.Every.{every-all, every-imp₂, every-both, every-head}
use Rattle.lists.proofs.Some.{any-every}
use Rattle.lists.proofs.Selected.{used-placed, used-first, used-swept, filter_same}
use Rattle.rules.specs.declared.StoreEntry.{StoreEntry}
use Rattle.rules.specs.declared.LoadEntry.{LoadEntry}
use Rattle.rules.specs.declared.Checkpoint.{Checkpoint}
use Rattle.rules.specs.declared.Request.{Request}
use Rattle.rules.specs.declared.Request.TheVariants.{Free, Line}
use Rattle.rules.specs.Shape.{Queues, Hierarchy, World, world, no_store, no_load, is_free_load, is_free, requested_line, line_of}
use Rattle.rules.specs.Lines.{fill_line}
use Rattle.rules.specs.Forward.{load_value}
use Rattle.rules.specs.Checkpoints.{number_of, forget_above, forget_from}
use Rattle.rules.specs.Calls.{Call, Answer, Outcome, load, store, retry, commit, abort, idle, reply, flush, show, checkpoint, restore, preview, is_accepted, passes, call_checks, waiting_at, next_number, load_rule, store_rule, answer_load, retry_with, retry_rule, uses_line_by, commit_rule, squash, abort_rule, checkpoint_rule, restore_rule, waits_below, oldest_store, store_ready, can_drain, drain_oldest, can_request_load, can_request_store, idle_rule, reply_rule, flush_rule, show_rule, rule, preview_rule}
use Rattle.rules.specs.WellFormed.{alone, well_formed}
use Rattle.rules.specs.Runs.{refusal, outcome, answer, next}
use Rattle.rules.specs.Flat.{number_in, flat_of, applied_all, held_store, below, up_to}
use Rattle.rules.specs.Values.{FlatCall}
use Rattle.rules.proofs.Checks.{refusal-by, outcome-by}
use Rattle.rules.proofs.QueueView.{Parts, parts, good_load, good_request, free-load}
use Rattle.rules.proofs.Entries.{Ready, store-checked, reply-checked, fine, store_access, ready-tells, alone-tells, restore-checked}
use Rattle.rules.proofs.InForce.{in-force, stands-behind}
use Rattle.rules.proofs.QueuesKept.{oldest-good}
use Rattle.rules.proofs.Kept.{request-absent}
use Rattle.rules.proofs.Stored.{all_append, flat-use, flat-use-each, flat-write, flat-fill, flat_back}

-- ---- what a call moves

-- the stores after an accepted call that answers r, of those before it; a new one has number i
abbrev pub stores_after : Call → Answer → ℕ → List StoreEntry → List StoreEntry
stores_after (load a w) r i ss = ss
stores_after (store a w v) r i ss = ss ++ record { number = i; address = a; width = w; value = v } ∷ []
stores_after (retry j) r i ss = ss
stores_after (commit k) r i ss = ss
stores_after (abort n) r i ss = filter (below n) ss
stores_after idle r i ss = ss
stores_after reply r i ss = ss
stores_after flush r i ss = ss
stores_after (show a) r i ss = ss
stores_after (checkpoint x) r i ss = ss
stores_after (restore x) r i ss = filter (below (number_in r + 1)) ss
stores_after preview r i ss = ss

-- the load does not wait, or is younger than each of the stores
abbrev pub clear : List StoreEntry → LoadEntry → Bool
clear ss l = not l.waiting || every (below l.number) ss

abbrev held : Queues → List StoreEntry
held q = filter held_store q.stores

pub record Moved (c : Call) (q : Queues) (b : Hierarchy) (o : Outcome) : Type 0 where
  -- the stores that went into their lines
  pub drained : List StoreEntry
  pub parted : stores_after c o.answer (next_number q) (held q) ≡ drained ++ held o.queues
  pub flat : flat_of o.hierarchy ≡ applied_all drained (flat_of b)
  -- they were committed, and no load waits that is not younger
  pub settled : every (up_to q.committed) drained ≡ true
  pub ahead : every (clear drained) q.loads ≡ true

-- ---- each rule

not-leb : (m n : ℕ) → not (leb n m) ≡ ltb m n
not-leb m n =
    cases (ltb m n) (λ e. rw (e, lt-leb n m (ltb-true m n e))) (λ e. rw (e, le-leb n m (ltb-false m n e)))

-- an abort leaves the held stores numbered below n
squash-held : (forget : List Checkpoint → List Checkpoint) (n : ℕ) (q : Queues) → held (squash forget n q) ≡ filter (below n) (held q)
unfolding squash
squash-held forget n q =
    used-swept (λ (s : StoreEntry). s.number) (λ (s : StoreEntry). leb n s.number) no_store refl q.stores
    ∙ filter_same (λ (s : StoreEntry). not (leb n s.number)) (below n) (λ s. not-leb s.number n) (held q)

module _ (q : Queues) (b : Hierarchy) (wf : well_formed q b ≡ true) where
  p : Parts q b
  p = parts q b wf

  -- nothing is drained
  unmoved : (c : Call) (o : Outcome) → stores_after c o.answer (next_number q) (held q) ≡ held o.queues → flat_of o.hierarchy ≡ flat_of b → Moved c q b o
  unfolding every applied_all
  unmoved c o e f =
      record { drained = []; parted = e; flat = f; settled = refl; ahead = every-all (clear []) (λ l. or-two (not l.waiting) true refl) q.loads }

  store-moved : (a w v : ℕ) → passes (call_checks (store a w v) q b) ≡ true → Moved (store a w v) q b (store_rule a w v q b)
  unfolding store_rule
  store-moved a w v e =
      unmoved (store a w v) _
      (sym (used-placed (λ (s : StoreEntry). s.number) _ (ap not (ne_eqb (next_number q) 0 (λ z. omega arith))) 0 q.stores p.stores-rise (store-checked q b a w v e).place))
      refl

  retry-moved : (i : ℕ) (l : LoadEntry) (v : Option ℕ) → Moved (retry i) q b (retry_with i l v q b)
  unfolding retry_with answer_load
  retry-moved i l none = unmoved (retry i) _ refl refl
  retry-moved i l (some v) =
      either (Moved (retry i) q b) (leb i q.committed) (λ e. unmoved (retry i) _ refl (flat-use (line_of l.address) b))
      (λ e. unmoved (retry i) _ refl refl)

  abort-moved : (n : ℕ) → Moved (abort n) q b (abort_rule n q b)
  unfolding abort_rule
  abort-moved n = unmoved (abort n) _ (sym (squash-held (forget_above n) n q)) refl

  -- the answer names the mark's number less one
  restore-moved : (x : ℕ) → passes (call_checks (restore x) q b) ≡ true → Moved (restore x) q b (restore_rule x q b)
  unfolding restore_rule
  restore-moved x e =
      let n = number_of x q.checkpoints in
      let same : n - 1 + 1 ≡ n = omega (arith, stands-behind x n (world q b) (in-force x q b wf (restore-checked q b x e))) in
      unmoved (restore x) _ (ap (λ (i : ℕ). filter (below i) (held q)) same ∙ sym (squash-held (forget_from x) n q)) refl

  -- a waiting load is younger than the store to be drained
  younger :
      Ready q → (l : LoadEntry) → good_load b q.last q.committed q.stores l ≡ true → not (waits_below (oldest_store q).number l) ≡ true
      → not (eqb l.number (oldest_store q).number) ≡ true → l.waiting ≡ true → (oldest_store q).number < l.number
  unfolding waits_below
  younger r l g n e w =
      cases (is_free_load l) (λ f. wrong w (ap (λ (x : LoadEntry). x.waiting) (free-load b q.last q.committed q.stores l g f)))
      (λ f.
      let n₁ : (ltb l.number (oldest_store q).number && true) ≡ false = not-true _ (rw (f, w) at n) in
      let n₂ : ltb l.number (oldest_store q).number ≡ false = cases (ltb l.number (oldest_store q).number) (λ t. wrong refl (rw t at n₁)) (λ t. t) in
      omega (arith, ltb-false l.number (oldest_store q).number n₂, eqb-false l.number (oldest_store q).number (not-true _ e)))

  oldest-behind : Ready q → every (clear (oldest_store q ∷ [])) q.loads ≡ true
  unfolding every
  oldest-behind r =
      every-imp₂ (good_load b q.last q.committed q.stores) (λ l. not (waits_below (oldest_store q).number l) && not (eqb l.number (oldest_store q).number)) (clear (oldest_store q ∷ []))
      (λ l g e. or-by (not l.waiting) _ (λ w.
      rw (lt-ltb (oldest_store q).number l.number (younger r l g (and_left _ _ e) (and_right (not (waits_below (oldest_store q).number l)) _ e) (not-false _ w)))))
      q.loads p.loads-good
      (every-both (λ l. not (waits_below (oldest_store q).number l)) (λ l. not (eqb l.number (oldest_store q).number)) q.loads
      (any-every (waits_below (oldest_store q).number) q.loads r.first)
      (any-every (λ l. eqb l.number (oldest_store q).number) q.loads (alone-tells q.loads (oldest_store q) oldest-alone r.held)))
    where
      oldest-alone : alone q.loads (oldest_store q) ≡ true
      oldest-alone = every-head (alone q.loads) no_store q.stores (unfold alone in refl) p.apart

  drain-moved : can_drain q b ≡ true → Moved idle q b (drain_oldest q b)
  unfolding every applied_all
  drain-moved e =
      let r = ready-tells q (and_left _ _ e) in
      let s = oldest_store q in
      record {
        drained = s ∷ [];
        parted = used-first (λ (t : StoreEntry). t.number) no_store refl q.stores (ap not r.held);
        flat =
            flat-write b p.fit p.lines s (and_right (store_ready q) _ e)
            (fine b s.address s.width (store_access b q.last s (oldest-good q b p) r.held)).one_word;
        settled = rw (le-leb s.number q.committed r.low);
        ahead = oldest-behind r;
      }

  idle-moved : Moved idle q b (idle_rule q b)
  unfolding idle_rule
  idle-moved =
      either (Moved idle q b) (can_drain q b) (λ e. drain-moved e)
      (λ e. either (Moved idle q b) (can_request_load q b) (λ e. unmoved idle _ refl refl)
      (λ e. either (Moved idle q b) (can_request_store q b) (λ e. unmoved idle _ refl refl) (λ e. unmoved idle _ refl refl)))

  reply-moved : passes (call_checks reply q b) ≡ true → Moved reply q b (reply_rule q b)
  unfolding reply_rule
  reply-moved e = unmoved reply _ refl (go q.request p.wanted (reply-checked q b e))
    where
      go : (r : Request) → good_request r q b ≡ true → is_free r ≡ false → flat_of (fill_line (requested_line r) b) ≡ flat_of b
      go Free h f = wrong refl f
      go (Line l) h f = let t = request-absent q b wf l h in flat-fill b p.fit p.lines l t.0 t.1

  pub rule_moved : (c : Call) → passes (call_checks c q b) ≡ true → Moved c q b (rule c q b)
  unfolding load_rule retry_rule commit_rule flush_rule show_rule preview_rule checkpoint_rule
  rule_moved (load a w) e = unmoved (load a w) _ refl refl
  rule_moved (store a w v) e = store-moved a w v e
  rule_moved (retry i) e =
      let l = first (waiting_at i) no_load q.loads in
      retry-moved i l (load_value i l.address l.width q.stores b)
  rule_moved (commit k) e = unmoved (commit k) _ refl (flat-use-each (filter (uses_line_by k) q.loads) b)
  rule_moved (abort n) e = abort-moved n
  rule_moved idle e = idle-moved
  rule_moved reply e = reply-moved e
  rule_moved flush e = unmoved flush _ refl (flat_back b p.fit p.lines)
  rule_moved (show a) e = unmoved (show a) _ refl refl
  rule_moved (checkpoint x) e = unmoved (checkpoint x) _ refl refl
  rule_moved (restore x) e = restore-moved x e
  rule_moved preview e = unmoved preview _ refl refl

-- ---- flat memory with the held stores on top

-- of an outcome
abbrev on_top : Outcome → List ℕ
on_top o = applied_all (held o.queues) (flat_of o.hierarchy)

-- what an accepted call leaves on top
top-moved : (c : Call) (q : Queues) (b : Hierarchy) (o : Outcome) → Moved c q b o → on_top o ≡ applied_all (stores_after c o.answer (next_number q) (held q)) (flat_of b)
top-moved c q b o m =
    ap (applied_all (held o.queues)) m.flat
    ∙ sym (all_append m.drained (held o.queues) (flat_of b))
    ∙ ap (λ (ss : List StoreEntry). applied_all ss (flat_of b)) (sym m.parted)

-- a refusal that answers as if it were accepted (show line's) leaves the stores
pub refused-stores : (c : Call) (k i : ℕ) (ss : List StoreEntry) → is_accepted (refusal c k) ≡ true → stores_after c (refusal c k) i ss ≡ ss
refused-stores c k i ss = refusal-by (λ c r. is_accepted r ≡ true → stores_after c r i ss ≡ ss) (λ c k e. absurd (false≢true e)) (λ a e. refl) c k

module _ (q : Queues) (b : Hierarchy) where
  abbrev Accepted : Outcome → Type 0
  Accepted o = is_accepted o.answer ≡ true

  top-outcome : (c : Call) → Accepted (outcome c q b) → on_top (outcome c q b) ≡ applied_all (stores_after c (outcome c q b).answer (next_number q) (held q)) (flat_of b)
  top-outcome c =
      outcome-by c q b (λ o. Accepted o → on_top o ≡ applied_all (stores_after c o.answer (next_number q) (held q)) (flat_of b))
      (λ k e. ap (λ (ss : List StoreEntry). applied_all ss (flat_of b)) (sym (refused-stores c k (next_number q) (held q) e)))
      (λ fit wf e f. top-moved c q b (rule c q b) (rule_moved q b wf c e))

  abort-outcome :
      (n : ℕ) → Accepted (outcome (abort n) q b)
      → (flat_of (outcome (abort n) q b).hierarchy ≡ flat_of b) × (held (outcome (abort n) q b).queues ≡ filter (below n) (held q))
  unfolding abort_rule
  abort-outcome n =
      outcome-by (abort n) q b (λ o. Accepted o → (flat_of o.hierarchy ≡ flat_of b) × (held o.queues ≡ filter (below n) (held q)))
      (λ k e. absurd (false≢true e)) (λ fit wf e f. (refl, squash-held (forget_above n) n q))

  restore-outcome :
      (x : ℕ) → Accepted (outcome (restore x) q b)
      → (flat_of (outcome (restore x) q b).hierarchy ≡ flat_of b) × (held (outcome (restore x) q b).queues ≡ filter (below (number_of x q.checkpoints)) (held q))
  unfolding restore_rule
  restore-outcome x =
      outcome-by (restore x) q b (λ o. Accepted o → (flat_of o.hierarchy ≡ flat_of b) × (held o.queues ≡ filter (below (number_of x q.checkpoints)) (held q)))
      (λ k e. absurd (false≢true e)) (λ fit wf e f. (refl, squash-held (forget_from x) (number_of x q.checkpoints) q))

pub flat-call : (c : Call) (w : World) → FlatCall c w
unfolding next answer applied_all
flat-call (load a n) w e = top-outcome w.queues w.hierarchy (load a n) e
flat-call (store a n v) w e = top-outcome w.queues w.hierarchy (store a n v) e ∙ all_append (held w.queues) _ (flat_of w.hierarchy)
flat-call (retry i) w e = top-outcome w.queues w.hierarchy (retry i) e
flat-call (commit k) w e = top-outcome w.queues w.hierarchy (commit k) e
flat-call (abort n) w e = abort-outcome w.queues w.hierarchy n e
flat-call idle w e = top-outcome w.queues w.hierarchy idle e
flat-call reply w e = top-outcome w.queues w.hierarchy reply e
flat-call flush w e = top-outcome w.queues w.hierarchy flush e
flat-call (show a) w e = top-outcome w.queues w.hierarchy (show a) e
flat-call (checkpoint x) w e = top-outcome w.queues w.hierarchy (checkpoint x) e
flat-call (restore x) w e = restore-outcome w.queues w.hierarchy x e
flat-call preview w e = top-outcome w.queues w.hierarchy preview e

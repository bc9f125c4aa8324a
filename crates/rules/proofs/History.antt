-- The invariant of a run: its history is the stores that were drained, and then the held ones; flat memory of the state is memory as
-- found with the drained ones applied; the listed loads are those of the history. Every call keeps it.
use Prim.Native.Nat.{ℕ, ◌+◌, ◌-◌, ◌≤◌, ◌<◌}
use mathlib.Core.Path.{◌≡◌, refl, sym, ◌∙◌, ap}
use mathlib.Core.Bool.{Bool, true, not, ◌&&◌, ◌||◌}
use mathlib.Core.List.{List, [], ◌∷◌, ◌++◌, append_assoc}
use mathlib.Core.Option.{Option, some, none}
use native.Mathlib.Omega.{arith}
use lib.Dec.{leb, eqb}
use borrow.Author.Tests.{ltb-true, leb-true, lt-ltb, le-leb, eq-eqb, ne_eqb}
use Rattle.lists.specs.Padded.{every, first, filter, increasing}
use Rattle.lists.proofs.Cond.{either, or-two, or-then, or-by}
use Rattle.lists.proofs.Every.{every-all, every-imp, every-imp₂, every_append, every-snoc, every-filter, every-chosen, every-placed, every-without, every-changed}
use Rattle.lists.proofs.Rising.{increase-snoc, increase-filter, rising-increases, rising-found}
use Rattle.lists.proofs.Selected.{filter-append, filter-all}
use Rattle.rules.specs.declared.Figures.{Figures}
use Rattle.rules.specs.declared.StoreEntry.{StoreEntry}
use Rattle.rules.specs.declared.LoadEntry.{LoadEntry}
use Rattle.rules.specs.declared.Lookup.{Lookup}
use Rattle.rules.specs.Shape.{Queues, Hierarchy, World, world, no_load, is_free_load, line_of}
use Rattle.rules.specs.Lines.{lookup}
use Rattle.rules.specs.Forward.{load_value}
use Rattle.rules.specs.Checkpoints.{number_of}
use Rattle.rules.specs.Calls.{Call, Answer, Outcome, load, store, retry, commit, abort, idle, reply, flush, show, checkpoint, restore, preview, is_accepted, passes, call_checks, waiting_at, next_number, load_answer, answered, load_rule, store_rule, answer_load, retry_with, retry_rule, answered_by, commit_rule, squash, abort_rule, checkpoint_rule, restore_rule, can_drain, can_request_load, can_request_store, idle_rule, reply_rule, flush_rule, show_rule, rule, preview_rule}
use Rattle.rules.specs.WellFormed.{well_formed}
use Rattle.rules.specs.Runs.{refusal, answer, next, answers, after, started}
use Rattle.rules.specs.Numbers.{number_after}
use Rattle.rules.specs.Flat.{History, no_history, number_in, below, up_to, added, noted, history, history_of, load_of, flat_of, applied_all, held_store}
use Rattle.rules.specs.Kept.{Formed}
use Rattle.rules.specs.Values.{history_at}
use Rattle.rules.proofs.Checks.{refusal-by, outcome-by, either-word, rule-accepts}
use Rattle.rules.proofs.Numbers.{rule-number}
use Rattle.rules.proofs.QueueView.{Parts, parts, good_load, store_given, load_low}
use Rattle.rules.proofs.Entries.{commit-checked, abort-checked, restore-checked}
use Rattle.rules.proofs.InForce.{in-force, stands-behind}
use Rattle.rules.proofs.Stored.{all_append, flat_start}
use Rattle.rules.proofs.FlatCalls.{stores_after, clear, Moved, rule_moved}

-- ---- the invariant

-- both ask for the same bytes under the same number
abbrev pub same_load : LoadEntry → LoadEntry → Bool
same_load x y = eqb x.number y.number && (eqb x.address y.address && eqb x.width y.width)

-- the history's load of that number is the listed one
abbrev pub remembered : History → LoadEntry → Bool
remembered h l = is_free_load l || same_load (load_of l.number h) l

pub record Traced (found : List ℕ) (h : History) (q : Queues) (b : Hierarchy) : Type 0 where
  -- the drained stores
  pub gone : List StoreEntry
  pub parted : h.stores ≡ gone ++ filter held_store q.stores
  pub flat : flat_of b ≡ applied_all gone found
  -- they are committed, and each waiting load is younger
  pub settled : every (up_to q.committed) gone ≡ true
  pub ahead : every (clear gone) q.loads ≡ true
  pub marked : h.committed ≡ q.committed
  pub listed : every (remembered h) q.loads ≡ true
  pub bounded : every (up_to q.last) h.stores ≡ true
  pub ordered : increasing (λ s. s.number) 0 h.stores ≡ true

pub same_refl : (l : LoadEntry) → same_load l l ≡ true
same_refl l = rw (eq-eqb l.number l.number refl, eq-eqb l.address l.address refl) (eq-eqb l.width l.width refl)

up-weaken : (m n : ℕ) → m ≤ n → (ss : List StoreEntry) → every (up_to m) ss ≡ true → every (up_to n) ss ≡ true
up-weaken m n h = every-imp (up_to m) (up_to n) (λ s e. le-leb s.number n (omega (arith, leb-true s.number m e)))

pub up-below : (m i : ℕ) → m < i → (ss : List StoreEntry) → every (up_to m) ss ≡ true → every (below i) ss ≡ true
up-below m i h = every-imp (up_to m) (below i) (λ s e. lt-ltb s.number i (omega (arith, leb-true s.number m e)))

-- ---- what each rule does to the parts

module _ (q : Queues) (b : Hierarchy) where
  -- the history's stores
  rule-stores : (h : History) (c : Call) → (added c (rule c q b).answer h).stores ≡ stores_after c (rule c q b).answer (next_number q) h.stores
  unfolding added store_rule
  rule-stores h (load a w) = refl
  rule-stores h (store a w v) = refl
  rule-stores h (retry i) = refl
  rule-stores h (commit k) = refl
  rule-stores h (abort n) = refl
  rule-stores h idle = refl
  rule-stores h reply = refl
  rule-stores h flush = refl
  rule-stores h (show a) = refl
  rule-stores h (checkpoint x) = refl
  rule-stores h (restore x) = refl
  rule-stores h preview = refl

  -- of the drained stores and the held ones, the held ones change
  stores-parted :
      well_formed q b ≡ true → (c : Call) → passes (call_checks c q b) ≡ true → (ss ts : List StoreEntry) → every (up_to q.committed) ss ≡ true
      → stores_after c (rule c q b).answer (next_number q) (ss ++ ts) ≡ ss ++ stores_after c (rule c q b).answer (next_number q) ts
  unfolding restore_rule
  stores-parted wf (load a w) e ss ts s = refl
  stores-parted wf (store a w v) e ss ts s = append_assoc ss ts _
  stores-parted wf (retry i) e ss ts s = refl
  stores-parted wf (commit k) e ss ts s = refl
  stores-parted wf (abort n) e ss ts s =
      filter-append (below n) ss ts
      ∙ ap (λ (r : List StoreEntry). r ++ filter (below n) ts) (filter-all (below n) ss (up-below q.committed n (abort-checked q b n e).0 ss s))
  stores-parted wf idle e ss ts s = refl
  stores-parted wf reply e ss ts s = refl
  stores-parted wf flush e ss ts s = refl
  stores-parted wf (show a) e ss ts s = refl
  stores-parted wf (checkpoint x) e ss ts s = refl
  stores-parted wf (restore x) e ss ts s =
      let n = number_of x q.checkpoints in
      let behind = stands-behind x n (world q b) (in-force x q b wf (restore-checked q b x e)) in
      filter-append (below (n - 1 + 1)) ss ts
      ∙ ap (λ (r : List StoreEntry). r ++ filter (below (n - 1 + 1)) ts) (filter-all (below (n - 1 + 1)) ss (up-below q.committed (n - 1 + 1) (omega (arith, behind)) ss s))
  stores-parted wf preview e ss ts s = refl

  -- the last number
  stores-bounded :
      (c : Call) (r : Answer) (m : ℕ) → m + 1 ≡ number_after c r (next_number q) → (ss : List StoreEntry) → every (up_to q.last) ss ≡ true
      → every (up_to m) (stores_after c r (next_number q) ss) ≡ true
  stores-bounded (load a w) r m e ss s = up-weaken q.last m (omega arith) ss s
  stores-bounded (store a w v) r m e ss s =
      every-snoc (up_to m) _ ss (le-leb (next_number q) m (omega arith)) (up-weaken q.last m (omega arith) ss s)
  stores-bounded (retry i) r m e ss s = up-weaken q.last m (omega arith) ss s
  stores-bounded (commit k) r m e ss s = up-weaken q.last m (omega arith) ss s
  stores-bounded (abort n) r m e ss s =
      every-filter (below n) (up_to m) (λ x t. le-leb x.number m (omega (arith, ltb-true x.number n t))) ss
  stores-bounded idle r m e ss s = up-weaken q.last m (omega arith) ss s
  stores-bounded reply r m e ss s = up-weaken q.last m (omega arith) ss s
  stores-bounded flush r m e ss s = up-weaken q.last m (omega arith) ss s
  stores-bounded (show a) r m e ss s = up-weaken q.last m (omega arith) ss s
  stores-bounded (checkpoint x) r m e ss s = up-weaken q.last m (omega arith) ss s
  stores-bounded (restore x) r m e ss s =
      every-filter (below (number_in r + 1)) (up_to m) (λ y t. le-leb y.number m (omega (arith, ltb-true y.number (number_in r + 1) t))) ss
  stores-bounded preview r m e ss s = up-weaken q.last m (omega arith) ss s

  stores-ordered :
      (c : Call) (r : Answer) (ss : List StoreEntry) → every (up_to q.last) ss ≡ true → increasing (λ s. s.number) 0 ss ≡ true
      → increasing (λ s. s.number) 0 (stores_after c r (next_number q) ss) ≡ true
  stores-ordered (load a w) r ss s g = g
  stores-ordered (store a w v) r ss s g = increase-snoc (λ s. s.number) _ q.last (omega arith) 0 ss (omega arith) s g
  stores-ordered (retry i) r ss s g = g
  stores-ordered (commit k) r ss s g = g
  stores-ordered (abort n) r ss s g = increase-filter (λ s. s.number) (below n) 0 ss g
  stores-ordered idle r ss s g = g
  stores-ordered reply r ss s g = g
  stores-ordered flush r ss s g = g
  stores-ordered (show a) r ss s g = g
  stores-ordered (checkpoint x) r ss s g = g
  stores-ordered (restore x) r ss s g = increase-filter (λ s. s.number) (below (number_in r + 1)) 0 ss g
  stores-ordered preview r ss s g = g

  -- h does not fall, and is the history's
  record Marked (h : History) (c : Call) (o : Outcome) : Type 0 where
    rises : q.committed ≤ o.queues.committed
    marks : (added c o.answer h).committed ≡ o.queues.committed

  retry-marked : (h : History) → h.committed ≡ q.committed → (i : ℕ) (l : LoadEntry) (v : Option ℕ) → Marked h (retry i) (retry_with i l v q b)
  unfolding added retry_with answer_load
  retry-marked h e i l none = record { rises = omega arith; marks = e }
  retry-marked h e i l (some v) =
      either (Marked h (retry i)) (leb i q.committed) (λ t. record { rises = omega arith; marks = e }) (λ t. record { rises = omega arith; marks = e })

  rule-marked : (h : History) → h.committed ≡ q.committed → (c : Call) → passes (call_checks c q b) ≡ true → Marked h c (rule c q b)
  unfolding added load_rule store_rule retry_rule commit_rule abort_rule squash checkpoint_rule restore_rule idle_rule reply_rule flush_rule show_rule preview_rule
  rule-marked h e (load a w) p = record { rises = omega arith; marks = e }
  rule-marked h e (store a w v) p = record { rises = omega arith; marks = e }
  rule-marked h e (retry i) p =
      let l = first (waiting_at i) no_load q.loads in
      retry-marked h e i l (load_value i l.address l.width q.stores b)
  rule-marked h e (commit k) p = record { rises = (commit-checked q b k p).0; marks = refl }
  rule-marked h e (abort n) p = record { rises = omega arith; marks = e }
  rule-marked h e idle p =
      either (Marked h idle) (can_drain q b) (λ t. record { rises = omega arith; marks = e })
      (λ t. either (Marked h idle) (can_request_load q b) (λ t. record { rises = omega arith; marks = e })
      (λ t. either (Marked h idle) (can_request_store q b) (λ t. record { rises = omega arith; marks = e }) (λ t. record { rises = omega arith; marks = e })))
  rule-marked h e reply p = record { rises = omega arith; marks = e }
  rule-marked h e flush p = record { rises = omega arith; marks = e }
  rule-marked h e (show a) p = record { rises = omega arith; marks = e }
  rule-marked h e (checkpoint x) p = record { rises = omega arith; marks = e }
  rule-marked h e (restore x) p = record { rises = omega arith; marks = e }
  rule-marked h e preview p = record { rises = omega arith; marks = e }

  -- ---- the loads

  -- the new load passes the test, if the call is a load
  abbrev pub Joins : Call → (LoadEntry → Bool) → Type 0
  Joins (load a w) r = (t f : Bool) → r (record { number = next_number q; address = a; width = w; waiting = t; forwarded = f }) ≡ true
  Joins (store a w v) r = Unit {0}
  Joins (retry i) r = Unit {0}
  Joins (commit k) r = Unit {0}
  Joins (abort n) r = Unit {0}
  Joins idle r = Unit {0}
  Joins reply r = Unit {0}
  Joins flush r = Unit {0}
  Joins (show a) r = Unit {0}
  Joins (checkpoint x) r = Unit {0}
  Joins (restore x) r = Unit {0}
  Joins preview r = Unit {0}

  -- a test that free places pass, and loads that are marked answered
  module _ (r : LoadEntry → Bool) (free : r no_load ≡ true) (marks : (l : LoadEntry) → r l ≡ true → r (answered l) ≡ true) where
    abbrev Passes : Outcome → Type 0
    Passes o = every r o.queues.loads ≡ true

    retry-loads : (i : ℕ) (l : LoadEntry) (v : Option ℕ) → every r q.loads ≡ true → Passes (retry_with i l v q b)
    unfolding retry_with answer_load
    retry-loads i l none g = g
    retry-loads i l (some v) g =
        either Passes (leb i q.committed) (λ e. every-without r r (waiting_at i) no_load free (λ x u t. u) q.loads g)
        (λ e. every-changed r r (waiting_at i) answered (λ x u t. marks x u) (λ x u t. u) q.loads g)

    pub rule-loads : (c : Call) → Joins c r → every r q.loads ≡ true → Passes (rule c q b)
    unfolding load_rule store_rule retry_rule commit_rule abort_rule squash checkpoint_rule restore_rule idle_rule reply_rule flush_rule show_rule preview_rule
    rule-loads (load a w) j g = every-placed r is_free_load _ q.loads (j _ _) g
    rule-loads (store a w v) j g = g
    rule-loads (retry i) j g =
        let l = first (waiting_at i) no_load q.loads in
        retry-loads i l (load_value i l.address l.width q.stores b) g
    rule-loads (commit k) j g = every-without r r (answered_by k) no_load free (λ x u t. u) q.loads g
    rule-loads (abort n) j g = every-changed r r (λ l. leb n l.number) (λ l. no_load) (λ x u t. free) (λ x u t. u) q.loads g
    rule-loads idle j g =
        either Passes (can_drain q b) (λ t. g)
        (λ t. either Passes (can_request_load q b) (λ t. g) (λ t. either Passes (can_request_store q b) (λ t. g) (λ t. g)))
    rule-loads reply j g = g
    rule-loads flush j g = g
    rule-loads (show a) j g = g
    rule-loads (checkpoint x) j g = g
    rule-loads (restore x) j g =
        every-changed r r (λ l. leb (number_of x q.checkpoints) l.number) (λ l. no_load) (λ y u t. free) (λ y u t. u) q.loads g
    rule-loads preview j g = g

  -- each new load is younger than the drained stores
  clear-joins : (c : Call) (ss : List StoreEntry) → every (below (next_number q)) ss ≡ true → Joins c (clear ss)
  clear-joins (load a w) ss s = λ t f. or-two (not t) _ s
  clear-joins (store a w v) ss s = tt
  clear-joins (retry i) ss s = tt
  clear-joins (commit k) ss s = tt
  clear-joins (abort n) ss s = tt
  clear-joins idle ss s = tt
  clear-joins reply ss s = tt
  clear-joins flush ss s = tt
  clear-joins (show a) ss s = tt
  clear-joins (checkpoint x) ss s = tt
  clear-joins (restore x) ss s = tt
  clear-joins preview ss s = tt

  module _ (h : History) where
    -- the number that a load's answer names is the load's
    load-number : (f : Lookup) (o : Option ℕ) → number_in (load_answer (next_number q) f o) ≡ next_number q
    load-number f none = either-word (λ r. number_in r ≡ next_number q) (next_number q) refl refl f
    load-number f (some v) = refl

    -- the history has each new load
    new-joins : (c : Call) → Joins c (remembered (added c (rule c q b).answer h))
    unfolding added first load_rule
    new-joins (load a w) =
        λ t f. or-two (eqb (next_number q) 0) _
        (rw (load-number (lookup q.request b (line_of a)) (load_value (next_number q) a w q.stores b), eq-eqb (next_number q) (next_number q) refl)
        (rw (eq-eqb (next_number q) (next_number q) refl, eq-eqb a a refl) (eq-eqb w w refl)))
    new-joins (store a w v) = tt
    new-joins (retry i) = tt
    new-joins (commit k) = tt
    new-joins (abort n) = tt
    new-joins idle = tt
    new-joins reply = tt
    new-joins flush = tt
    new-joins (show a) = tt
    new-joins (checkpoint x) = tt
    new-joins (restore x) = tt
    new-joins preview = tt

    -- and still has the others
    still-remembered : (c : Call) (l : LoadEntry) → l.number ≤ q.last → remembered h l ≡ true → remembered (added c (rule c q b).answer h) l ≡ true
    unfolding added first load_rule
    still-remembered (load a w) l low r =
        or-by (is_free_load l) _ (λ f.
        rw (load-number (lookup q.request b (line_of a)) (load_value (next_number q) a w q.stores b), ne_eqb (next_number q) l.number (λ z. omega arith)) (or-then (is_free_load l) _ r f))
    still-remembered (store a w v) l low r = r
    still-remembered (retry i) l low r = r
    still-remembered (commit k) l low r = r
    still-remembered (abort n) l low r = r
    still-remembered idle l low r = r
    still-remembered reply l low r = r
    still-remembered flush l low r = r
    still-remembered (show a) l low r = r
    still-remembered (checkpoint x) l low r = r
    still-remembered (restore x) l low r = r
    still-remembered preview l low r = r

-- ---- a call

module _ (found : List ℕ) (h : History) (q : Queues) (b : Hierarchy) (k : Traced found h q b) (wf : well_formed q b ≡ true) where
  p : Parts q b
  p = parts q b wf

  rule-traced : (c : Call) → passes (call_checks c q b) ≡ true → Traced found (added c (rule c q b).answer h) (rule c q b).queues (rule c q b).hierarchy
  rule-traced c e = record {
    gone = all-gone;
    parted =
        rule-stores q b h c
        ∙ ap (stores_after c (rule c q b).answer (next_number q)) k.parted
        ∙ stores-parted q b wf c e k.gone (filter held_store q.stores) k.settled
        ∙ ap (λ (ss : List StoreEntry). k.gone ++ ss) m.parted
        ∙ sym (append_assoc k.gone m.drained (filter held_store (rule c q b).queues.stores));
    flat = m.flat ∙ ap (applied_all m.drained) k.flat ∙ sym (all_append k.gone m.drained found);
    settled = up-weaken q.committed (rule c q b).queues.committed marks.rises all-gone gone-settled;
    ahead =
        rule-loads q b (clear all-gone) refl (λ l t. refl) c (clear-joins q b c all-gone (up-below q.committed (next_number q) (omega (arith, p.order)) all-gone gone-settled))
        (every-imp₂ (clear k.gone) (clear m.drained) (clear all-gone) (λ l s t. or-by (not l.waiting) _ (λ w.
        every_append (below l.number) k.gone m.drained (or-then (not l.waiting) _ s w) (or-then (not l.waiting) _ t w))) q.loads k.ahead m.ahead);
    marked = marks.marks;
    listed =
        rule-loads q b (remembered (added c (rule c q b).answer h)) refl (λ l t. t) c (new-joins q b h c)
        (every-imp₂ (good_load b q.last q.committed q.stores) (remembered h) (remembered (added c (rule c q b).answer h))
        (λ l g. still-remembered q b h c l (load_low b q.last q.committed q.stores l g)) q.loads p.loads-good k.listed);
    bounded = rw (rule-stores q b h c) (stores-bounded q b c (rule c q b).answer (rule c q b).queues.last (rule-number q b c e) h.stores k.bounded);
    ordered = rw (rule-stores q b h c) (stores-ordered q b c (rule c q b).answer h.stores k.bounded k.ordered);
  }
    where
      m : Moved c q b (rule c q b)
      m = rule_moved q b wf c e

      marks : Marked q b h c (rule c q b)
      marks = rule-marked q b h k.marked c e

      all-gone : List StoreEntry
      all-gone = k.gone ++ m.drained

      gone-settled : every (up_to q.committed) all-gone ≡ true
      gone-settled = every_append (up_to q.committed) k.gone m.drained k.settled m.settled

-- ---- a run

refusal-noted : (c : Call) (n : ℕ) (h : History) → noted c (refusal c n) h ≡ h
unfolding noted added
refusal-noted c n h = refusal-by (λ c r. noted c r h ≡ h) (λ c k. refl) (λ a. refl) c n

-- an answer that is accepted is noted
accepted-noted : (c : Call) (r : Answer) (h : History) → is_accepted r ≡ true → noted c r h ≡ added c r h
unfolding noted
accepted-noted c r h e = rw e

module _ (found : List ℕ) where
  abbrev pub TracedAt : History → World → Type 0
  TracedAt h w = Traced found h w.queues w.hierarchy

  next-traced : (c : Call) (h : History) (w : World) → TracedAt h w → TracedAt (noted c (answer c w) h) (next c w)
  unfolding answer next
  next-traced c h w k =
      outcome-by c w.queues w.hierarchy (λ o. Traced found (noted c o.answer h) o.queues o.hierarchy)
      (λ n. rw (refusal-noted c n h) k)
      (λ fit wf e. rw (accepted-noted c (rule c w.queues w.hierarchy).answer h (rule-accepts w.queues w.hierarchy c)) (rule-traced found h w.queues w.hierarchy k wf c e))

  pub run-traced : (run : List Call) (h : History) (w : World) → TracedAt h w → TracedAt (history_of h run w) (after run w)
  unfolding after answers history
  run-traced [] h w k = k
  run-traced (c ∷ cs) h w k = run-traced cs (noted c (answer c w) h) (next c w) (next-traced c h w k)

-- one more call
pub history-snoc : (run : List Call) (c : Call) (h : History) (w : World) → history_of h (run ++ c ∷ []) w ≡ noted c (answer c (after run w)) (history_of h run w)
unfolding after answers history
history-snoc [] c h w = refl
history-snoc (d ∷ run) c h w = history-snoc run c (noted d (answer d w) h) (next d w)

-- ---- where it begins

-- a start
pub start-traced : (f : Figures) (memory : List ℕ) → TracedAt memory no_history (started f memory)
start-traced f memory = unfold started filter every increasing applied_all in (record {
  gone = [];
  parted = refl;
  flat = flat_start f memory;
  settled = refl;
  ahead = refl;
  marked = refl;
  listed = refl;
  bounded = refl;
  ordered = refl;
})

-- any well-formed state
pub state-traced : (w : World) → Formed w → TracedAt (flat_of w.hierarchy) (history_at w) w
unfolding every applied_all
state-traced w wf =
    let p : Parts w.queues w.hierarchy = parts w.queues w.hierarchy wf in
    record {
      gone = [];
      parted = refl;
      flat = refl;
      settled = refl;
      ahead = every-all (clear []) (λ l. or-two (not l.waiting) true refl) w.queues.loads;
      marked = refl;
      listed = rising-found (λ l. l.number) no_load same_load same_refl 0 w.queues.loads p.loads-rise;
      bounded =
          every-chosen held_store (up_to w.queues.last) w.queues.stores
          (every-imp _ _ (store_given w.hierarchy w.queues.last) w.queues.stores p.stores-good);
      ordered = rising-increases (λ s. s.number) 0 w.queues.stores p.stores-rise;
    }

-- What the checks leave to the functions behind them, as facts on numbers.
use Prim.Native.Nat.{ℕ, ◌+◌, ◌*◌, ◌%◌, ◌<◌, ◌≤◌}
use mathlib.Core.Path.{◌≡◌, refl, sym, ◌∙◌, subst}
use mathlib.Core.Bool.{Bool, true, false, not, ◌&&◌}
use mathlib.Core.List.{List, map}
use native.Mathlib.Omega.{arith}
use lib.Dec.{ltb, eqb}
use lib.ListN.{length, length-map}
use borrow.Author.Tests.{ltb-true, ltb-false, le-leb, eqb-true, eqb-false, not-true}
use Rattle.lists.specs.Padded.{any, every, first}
use Rattle.lists.proofs.Cond.{and_left, and_right, or-then}
use Rattle.lists.proofs.Every.{every_first, every-head}
use Rattle.lists.proofs.Some.{any-first}
use Rattle.rules.specs.declared.Checkpoint.{Checkpoint}
use Rattle.rules.specs.declared.Request.{Request}
use Rattle.rules.specs.declared.Request.TheVariants.{Line}
use Rattle.rules.specs.Shape.{Queues, Hierarchy, figures_allowed, fits, no_load, no_store, no_checkpoint, is_free_load, is_free_store}
use Rattle.rules.specs.Checkpoints.{named, in_use, number_of}
use Rattle.rules.specs.Calls.{width_allowed, passes, access_checks, waiting_at, committed_store, oldest_store, store_ready}
use Rattle.rules.specs.WellFormed.{load_passes, store_passes, free_store_zero, free_load_zero, committed_wait_at, waiting_uncovered_at, forwarded_answered_at, request_absent, request_inside, request_wanted}
use Rattle.rules.proofs.QueueView.{Parts, parts, good_load, good_store, good_request, load-passes, store-passes, good-load, good-store}
use Rattle.model.specs.State.{queues_of, hierarchy_of, Formed, Shaped, InOneLine, Sound, Flushable, Fillable}
use Rattle.rules.proofs.LineFacts.{fits-tells, good-tells}
use Rattle.line_checks.proofs.Figures.{Figured, figures-tell}
use Rattle.records.specs.Records.{has_room}
use Rattle.records.proofs.Places.{has_room_lem}
use Rattle.model.specs.declared.State.{State}
use Rattle.access.proofs.AccessChecks.{width-cases}
use Rattle.model.proofs.Leaves.{dirty-inside}

-- ---- widths and accesses

twice : (t : Bool) → not (not t) ≡ true → t ≡ true
twice true e = refl
twice false e = e

-- the width of an access that passes its checks
access-width : (b : Hierarchy) (a w : ℕ) → passes (access_checks b a w) ≡ true → width_allowed w ≡ true
unfolding every
access-width b a w p = twice (width_allowed w) (and_left (not (not (width_allowed w))) _ p)

-- it lies in memory
access-inside : (b : Hierarchy) (a w : ℕ) → passes (access_checks b a w) ≡ true → a + w ≤ b.size
unfolding every
access-inside b a w p =
    let p₂ = and_right (not (not (width_allowed w))) _ p in
    let p₄ = and_left (not (ltb b.size (a + w))) true (and_right (not (not (eqb (a % w) 0))) _ p₂) in
    ltb-false b.size (a + w) (not-true _ p₄)

-- it lies in one line of memory
pub access-fine : (b : Hierarchy) (a w : ℕ) → b.size ≤ 65536 → passes (access_checks b a w) ≡ true → InOneLine a w
unfolding every
access-fine b a w small p =
    let p₂ = and_right (not (not (width_allowed w))) _ p in
    let p₃ = and_left (not (not (eqb (a % w) 0))) _ p₂ in
    width-cases (λ w. a % w ≡ 0 → a + w ≤ b.size → InOneLine a w)
    (λ m i. record { some_byte = omega arith; narrow = omega arith; one_line = omega arith; inside = omega arith })
    (λ m i. record { some_byte = omega arith; narrow = omega arith; one_line = omega arith; inside = omega arith })
    (λ m i. record { some_byte = omega arith; narrow = omega arith; one_line = omega arith; inside = omega arith })
    w (access-width b a w p) (eqb-true (a % w) 0 (twice (eqb (a % w) 0) p₃)) (access-inside b a w p)

-- ---- checkpoints

-- the mark of a name in use remembers a number
pub used-number : (x : ℕ) (cs : List Checkpoint) → in_use x cs ≡ true → 0 < number_of x cs
used-number x cs u =
    let c : Checkpoint = first (named x) no_checkpoint cs in
    let n : eqb c.number 0 ≡ false = not-true _ (and_left _ _ (any-first (named x) no_checkpoint cs u)) in
    omega (arith, eqb-false c.number 0 n)

-- ---- figures

module _ (s : State) (cache memory : List ℕ) (f : fits (hierarchy_of s cache memory) ≡ true) where
  pub fit-figures : Figured s.figures s.size
  unfolding fits
  fit-figures = figures-tell s.figures s.size (and_left _ _ f)

  pub fit-cache : length cache ≡ s.figures.sets * s.figures.ways * 16
  unfolding fits
  fit-cache =
      eqb-true _ _ (and_right (eqb (length memory) s.size) _ (and_right (figures_allowed s.figures s.size) _ f))

  pub fit-memory : length memory ≡ s.size
  unfolding fits
  fit-memory = eqb-true _ _ (and_left _ _ (and_right (figures_allowed s.figures s.size) _ f))

  pub fit-shaped : Shaped s (length cache)
  fit-shaped =
      let g = fit-figures in
      record { some-set = g.some-set; some-way = g.some-way; room = g.room; cache-long = fit-cache }

-- there is room for the figures
pub shaped-room : (s : State) (n : ℕ) → Shaped s n → has_room s.figures ≡ true
shaped-room s n h = has_room_lem s.figures h.some-set h.some-way h.room

-- the same, with no cache at hand
pub shaped-self : (s : State) (n : ℕ) → Shaped s n → Shaped s (s.figures.sets * s.figures.ways * 16)
shaped-self s n h =
    record { some-set = h.some-set; some-way = h.some-way; room = h.room; cache-long = refl }

-- ---- an array in a struct

-- its length, from that of its values
pub length-of : (X Y : Type 0) (f : X → Y) (l : List X) (n : ℕ) → length (map f l) ≡ n → length l ≡ n
length-of X Y f l n e = sym (length-map l f) ∙ e

-- ---- entries of a well-formed state

module _ (q : Queues) (b : Hierarchy) (small : b.size ≤ 65536) (p : Parts q b) where
  -- the access of the waiting load of number i
  pub waiting-fine : (i : ℕ) → any (waiting_at i) q.loads ≡ true → InOneLine (first (waiting_at i) no_load q.loads).address (first (waiting_at i) no_load q.loads).width
  unfolding waiting_at load_passes free_load_zero committed_wait_at waiting_uncovered_at forwarded_answered_at
  waiting-fine i e =
      let l = first (waiting_at i) no_load q.loads in
      let w = any-first (waiting_at i) no_load q.loads e in
      let g = every_first (good_load b q.last q.committed q.stores) (waiting_at i) no_load q.loads
      (good-load b q.last q.committed q.stores no_load refl (le-leb 0 q.last (omega arith)) refl refl refl refl) p.loads-good in
      access-fine b l.address l.width small
      (or-then (is_free_load l) _ (load-passes b q.last q.committed q.stores l g) (not-true (is_free_load l) (and_left _ _ w)))

  -- the access of the oldest store, if it is ready
  oldest-passes : store_ready q ≡ true → passes (access_checks b (oldest_store q).address (oldest_store q).width) ≡ true
  unfolding store_ready committed_store store_passes free_store_zero
  oldest-passes e =
      let s = oldest_store q in
      let held = not-true (is_free_store s) (and_left _ _ (and_left _ _ e)) in
      let g = every-head (good_store b q.last) no_store q.stores (good-store b q.last no_store refl (le-leb 0 q.last (omega arith)) refl) p.stores-good in
      and_left _ _ (or-then (is_free_store s) _ (store-passes b q.last s g) held)

  pub oldest-fine : store_ready q ≡ true → InOneLine (oldest_store q).address (oldest_store q).width
  oldest-fine e = access-fine b (oldest_store q).address (oldest_store q).width small (oldest-passes e)

  pub oldest-inside : store_ready q ≡ true → (oldest_store q).address + (oldest_store q).width ≤ b.size
  oldest-inside e = access-inside b (oldest_store q).address (oldest_store q).width (oldest-passes e)

  -- a requested line lies in memory
  pub request-inside : (l : ℕ) → q.request ≡ Line l → 16 * l < b.size
  unfolding good_request request_inside
  request-inside l e =
      let w : (request_absent (Line l) b && (request_inside (Line l) b && request_wanted (Line l) q b.figures.policy)) ≡ true = subst (λ (r : Request). (request_absent r b && (request_inside r b && request_wanted r q b.figures.policy)) ≡ true) e p.wanted in
      ltb-true (16 * l) b.size (and_left _ _ (and_right (request_absent (Line l) b) _ w))

-- ---- what a well-formed state leaves

-- to the calls that only read the lent bytes
pub formed-sound : (s : State) (cache memory : List ℕ) → Formed s cache memory → Sound s (length cache)
formed-sound s cache memory g =
    let b = hierarchy_of s cache memory in
    let p = parts (queues_of s) b g in
    let f = fit-figures s cache memory p.fit in
    record {
      shaped = fit-shaped s cache memory p.fit;
      small = f.most-size;
      waiting = waiting-fine (queues_of s) b f.most-size p;
    }

-- to the functions of the table
pub formed-shaped : (s : State) (cache memory : List ℕ) → Formed s cache memory → Shaped s (s.figures.sets * s.figures.ways * 16)
formed-shaped s cache memory g = shaped-self s (length cache) (formed-sound s cache memory g).shaped

-- to a flush
pub formed-flushable :
    (s : State) (cache memory : List ℕ) → Formed s cache memory → Flushable s.figures s.tags (length cache) (length memory)
formed-flushable s cache memory g =
    let b = hierarchy_of s cache memory in
    let p = parts (queues_of s) b g in
    record {
      room = (fit-figures s cache memory p.fit).room;
      cache-long = fit-cache s cache memory p.fit;
      dirty-lines = dirty-inside b (fits-tells _ p.fit) (good-tells _ p.lines) _;
    }

-- to the fill of the line that it requests
pub formed-fillable :
    (s : State) (cache memory : List ℕ) (l : ℕ) → Formed s cache memory → s.request ≡ Line l
    → Fillable s.figures s.tags l (length cache) (length memory)
formed-fillable s cache memory l g e =
    let b = hierarchy_of s cache memory in
    let p = parts (queues_of s) b g in
    let f = fit-figures s cache memory p.fit in
    let asked = request-inside (queues_of s) b f.most-size p l e in
    record {
      room = has_room_lem s.figures f.some-set f.some-way f.room;
      cache-long = fit-cache s cache memory p.fit;
      inside = omega (arith, asked, f.whole-lines, fit-memory s cache memory p.fit);
      low = omega (arith, asked, f.most-size);
      dirty-lines = dirty-inside b (fits-tells _ p.fit) (good-tells _ p.lines) 256;
    }

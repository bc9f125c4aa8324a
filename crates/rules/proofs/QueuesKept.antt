-- What each rule does to the queues keeps them well formed.
use Prim.Native.Nat.{ℕ, ◌*◌, ◌≤◌, ◌<◌}
use mathlib.Core.Path.{◌≡◌, refl, ◌∙◌, ap, subst}
use mathlib.Core.Bool.{Bool, true, false, not, ◌&&◌, ◌||◌}
use mathlib.Core.List.{List}
use native.Mathlib.Omega.{arith}
use lib.Dec.{leb, eqb}
use borrow.Author.Tests.{leb-true, eqb-true, eqb-false, lt-ltb, le-leb, ne_eqb, not-true}
use Rattle.lists.specs.Padded.{any, every, without, shifted, placed, changed}
use Rattle.lists.proofs.Cond.{cases, and_left, and_right, and_both, or-one, or-two, or-then, wrong}
use Rattle.lists.proofs.Every.{every-imp, every-imp₂, every_first, every-head, every-placed, every-without, every-changed, every-shifted}
use Rattle.lists.proofs.Some.{any-imp, any-placed, any-changed, any-without, none-placed, none-without, none-changed, none-shifted, none-every}
use Rattle.lists.proofs.Rising.{rise-shifted, rise-without, rise-changed, rise-placed, any-without-one}
use Rattle.lists.proofs.Lengths.{length-changed, length-placed, length-shifted, length_without}
use Rattle.lists.proofs.Selected.{head-placed}
use Rattle.rules.specs.declared.StoreEntry.{StoreEntry}
use Rattle.rules.specs.declared.LoadEntry.{LoadEntry}
use Rattle.rules.specs.declared.Checkpoint.{Checkpoint}
use Rattle.rules.specs.declared.Request.{Request}
use Rattle.rules.specs.declared.Request.TheVariants.{Free, Line}
use Rattle.rules.specs.Shape.{Queues, Hierarchy, top_number, no_store, no_load, is_free_store, is_free_load, line_in_memory, line_of, writes_through}
use Rattle.rules.specs.Lines.{present}
use Rattle.rules.specs.Forward.{older_covers}
use Rattle.rules.specs.Checkpoints.{in_use, name_allowed, add_checkpoint, forget_up_to}
use Rattle.rules.specs.Calls.{retry, passes, call_checks, waiting_at, next_number, with_loads, with_request, answered, answered_by, waits_below, oldest_store, store_ready}
use Rattle.rules.specs.WellFormed.{free_store_zero, free_load_zero, store_passes, load_passes, committed_wait_at, waiting_uncovered_at, forwarded_answered_at, alone, request_absent, request_inside, store_wants, request_wanted, waits_for, well_formed, checkpoints_formed}
use Rattle.rules.proofs.LineFacts.{Good, good-is}
use Rattle.rules.proofs.LineRules.{Shaped, shaped-fits}
use Rattle.rules.proofs.QueueView.{Parts, parts, whole, good_store, good_load, good_request, store_low, load_low, load_given, load-passes, good-load}
use Rattle.rules.proofs.Checkpoints.{checkpoints-tell, checkpoints-are, checkpoints-later, upto-formed, set-formed}
use Rattle.rules.proofs.Entries.{Ready, store-later, load-later, waiting-map, not-covers, ready-tells, ready-is, not-below, answered-below, free-below, for-tells, for-is, free-for, retry-checked, at-tells, tried, tried-waits, still-waits, waits-not-answered, alone-map, free-apart}

-- ---- the request

-- the line is wanted
abbrev pub wanted_by : Queues → Hierarchy → ℕ → Bool
wanted_by q b l = any (waits_for q.committed l) q.loads || (not (writes_through b) && store_wants q l)

request-map :
    (r : Request) (q q' : Queues) (b b' : Hierarchy) → b'.size ≡ b.size → ((l : ℕ) → r ≡ Line l → present b l ≡ false → present b' l ≡ false)
    → ((l : ℕ) → present b l ≡ false → wanted_by q b l ≡ true → wanted_by q' b' l ≡ true) → good_request r q b ≡ true → good_request r q' b' ≡ true
unfolding good_request request_absent request_inside request_wanted
request-map Free q q' b b' s h k g = refl
request-map (Line l) q q' b b' s h k g =
    let g₁ = and_right (not (present b l)) _ g in
    let absent = not-true (present b l) (and_left _ _ g) in
    and_both _ _ (ap not (h l refl absent))
    (and_both (line_in_memory b' l) _ (rw s (and_left _ _ g₁)) (k l absent (and_right (line_in_memory b l) _ g₁)))

-- a line that was wanted is wanted, if the loads that wait for it stay, and the oldest store with its turn
wanted-map :
    (q q' : Queues) (b : Hierarchy) (l : ℕ) → (any (waits_for q.committed l) q.loads ≡ true → any (waits_for q'.committed l) q'.loads ≡ true)
    → (Ready q → (Ready q') × (oldest_store q' ≡ oldest_store q)) → wanted_by q b l ≡ true → wanted_by q' b l ≡ true
wanted-map q q' b l f g e =
    cases (any (waits_for q.committed l) q.loads) (λ t. or-one (any (waits_for q'.committed l) q'.loads) _ (f t))
    (λ t.
    let s : (not (writes_through b) && store_wants q l) ≡ true = rw t at e in
    let r = and_right (not (writes_through b)) _ s in
    let h = g (ready-tells q (and_left _ _ r)) in
    or-two (any (waits_for q'.committed l) q'.loads) _
    (and_both (not (writes_through b)) _ (and_left (not (writes_through b)) _ s)
    (and_both (store_ready q') _ (ready-is q' h.0) (rw h.1 (and_right (store_ready q) _ r)))))

pub asks-line : (l : ℕ) (q : Queues) (b : Hierarchy) → present b l ≡ false → 16 * l < b.size → wanted_by q b l ≡ true → good_request (Line l) q b ≡ true
unfolding good_request request_absent request_inside request_wanted
asks-line l q b a i w = and_both _ _ (ap not a) (and_both _ _ (lt-ltb (16 * l) b.size i) w)

-- ---- other lines

pub other-lines :
    (q : Queues) (b c : Hierarchy) → well_formed q b ≡ true → Shaped b c → Good c
    → ((l : ℕ) → q.request ≡ Line l → present b l ≡ false → present c l ≡ false) → well_formed q c ≡ true
other-lines q b c wf s g h =
    let p = parts q b wf in
    whole q c (record {
      fit = shaped-fits b c s ∙ p.fit;
      lines = good-is c g;
      store-places = p.store-places;
      load-places = p.load-places;
      last_fits = p.last_fits;
      order = p.order;
      stores-rise = p.stores-rise;
      loads-rise = p.loads-rise;
      stores-good = every-imp _ _ (store-later b c q.last q.last s.size (omega arith)) q.stores p.stores-good;
      loads-good =
          every-imp _ _ (λ l e. load-later b c q.last q.last q.committed q.committed q.stores q.stores l s.size (omega arith) (λ w. w) (λ x. x) e)
          q.loads p.loads-good;
      apart = p.apart;
      wanted = request-map q.request q q b c s.size h (λ l a w. rw s.figures w) p.wanted;
      marks = p.marks;
    })

-- ---- the queues' part of each rule

pub free-load-good : (b : Hierarchy) (m h : ℕ) (ss : List StoreEntry) → good_load b m h ss no_load ≡ true
unfolding good_load free_load_zero load_passes committed_wait_at waiting_uncovered_at forwarded_answered_at
free-load-good b m h ss = rw (le-leb 0 m (omega arith))

free-store-good : (b : Hierarchy) (m : ℕ) → good_store b m no_store ≡ true
unfolding good_store free_store_zero store_passes
free-store-good b m = rw (le-leb 0 m (omega arith))

module _ (q : Queues) (b : Hierarchy) (p : Parts q b) where
  pub oldest-good : good_store b q.last (oldest_store q) ≡ true
  oldest-good = every-head (good_store b q.last) no_store q.stores (free-store-good b q.last) p.stores-good

  pub tried-good : (i : ℕ) → good_load b q.last q.committed q.stores (tried i q) ≡ true
  tried-good i =
      every_first _ (waiting_at i) no_load q.loads (free-load-good b q.last q.committed q.stores) p.loads-good

  loads-low : every (λ l. leb l.number q.last) q.loads ≡ true
  loads-low = every-imp _ _ (load_given b q.last q.committed q.stores) q.loads p.loads-good

  stores-low : every (λ s. leb s.number q.last) q.stores ≡ true
  stores-low = every-imp _ _ (λ s h. le-leb s.number q.last (store_low b q.last s h)) q.stores p.stores-good

  -- the checkpoints, when a number is given
  later-marks : checkpoints_formed q.committed (next_number q) q.checkpoints ≡ true
  later-marks = checkpoints-are _ _ _ (checkpoints-later q.committed q.last (next_number q) q.checkpoints (omega arith) (checkpoints-tell _ _ _ p.marks))

  -- a load joins
  pub load-joins :
      q.last < top_number → (e : LoadEntry) → e.number ≡ next_number q → good_load b (next_number q) q.committed q.stores e ≡ true
      → well_formed (record { last = next_number q; committed = q.committed; request = q.request; stores = q.stores; loads = placed is_free_load e q.loads; checkpoints = q.checkpoints }) b ≡ true
  load-joins room e n g =
      let q' : Queues = record { last = next_number q; committed = q.committed; request = q.request; stores = q.stores; loads = placed is_free_load e q.loads; checkpoints = q.checkpoints } in
      whole q' b (record {
        fit = p.fit;
        lines = p.lines;
        store-places = p.store-places;
        load-places = length-placed is_free_load e q.loads ∙ p.load-places;
        last_fits = omega arith;
        order = omega (arith, p.order);
        stores-rise = p.stores-rise;
        loads-rise = rise-placed (λ l. l.number) no_load refl e q.last (omega arith) 0 q.loads (omega arith) loads-low p.loads-rise;
        stores-good = every-imp _ _ (store-later b b q.last (next_number q) refl (omega arith)) q.stores p.stores-good;
        loads-good =
            every-placed _ is_free_load e q.loads g
            (every-imp _ _ (λ l h. load-later b b q.last (next_number q) q.committed q.committed q.stores q.stores l refl (omega arith) (λ w. w) (λ x. x) h) q.loads p.loads-good);
        apart =
            every-imp₂ (alone q.loads) (good_store b q.last) (alone (placed is_free_load e q.loads))
            (λ s a h. alone-map q.loads (placed is_free_load e q.loads) s
            (λ f. none-placed (λ l. eqb l.number s.number) is_free_load e q.loads (ne_eqb e.number s.number (λ z. omega (arith, store_low b q.last s h)))) a)
            q.stores p.apart p.stores-good;
        wanted =
            request-map q.request q q' b b refl (λ l r a. a)
            (λ l a. wanted-map q q' b l
            (any-placed (waits_for q.committed l) is_free_load e (free-for q.committed l) q.loads)
            (λ r. (
              record {
                held = r.held;
                low = r.low;
                first = none-placed (waits_below (oldest_store q).number) is_free_load e q.loads (not-below (oldest_store q).number e (omega (arith, store_low b q.last (oldest_store q) oldest-good))) r.first;
              },
              refl,
            )))
            p.wanted;
        marks = later-marks;
      })

  -- a store joins
  pub store-joins :
      q.last < top_number → (e : StoreEntry) → e.number ≡ next_number q → good_store b (next_number q) e ≡ true
      → well_formed (record { last = next_number q; committed = q.committed; request = q.request; stores = placed is_free_store e q.stores; loads = q.loads; checkpoints = q.checkpoints }) b ≡ true
  unfolding alone
  store-joins room e n g =
      let q' : Queues = record { last = next_number q; committed = q.committed; request = q.request; stores = placed is_free_store e q.stores; loads = q.loads; checkpoints = q.checkpoints } in
      whole q' b (record {
        fit = p.fit;
        lines = p.lines;
        store-places = length-placed is_free_store e q.stores ∙ p.store-places;
        load-places = p.load-places;
        last_fits = omega arith;
        order = omega (arith, p.order);
        stores-rise = rise-placed (λ s. s.number) no_store refl e q.last (omega arith) 0 q.stores (omega arith) stores-low p.stores-rise;
        loads-rise = p.loads-rise;
        stores-good = every-placed _ is_free_store e q.stores g (every-imp _ _ (store-later b b q.last (next_number q) refl (omega arith)) q.stores p.stores-good);
        loads-good =
            every-imp _ _ (λ l h. load-later b b q.last (next_number q) q.committed q.committed q.stores (placed is_free_store e q.stores) l refl (omega arith) (λ w. w)
            (waiting-map q.stores (placed is_free_store e q.stores) l
            (λ a. none-placed (older_covers l.number a) is_free_store e q.stores (not-covers l.number a e (omega (arith, load_low b q.last q.committed q.stores l h))))) h)
            q.loads p.loads-good;
        apart =
            every-placed (alone q.loads) is_free_store e q.stores
            (or-two (is_free_store e) _ (ap not (none-every (λ l. leb l.number q.last) (λ l. eqb l.number e.number) (λ l h. ne_eqb l.number e.number (λ z. omega (arith, leb-true l.number q.last h))) q.loads loads-low)))
            p.apart;
        wanted =
            request-map q.request q q' b b refl (λ l r a. a)
            (λ l a. wanted-map q q' b l (λ t. t)
            (λ r.
            let same : oldest_store q' ≡ oldest_store q = head-placed is_free_store e no_store q.stores r.held in
            (record { held = rw same r.held; low = rw same r.low; first = rw same r.first }, same)))
            p.wanted;
        marks = later-marks;
      })

  -- some loads leave the list, none that a requested line is wanted by: h rises to k, and the loads that stay allow it
  pub loads-leave :
      (cs : List Checkpoint) (k : ℕ) → checkpoints_formed k q.last cs ≡ true → q.committed ≤ k → k ≤ q.last → (t : LoadEntry → Bool) → ((l : LoadEntry) → t l ≡ false → committed_wait_at q.committed l ≡ true → committed_wait_at k l ≡ true)
      → ((l : ℕ) → present b l ≡ false → any (waits_for k l) q.loads ≡ true → any (waits_for k l) (without t no_load q.loads) ≡ true)
      → well_formed (record { last = q.last; committed = k; request = q.request; stores = q.stores; loads = without t no_load q.loads; checkpoints = cs }) b ≡ true
  loads-leave cs k marked from to t w keep =
      let q' : Queues = record { last = q.last; committed = k; request = q.request; stores = q.stores; loads = without t no_load q.loads; checkpoints = cs } in
      whole q' b (record {
        fit = p.fit;
        lines = p.lines;
        store-places = p.store-places;
        load-places = length_without t no_load q.loads ∙ p.load-places;
        last_fits = p.last_fits;
        order = to;
        stores-rise = p.stores-rise;
        loads-rise = rise-without (λ l. l.number) no_load refl t 0 q.loads p.loads-rise;
        stores-good = p.stores-good;
        loads-good =
            every-without (good_load b q.last q.committed q.stores) (good_load b q.last k q.stores) t no_load (free-load-good b q.last k q.stores)
            (λ l g e. load-later b b q.last q.last q.committed k q.stores q.stores l refl (omega arith) (w l e) (λ x. x) g)
            q.loads p.loads-good;
        apart =
            every-imp _ _ (λ s. alone-map q.loads (without t no_load q.loads) s
            (λ f. none-without (λ l. eqb l.number s.number) t no_load (free-apart s f) q.loads)) q.stores p.apart;
        wanted =
            request-map q.request q q' b b refl (λ l r a. a)
            (λ l a. wanted-map q q' b l (λ e. keep l a (any-imp (waits_for q.committed l) (waits_for k l) (later l) q.loads e))
            (λ r. (
              record {
                held = r.held;
                low = omega (arith, r.low);
                first = none-without (waits_below (oldest_store q).number) t no_load (free-below (oldest_store q).number) q.loads r.first;
              },
              refl,
            )))
            p.wanted;
        marks = marked;
      })
    where
      later : (l : ℕ) (x : LoadEntry) → waits_for q.committed l x ≡ true → waits_for k l x ≡ true
      later l x u =
          let r = for-tells q.committed l x u in
          for-is k l x (record { held = r.held; low = omega (arith, r.low); waits = r.waits; same = r.same })

  -- answered and committed: the waiting load of number i leaves; its line is present
  pub answered-leaves :
      (i : ℕ) → passes (call_checks (retry i) q b) ≡ true → present b (line_of (tried i q).address) ≡ true
      → well_formed (with_loads (without (waiting_at i) no_load q.loads) q) b ≡ true
  answered-leaves i e there =
      let o = tried-waits i q b e in
      let positive : 0 < i = omega (arith, o.numbered, eqb-false (tried i q).number 0 o.held) in
      loads-leave q.checkpoints q.committed p.marks (omega arith) p.order (waiting_at i) (λ l f w. w)
      (λ l a. any-without-one (λ l. l.number) no_load refl (waits_for q.committed l) (waiting_at i) i positive (λ x t. (at-tells i x t).numbered) 0 q.loads p.loads-rise
      (retry-checked q b i e)
      (cases (waits_for q.committed l (tried i q))
      (λ t. wrong (subst (λ (k : ℕ). present b k ≡ true) (for-tells q.committed l _ t).same there) a) (λ t. t)))

  -- the committed number rises, and answered loads leave
  pub commits :
      (k : ℕ) → q.committed ≤ k → k ≤ q.last
      → well_formed (record { last = q.last; committed = k; request = q.request; stores = q.stores; loads = without (answered_by k) no_load q.loads; checkpoints = forget_up_to k q.checkpoints }) b ≡ true
  commits k from to =
      loads-leave (forget_up_to k q.checkpoints) k
      (checkpoints-are _ _ _ (upto-formed q.committed q.last k q.checkpoints (checkpoints-tell _ _ _ p.marks))) from to (answered_by k) (λ l e w. still-waits k l e)
      (λ l a. any-without (waits_for k l) (answered_by k) no_load (λ x u. waits-not-answered k x (for-tells k l x u).waits) q.loads)

  -- answered and not committed: the waiting load of number i is marked
  pub marks : (i : ℕ) → q.committed < i → well_formed (with_loads (changed (waiting_at i) answered q.loads) q) b ≡ true
  unfolding committed_wait_at waiting_uncovered_at forwarded_answered_at free_load_zero load_passes
  marks i above =
      let q' : Queues = with_loads (changed (waiting_at i) answered q.loads) q in
      whole q' b (record {
        fit = p.fit;
        lines = p.lines;
        store-places = p.store-places;
        load-places = length-changed (waiting_at i) answered q.loads ∙ p.load-places;
        last_fits = p.last_fits;
        order = p.order;
        stores-rise = p.stores-rise;
        loads-rise = rise-changed (λ l. l.number) no_load refl (waiting_at i) answered (λ x. refl) 0 q.loads p.loads-rise;
        stores-good = p.stores-good;
        loads-good =
            every-changed (good_load b q.last q.committed q.stores) _ (waiting_at i) answered
            (λ x g t.
            let a = at-tells i x t in
            good-load b q.last q.committed q.stores (answered x) (or-one _ _ (ap not a.held)) (load_given b q.last q.committed q.stores x g)
            (load-passes b q.last q.committed q.stores x g)
            (or-two (is_free_load x) _ (lt-ltb q.committed x.number (omega (arith, a.numbered)))) (or-two (is_free_load x) true refl) (or-two (not x.forwarded) true refl))
            (λ x g t. g) q.loads p.loads-good;
        apart =
            every-imp _ _ (λ s. alone-map q.loads (changed (waiting_at i) answered q.loads) s
            (λ f. none-changed (λ l. eqb l.number s.number) (waiting_at i) answered (λ x e. e) q.loads)) q.stores p.apart;
        wanted =
            request-map q.request q q' b b refl (λ l r a. a)
            (λ l a. wanted-map q q' b l
            (any-changed (waits_for q.committed l) (waiting_at i) answered
            (λ x t. cases (waiting_at i x) (λ u. let no : ⊥ = omega (arith, (for-tells q.committed l x t).low, (at-tells i x u).numbered) in absurd no) (λ u. u)) q.loads)
            (λ r. (
              record {
                held = r.held;
                low = r.low;
                first = none-changed (waits_below (oldest_store q).number) (waiting_at i) answered (λ x e. answered-below (oldest_store q).number x) q.loads r.first;
              },
              refl,
            )))
            p.wanted;
        marks = p.marks;
      })

  -- the oldest store leaves; its line is present, or it is written through
  pub oldest-leaves :
      (writes_through b || present b (line_of (oldest_store q).address)) ≡ true
      → well_formed (record { last = q.last; committed = q.committed; request = q.request; stores = shifted no_store q.stores; loads = q.loads; checkpoints = q.checkpoints }) b ≡ true
  unfolding alone older_covers
  oldest-leaves there =
      let q' : Queues = record { last = q.last; committed = q.committed; request = q.request; stores = shifted no_store q.stores; loads = q.loads; checkpoints = q.checkpoints } in
      whole q' b (record {
        fit = p.fit;
        lines = p.lines;
        store-places = length-shifted no_store q.stores ∙ p.store-places;
        load-places = p.load-places;
        last_fits = p.last_fits;
        order = p.order;
        stores-rise = rise-shifted (λ s. s.number) no_store refl 0 q.stores p.stores-rise;
        loads-rise = p.loads-rise;
        stores-good = every-shifted (good_store b q.last) no_store q.stores (free-store-good b q.last) p.stores-good;
        loads-good =
            every-imp _ _ (λ l h. load-later b b q.last q.last q.committed q.committed q.stores (shifted no_store q.stores) l refl (omega arith) (λ w. w)
            (waiting-map q.stores (shifted no_store q.stores) l (λ a. none-shifted (older_covers l.number a) no_store refl q.stores)) h)
            q.loads p.loads-good;
        apart = every-shifted (alone q.loads) no_store q.stores refl p.apart;
        wanted =
            request-map q.request q q' b b refl (λ l r a. a)
            (λ l a e. cases (any (waits_for q.committed l) q.loads) (λ t. or-one (any (waits_for q.committed l) q.loads) _ t)
            (λ t.
            let s : (not (writes_through b) && store_wants q l) ≡ true = rw t at e in
            let r = and_right (not (writes_through b)) _ s in
            let here = or-then (writes_through b) _ there (not-true _ (and_left _ _ s)) in
            wrong (subst (λ (k : ℕ). present b k ≡ true) (eqb-true (line_of (oldest_store q).address) l (and_right (store_ready q) _ r)) here) a))
            p.wanted;
        marks = p.marks;
      })

  -- another request
  pub asks : (r : Request) → good_request r (with_request r q) b ≡ true → well_formed (with_request r q) b ≡ true
  asks r g =
      whole (with_request r q) b (record {
        fit = p.fit;
        lines = p.lines;
        store-places = p.store-places;
        load-places = p.load-places;
        last_fits = p.last_fits;
        order = p.order;
        stores-rise = p.stores-rise;
        loads-rise = p.loads-rise;
        stores-good = p.stores-good;
        loads-good = p.loads-good;
        apart = p.apart;
        wanted = g;
        marks = p.marks;
      })

  -- a mark is set
  pub checkpoint-joins :
      (x : ℕ) → name_allowed x ≡ true → in_use x q.checkpoints ≡ false
      → well_formed (record { last = q.last; committed = q.committed; request = q.request; stores = q.stores; loads = q.loads; checkpoints = add_checkpoint x (next_number q) q.checkpoints }) b ≡ true
  checkpoint-joins x allowed unused =
      let q' : Queues = record { last = q.last; committed = q.committed; request = q.request; stores = q.stores; loads = q.loads; checkpoints = add_checkpoint x (next_number q) q.checkpoints } in
      whole q' b (record {
        fit = p.fit;
        lines = p.lines;
        store-places = p.store-places;
        load-places = p.load-places;
        last_fits = p.last_fits;
        order = p.order;
        stores-rise = p.stores-rise;
        loads-rise = p.loads-rise;
        stores-good = p.stores-good;
        loads-good = p.loads-good;
        apart = p.apart;
        wanted = request-map q.request q q' b b refl (λ l r a. a) (λ l a w. unfold store_ready in w) p.wanted;
        marks = checkpoints-are _ _ _ (set-formed x q.committed q.last q.checkpoints p.order allowed unused (checkpoints-tell _ _ _ p.marks));
      })

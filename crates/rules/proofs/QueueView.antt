-- What well-formed says of the queues, entry by entry: the view that the proofs use, and that it is the same.
use Prim.Native.Nat.{ℕ, ◌≤◌}
use mathlib.Core.Path.{◌≡◌, refl, ap}
use mathlib.Core.Bool.{Bool, true, not, ◌&&◌}
use mathlib.Core.List.{List}
use lib.Dec.{leb, eqb}
use lib.ListN.{length}
use borrow.Author.Tests.{leb-true, le-leb, eqb-true, eq-eqb, not-true}
use Rattle.lists.specs.Padded.{every, ascending, free_last, rising}
use Rattle.lists.proofs.Cond.{and_left, and_right, and_both, or-then}
use Rattle.lists.proofs.Every.{every-imp, every-imp₂}
use Rattle.lists.proofs.Rising.{rising-both, rising-last, rising-ascends}
use Rattle.rules.specs.declared.StoreEntry.{StoreEntry}
use Rattle.rules.specs.declared.LoadEntry.{LoadEntry}
use Rattle.rules.specs.declared.Request.{Request}
use Rattle.rules.specs.Shape.{Queues, Hierarchy, no_store, no_load, is_free_store, is_free_load, top_number, fits}
use Rattle.rules.specs.WellFormed.{free_store_zero, free_load_zero, queue_lengths, free_zero, free_places_last, last_number_fits, committed_up_to_last, numbers_rise, numbers_up_to_last, numbers_apart, accesses_pass, committed_wait, waiting_uncovered, forwarded_answered, alone, store_passes, load_passes, committed_wait_at, waiting_uncovered_at, forwarded_answered_at, request_absent, request_inside, request_wanted, lines_formed, queues_formed, well_formed, checkpoints_formed}

-- ---- the view

-- all that is asked of one entry of the store queue
unfoldable pub good_store : Hierarchy → ℕ → StoreEntry → Bool
good_store b last s = free_store_zero s && (leb s.number last && store_passes b s)

-- what is asked of its waiting and its answer
abbrev wait_good : ℕ → List StoreEntry → LoadEntry → Bool
wait_good h ss l = committed_wait_at h l && (waiting_uncovered_at ss l && forwarded_answered_at l)

-- all that is asked of one entry of the load queue
unfoldable pub good_load : Hierarchy → ℕ → ℕ → List StoreEntry → LoadEntry → Bool
good_load b last h ss l =
    free_load_zero l && (leb l.number last && (load_passes b l && wait_good h ss l))

-- all that is asked of the register
unfoldable pub good_request : Request → Queues → Hierarchy → Bool
good_request r q b = request_absent r b && (request_inside r b && request_wanted r q b.figures.policy)

pub record Parts (q : Queues) (b : Hierarchy) : Type 0 where
  pub fit : fits b ≡ true
  pub lines : lines_formed b ≡ true
  pub store-places : length q.stores ≡ 16
  pub load-places : length q.loads ≡ 8
  pub last_fits : q.last ≤ top_number
  pub order : q.committed ≤ q.last
  pub stores-rise : rising (λ s. s.number) 0 q.stores ≡ true
  pub loads-rise : rising (λ l. l.number) 0 q.loads ≡ true
  pub stores-good : every (good_store b q.last) q.stores ≡ true
  pub loads-good : every (good_load b q.last q.committed q.stores) q.loads ≡ true
  pub apart : every (alone q.loads) q.stores ≡ true
  pub wanted : good_request q.request q b ≡ true
  pub marks : checkpoints_formed q.committed q.last q.checkpoints ≡ true

-- ---- three tests at once, and each of them

pub stores-join :
    (b : Hierarchy) (last : ℕ) (ss : List StoreEntry) → every free_store_zero ss ≡ true → every (λ s. leb s.number last) ss ≡ true
    → every (store_passes b) ss ≡ true → every (good_store b last) ss ≡ true
unfolding good_store
stores-join b last ss z g p =
    every-imp₂ free_store_zero (λ s. leb s.number last && store_passes b s) (good_store b last) (λ s x y. and_both _ _ x y) ss z
    (every-imp₂ (λ s. leb s.number last) (store_passes b) (λ s. leb s.number last && store_passes b s) (λ s x y. and_both _ _ x y) ss g p)

pub loads-join :
    (b : Hierarchy) (last h : ℕ) (ss : List StoreEntry) (ls : List LoadEntry) → every free_load_zero ls ≡ true
    → every (λ l. leb l.number last) ls ≡ true → every (load_passes b) ls ≡ true → every (committed_wait_at h) ls ≡ true
    → every (waiting_uncovered_at ss) ls ≡ true → every forwarded_answered_at ls ≡ true → every (good_load b last h ss) ls ≡ true
unfolding good_load
loads-join b last h ss ls z g p c x f =
    every-imp₂ free_load_zero (λ l. leb l.number last && (load_passes b l && wait_good h ss l)) (good_load b last h ss) (λ l u v. and_both _ _ u v) ls z
    (every-imp₂ (λ l. leb l.number last) (λ l. load_passes b l && wait_good h ss l) (λ l. leb l.number last && (load_passes b l && wait_good h ss l)) (λ l u v. and_both _ _ u v) ls g
    (every-imp₂ (load_passes b) (wait_good h ss) (λ l. load_passes b l && wait_good h ss l) (λ l u v. and_both _ _ u v) ls p
    (every-imp₂ (committed_wait_at h) (λ l. waiting_uncovered_at ss l && forwarded_answered_at l) (wait_good h ss) (λ l u v. and_both _ _ u v) ls c
    (every-imp₂ (waiting_uncovered_at ss) forwarded_answered_at (λ l. waiting_uncovered_at ss l && forwarded_answered_at l) (λ l u v. and_both _ _ u v) ls x f))))

-- ---- what a good entry tells

module _ (b : Hierarchy) (last : ℕ) (s : StoreEntry) (g : good_store b last s ≡ true) where
  pub store-zero : free_store_zero s ≡ true
  unfolding good_store
  store-zero = and_left _ _ g

  pub store_given : leb s.number last ≡ true
  unfolding good_store
  store_given = and_left _ _ (and_right (free_store_zero s) _ g)

  pub store-passes : store_passes b s ≡ true
  unfolding good_store
  store-passes = and_right (leb s.number last) _ (and_right (free_store_zero s) _ g)

  pub store_low : s.number ≤ last
  store_low = leb-true s.number last store_given

  -- a free place is zero
  pub free-store : is_free_store s ≡ true → s ≡ no_store
  unfolding free_store_zero
  free-store f = λ i. record {
    number = eqb-true s.number 0 f i;
    address = eqb-true s.address 0 (and_left _ _ z) i;
    width = eqb-true s.width 0 (and_left _ _ (and_right (eqb s.address 0) _ z)) i;
    value = eqb-true s.value 0 (and_right (eqb s.width 0) _ (and_right (eqb s.address 0) _ z)) i;
  }
    where
      z : (eqb s.address 0 && (eqb s.width 0 && eqb s.value 0)) ≡ true
      z = or-then (not (is_free_store s)) _ store-zero (ap not f)

pub good-store : (b : Hierarchy) (last : ℕ) (s : StoreEntry) → free_store_zero s ≡ true → leb s.number last ≡ true → store_passes b s ≡ true → good_store b last s ≡ true
unfolding good_store
good-store b last s z g p = and_both _ _ z (and_both _ _ g p)

module _ (b : Hierarchy) (last h : ℕ) (ss : List StoreEntry) (l : LoadEntry) (g : good_load b last h ss l ≡ true) where
  pub load-zero : free_load_zero l ≡ true
  unfolding good_load
  load-zero = and_left _ _ g

  after-zero : (leb l.number last && (load_passes b l && wait_good h ss l)) ≡ true
  unfolding good_load
  after-zero = and_right (free_load_zero l) _ g

  after-given : (load_passes b l && wait_good h ss l) ≡ true
  after-given = and_right (leb l.number last) _ after-zero

  pub load_given : leb l.number last ≡ true
  load_given = and_left _ _ after-zero

  pub load-passes : load_passes b l ≡ true
  load-passes = and_left _ _ after-given

  pub load-waits : committed_wait_at h l ≡ true
  load-waits = and_left _ _ (and_right (load_passes b l) _ after-given)

  after-waits : (waiting_uncovered_at ss l && forwarded_answered_at l) ≡ true
  after-waits = and_right (committed_wait_at h l) _ (and_right (load_passes b l) _ after-given)

  pub load-exposed : waiting_uncovered_at ss l ≡ true
  load-exposed = and_left _ _ after-waits

  pub load_told : forwarded_answered_at l ≡ true
  load_told = and_right (waiting_uncovered_at ss l) _ after-waits

  pub load_low : l.number ≤ last
  load_low = leb-true l.number last load_given

  -- a free place is zero
  pub free-load : is_free_load l ≡ true → l ≡ no_load
  unfolding free_load_zero
  free-load f = λ i. record {
    number = eqb-true l.number 0 f i;
    address = eqb-true l.address 0 (and_left _ _ z) i;
    width = eqb-true l.width 0 (and_left _ _ (and_right (eqb l.address 0) _ z)) i;
    waiting = not-true l.waiting (and_left _ _ flags) i;
    forwarded = not-true l.forwarded (and_right (not l.waiting) _ flags) i;
  }
    where
      z : (eqb l.address 0 && (eqb l.width 0 && (not l.waiting && not l.forwarded))) ≡ true
      z = or-then (not (is_free_load l)) _ load-zero (ap not f)

      flags : (not l.waiting && not l.forwarded) ≡ true
      flags = and_right (eqb l.width 0) _ (and_right (eqb l.address 0) _ z)

pub good-load :
    (b : Hierarchy) (last h : ℕ) (ss : List StoreEntry) (l : LoadEntry) → free_load_zero l ≡ true → leb l.number last ≡ true → load_passes b l ≡ true
    → committed_wait_at h l ≡ true → waiting_uncovered_at ss l ≡ true → forwarded_answered_at l ≡ true → good_load b last h ss l ≡ true
unfolding good_load
good-load b last h ss l z g p c x f = and_both _ _ z (and_both _ _ g (and_both _ _ p (and_both _ _ c (and_both _ _ x f))))

-- ---- the view is well-formed

pub parts : (q : Queues) (b : Hierarchy) → well_formed q b ≡ true → Parts q b
unfolding well_formed queues_formed every good_request
parts q b e =
    let e₁₀ = and_right (fits b) _ e in
    let e₁₁ = and_right (lines_formed b) _ e₁₀ in
    let e₀ = and_left (queues_formed q b) _ e₁₁ in
    let e₁ = and_right (queue_lengths q) _ e₀ in
    let f = and_right (free_zero q) _ e₁ in
    let e₂ = and_right (free_places_last q) _ f in
    let e₃ = and_right (last_number_fits q) _ e₂ in
    let e₄ = and_right (committed_up_to_last q) _ e₃ in
    let e₅ = and_right (numbers_rise q) _ e₄ in
    let e₆ = and_right (numbers_up_to_last q) _ e₅ in
    let e₇ = and_right (numbers_apart q) _ e₆ in
    let e₈ = and_right (accesses_pass q b) _ e₇ in
    let e₉ = and_right (committed_wait q) _ e₈ in
    let e₁₂ = and_right (waiting_uncovered q) _ e₉ in
    let r = and_right (forwarded_answered q) _ e₁₂ in
    let r₁ = and_right (request_absent q.request b) _ r in
    let r₂ = and_right (request_inside q.request b) _ r₁ in
    let places = and_left (queue_lengths q) _ e₀ in
    let zero = and_left (free_zero q) _ e₁ in
    let last = and_left (free_places_last q) _ f in
    let rise = and_left (numbers_rise q) _ e₄ in
    let given = and_left (numbers_up_to_last q) _ e₅ in
    let pass = and_left (accesses_pass q b) _ e₇ in
    record {
      fit = and_left (fits b) _ e;
      lines = and_left (lines_formed b) _ e₁₀;
      store-places = eqb-true (length q.stores) 16 (and_left _ _ places);
      load-places = eqb-true (length q.loads) 8 (and_right (eqb (length q.stores) 16) _ places);
      last_fits = leb-true q.last top_number (and_left (last_number_fits q) _ e₂);
      order = leb-true q.committed q.last (and_left (committed_up_to_last q) _ e₃);
      stores-rise = rising-both (λ s. s.number) 0 q.stores (and_left _ _ last) (and_left _ _ rise);
      loads-rise =
          rising-both (λ l. l.number) 0 q.loads (and_right (free_last (λ s. s.number) q.stores) _ last)
          (and_right (ascending (λ s. s.number) 0 q.stores) _ rise);
      stores-good =
          stores-join b q.last q.stores (and_left _ _ zero) (and_left _ _ given) (and_left _ _ pass);
      loads-good =
          loads-join b q.last q.committed q.stores q.loads (and_right (every free_store_zero q.stores) _ zero)
          (and_right (every (λ s. leb s.number q.last) q.stores) _ given)
          (and_right (every (store_passes b) q.stores) _ pass) (and_left (committed_wait q) _ e₈) (and_left (waiting_uncovered q) _ e₉)
          (and_left (forwarded_answered q) _ e₁₂);
      apart = and_left (numbers_apart q) _ e₆;
      wanted =
          and_both (request_absent q.request b) _ (and_left _ _ r)
          (and_both (request_inside q.request b) (request_wanted q.request q b.figures.policy) (and_left _ _ r₁) (and_left _ _ r₂));
      marks = and_right (queues_formed q b) _ e₁₁;
    }

pub whole : (q : Queues) (b : Hierarchy) → Parts q b → well_formed q b ≡ true
unfolding well_formed queues_formed every good_request
whole q b p =
    let ss : (x : StoreEntry → Bool) → ((s : StoreEntry) → good_store b q.last s ≡ true → x s ≡ true) → every x q.stores ≡ true = λ x h. every-imp _ x h q.stores p.stores-good in
    let ls : (x : LoadEntry → Bool) → ((l : LoadEntry) → good_load b q.last q.committed q.stores l ≡ true → x l ≡ true) → every x q.loads ≡ true = λ x h. every-imp _ x h q.loads p.loads-good in
    let w = and_right (request_absent q.request b) _ p.wanted in
    and_both _ _ p.fit
    (and_both _ _ p.lines
    (and_both (queues_formed q b) _
    (and_both _ _ (and_both _ _ (eq-eqb _ 16 p.store-places) (eq-eqb _ 8 p.load-places))
    (and_both _ _ (and_both _ _ (ss free_store_zero (store-zero b q.last)) (ls free_load_zero (load-zero b q.last q.committed q.stores)))
    (and_both _ _ (and_both _ _ (rising-last _ 0 q.stores p.stores-rise) (rising-last _ 0 q.loads p.loads-rise))
    (and_both _ _ (le-leb _ _ p.last_fits)
    (and_both _ _ (le-leb _ _ p.order)
    (and_both _ _ (and_both _ _ (rising-ascends _ 0 q.stores p.stores-rise) (rising-ascends _ 0 q.loads p.loads-rise))
    (and_both _ _ (and_both _ _ (ss (λ s. leb s.number q.last) (store_given b q.last)) (ls (λ l. leb l.number q.last) (load_given b q.last q.committed q.stores)))
    (and_both _ _ p.apart
    (and_both _ _ (and_both _ _ (ss (store_passes b) (store-passes b q.last)) (ls (load_passes b) (load-passes b q.last q.committed q.stores)))
    (and_both _ _ (ls (committed_wait_at q.committed) (load-waits b q.last q.committed q.stores))
    (and_both _ _ (ls (waiting_uncovered_at q.stores) (load-exposed b q.last q.committed q.stores))
    (and_both _ _ (ls forwarded_answered_at (load_told b q.last q.committed q.stores))
    (and_both (request_absent q.request b) _ (and_left (request_absent q.request b) (request_inside q.request b && request_wanted q.request q b.figures.policy) p.wanted)
    (and_both (request_inside q.request b) _ (and_left (request_inside q.request b) _ w)
    (and_both (request_wanted q.request q b.figures.policy) true (and_right (request_inside q.request b) _ w) refl)))))))))))))))
    p.marks))

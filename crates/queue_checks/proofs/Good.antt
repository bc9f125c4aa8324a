-- Well-formed queues, as the code tests them: one entry in use, one free place, the rest of a queue; and that the tests of both
-- queues are the clauses of well-formed.
use Prim.Native.Nat.{ℕ, zero, suc, ◌+◌, ◌%◌, ◌^◌, ◌≤◌, ◌<◌}
use native.Mathlib.Numerals.{add-one}
use Rattle.std.specs.List.{list_any, range_with_len}
use mathlib.Core.Path.{◌≡◌, refl, sym, ◌∙◌, ap}
use mathlib.Core.Bool.{Bool, true, false, cond, not, ◌&&◌, ◌||◌, and-false}
use mathlib.Core.List.{List}
use native.Mathlib.Omega.{arith}
use lib.Dec.{eqb, ltb, leb}
use lib.ListN.{length, get_or, drop}
use borrow.Author.Tests.{eqb-true, ltb-true, ltb-false, le-leb, lt-leb, ne_eqb, not-true}
use Rattle.lists.specs.Counted.{some_from}
use Rattle.lists.specs.Padded.{every, ascending, free_last, rising}
use Rattle.lists.proofs.Cond.{cases, and_left, and_right, and_both}
use Rattle.lists.proofs.Every.{every-imp}
use Rattle.lists.proofs.Rising.{rising-both, rising-last, rising-ascends}
use Rattle.lists.proofs.Loops.{every-same, rise-free}
use Rattle.rules.specs.declared.StoreEntry.{StoreEntry}
use Rattle.rules.specs.declared.LoadEntry.{LoadEntry}
use Rattle.rules.specs.Shape.{Queues, Hierarchy, no_store, no_load}
use Rattle.rules.specs.Forward.{some_uncovered}
use Rattle.rules.specs.Calls.{width_allowed, passes, access_checks}
use Rattle.rules.specs.WellFormed.{free_zero, free_places_last, committed_up_to_last, numbers_rise, numbers_up_to_last, numbers_apart, accesses_pass, committed_wait, waiting_uncovered, forwarded_answered, free_store_zero, free_load_zero, store_passes, load_passes, committed_wait_at, waiting_uncovered_at, forwarded_answered_at, alone}
use Rattle.rules.proofs.QueueView.{good_store, good_load, stores-join, loads-join, store-zero, store_given, store-passes, load-zero, load_given, load-passes, load-waits, load-exposed, load_told}
use Rattle.access.specs.AccessChecks.{sized}
use Rattle.queue_checks.specs.Good.{queues_from, queues_good, zero_store, zero_load, store_good, load_good, stores_good, loads_good}

-- ---- tests

pub and-true : (a : Bool) → (a && true) ≡ a
and-true true = refl
and-true false = refl

iff : (a b : Bool) → (a ≡ true → b ≡ true) → (b ≡ true → a ≡ true) → a ≡ b
iff true b f g = sym (f refl)
iff false true f g = g refl
iff false false f g = refl

-- some of the numbers from i on passes the test
pub some-list : (p : ℕ → Bool) (i n : ℕ) → list_any p (range_with_len i n) ≡ some_from p i n
unfolding some_from
some-list p i zero = refl
some-list p i (suc n) = rw (add-one i, some-list p (suc i) n) refl

-- ---- accesses

-- a value below a limit
below-leb : (v n : ℕ) → ltb v n ≡ not (leb n v)
below-leb v n = cases (ltb v n)
    (λ e. e ∙ sym (ap not (lt-leb n v (ltb-true v n e))))
    (λ e. e ∙ sym (ap not (le-leb n v (ltb-false v n e))))

-- an access that passes its checks ends in memory
pub passes-end : (size a w : ℕ) → passes (access_checks (sized size) a w) ≡ true → a + w ≤ size
unfolding every
passes-end size a w e =
    ltb-false size (a + w)
    (not-true (ltb size (a + w))
    (and_left _ true (and_right (not (not (eqb (a % w) 0))) _ (and_right (not (not (width_allowed w))) _ e))))

-- ---- one entry in use

-- a number above m is not 0
used : {m n : ℕ} → m < n → eqb n 0 ≡ false
used {m} {n} h = ne_eqb n 0 (λ z. omega arith)

-- what is asked of a held store, test by test
pub store-tests : (last size m : ℕ) (s : StoreEntry)
    → (ltb m s.number && store_good last size s)
    ≡ (ltb m s.number && (leb s.number last && (passes (access_checks (sized size) s.address s.width) && ltb s.value (256 ^ s.width))))
unfolding store_good free_store_zero store_passes
store-tests last size m s = cases (ltb m s.number)
    (λ e. rw (e, used (ltb-true m s.number e), below-leb s.value (256 ^ s.width)))
    (λ e. rw e)

-- what is asked of a listed load, test by test
pub load-tests : (last h size m : ℕ) (ss : List StoreEntry) (l : LoadEntry)
    → (ltb m l.number && load_good last h size ss l)
    ≡ (ltb m l.number && (leb l.number last && (passes (access_checks (sized size) l.address l.width) && cond l.waiting (not l.forwarded && some_uncovered l.number ss l.address l.width) (ltb h l.number))))
unfolding load_good free_load_zero load_passes committed_wait_at waiting_uncovered_at forwarded_answered_at
load-tests last h size m ss l = cases (ltb m l.number)
    (λ e.
    rw (e, used (ltb-true m l.number e))
    (ap (λ (t : Bool). leb l.number last && (passes (access_checks (sized size) l.address l.width) && t)) (told l.waiting l.forwarded (ltb h l.number) (some_uncovered l.number ss l.address l.width))))
    (λ e. rw e)
  where
    told : (w f a u : Bool) → ((w || a) && ((not w || u) && (not f || not w))) ≡ cond w (not f && u) a
    told true true a u = and-false u
    told true false a u = and-true u
    told false true a u = and-true a
    told false false a u = and-true a

-- ---- one free place

zero-store : (last size : ℕ) (s : StoreEntry) → (eqb s.number 0 && store_good last size s) ≡ zero_store s
unfolding store_good free_store_zero store_passes zero_store
zero-store last size s = cases (eqb s.number 0)
    (λ e.
    let low : leb s.number last ≡ true = le-leb s.number last (omega (arith, eqb-true s.number 0 e)) in
    rw (e, low) (and-true _))
    (λ e. rw e)

-- a place with neither flag is not waiting and forwarded
neither : (a w s t : Bool) → ((a && (w && (s && t))) && (t || s)) ≡ (a && (w && (s && t)))
neither false w s t = refl
neither true false s t = refl
neither true true false t = refl
neither true true true false = refl
neither true true true true = refl

zero-load : (last h size : ℕ) (ss : List StoreEntry) (l : LoadEntry) → (eqb l.number 0 && load_good last h size ss l) ≡ zero_load l
unfolding load_good free_load_zero load_passes committed_wait_at waiting_uncovered_at forwarded_answered_at zero_load
zero-load last h size ss l = cases (eqb l.number 0)
    (λ e.
    let low : leb l.number last ≡ true = le-leb l.number last (omega (arith, eqb-true l.number 0 e)) in
    rw (e, low) (neither (eqb l.address 0) (eqb l.width 0) (not l.waiting) (not l.forwarded)))
    (λ e. rw e)

-- ---- from a free place on

pub stores-free :
    (last size m : ℕ) (ss : List StoreEntry) (i : ℕ) → i < length ss → (get_or ss i no_store).number ≡ 0
    → stores_good last size m (drop i ss) ≡ every zero_store (drop i ss)
unfolding stores_good
stores-free last size m ss i h e =
    rise-free (λ s. s.number) no_store ss i (store_good last size) m h e
    ∙ every-same _ zero_store (zero-store last size) (drop i ss)

pub loads-free :
    (last h size m : ℕ) (ss : List StoreEntry) (ls : List LoadEntry) (i : ℕ) → i < length ls → (get_or ls i no_load).number ≡ 0
    → loads_good last h size ss m (drop i ls) ≡ every zero_load (drop i ls)
unfolding loads_good
loads-free last h size m ss ls i p e =
    rise-free (λ l. l.number) no_load ls i (load_good last h size ss) m p e
    ∙ every-same _ zero_load (zero-load last h size ss) (drop i ls)

-- ---- both queues

module _ (last h size : ℕ) (ss : List StoreEntry) (ls : List LoadEntry) where
  -- the tests of the code
  abbrev pub tested : Bool
  tested = leb h last && (stores_good last size 0 ss && (loads_good last h size ss 0 ls && every (alone ls) ss))

  abbrev q : Queues
  q = queues_from last h ss ls

  abbrev b : Hierarchy
  b = sized size

  there : tested ≡ true → queues_good q b ≡ true
  unfolding queues_good every stores_good loads_good store_good load_good good_store good_load
  there e =
      let order = and_left (leb h last) _ e in
      let e₁ = and_right (leb h last) _ e in
      let sg : (rising (λ s. s.number) 0 ss && every (good_store b last) ss) ≡ true = and_left (stores_good last size 0 ss) _ e₁ in
      let e₂ = and_right (stores_good last size 0 ss) _ e₁ in
      let lg : (rising (λ l. l.number) 0 ls && every (good_load b last h ss) ls) ≡ true = and_left (loads_good last h size ss 0 ls) _ e₂ in
      let apart = and_right (loads_good last h size ss 0 ls) (every (alone ls) ss) e₂ in
      let sr = and_left (rising (λ s. s.number) 0 ss) _ sg in
      let lr = and_left (rising (λ l. l.number) 0 ls) _ lg in
      let se = and_right (rising (λ s. s.number) 0 ss) (every (good_store b last) ss) sg in
      let le = and_right (rising (λ l. l.number) 0 ls) (every (good_load b last h ss) ls) lg in
      let sa : (x : StoreEntry → Bool) → ((s : StoreEntry) → good_store b last s ≡ true → x s ≡ true) → every x ss ≡ true = λ x f. every-imp _ x f ss se in
      let la : (x : LoadEntry → Bool) → ((l : LoadEntry) → good_load b last h ss l ≡ true → x l ≡ true) → every x ls ≡ true = λ x f. every-imp _ x f ls le in
      and_both (free_zero q) _ (and_both _ _ (sa free_store_zero (store-zero b last)) (la free_load_zero (load-zero b last h ss)))
      (and_both (free_places_last q) _ (and_both _ _ (rising-last _ 0 ss sr) (rising-last _ 0 ls lr))
      (and_both (committed_up_to_last q) _ order
      (and_both (numbers_rise q) _ (and_both _ _ (rising-ascends _ 0 ss sr) (rising-ascends _ 0 ls lr))
      (and_both (numbers_up_to_last q) _ (and_both _ _ (sa (λ s. leb s.number last) (store_given b last)) (la (λ l. leb l.number last) (load_given b last h ss)))
      (and_both (numbers_apart q) _ apart
      (and_both (accesses_pass q b) _ (and_both _ _ (sa (store_passes b) (store-passes b last)) (la (load_passes b) (load-passes b last h ss)))
      (and_both (committed_wait q) _ (la (committed_wait_at h) (load-waits b last h ss))
      (and_both (waiting_uncovered q) _ (la (waiting_uncovered_at ss) (load-exposed b last h ss))
      (and_both (forwarded_answered q) true (la forwarded_answered_at (load_told b last h ss)) refl)))))))))

  back : queues_good q b ≡ true → tested ≡ true
  unfolding queues_good every stores_good loads_good store_good load_good good_store good_load
  back e =
      let zero = and_left (free_zero q) _ e in
      let e₁ = and_right (free_zero q) _ e in
      let ends = and_left (free_places_last q) _ e₁ in
      let e₂ = and_right (free_places_last q) _ e₁ in
      let order = and_left (committed_up_to_last q) _ e₂ in
      let e₃ = and_right (committed_up_to_last q) _ e₂ in
      let rise = and_left (numbers_rise q) _ e₃ in
      let e₄ = and_right (numbers_rise q) _ e₃ in
      let given = and_left (numbers_up_to_last q) _ e₄ in
      let e₅ = and_right (numbers_up_to_last q) _ e₄ in
      let apart = and_left (numbers_apart q) _ e₅ in
      let e₆ = and_right (numbers_apart q) _ e₅ in
      let pass = and_left (accesses_pass q b) _ e₆ in
      let e₇ = and_right (accesses_pass q b) _ e₆ in
      let wait = and_left (committed_wait q) _ e₇ in
      let e₈ = and_right (committed_wait q) _ e₇ in
      let bare = and_left (waiting_uncovered q) _ e₈ in
      let told = and_left (forwarded_answered q) _ (and_right (waiting_uncovered q) _ e₈) in
      let se : every (good_store b last) ss ≡ true = stores-join b last ss (and_left _ _ zero) (and_left _ _ given) (and_left _ _ pass) in
      let le : every (good_load b last h ss) ls ≡ true =
      loads-join b last h ss ls (and_right (every free_store_zero ss) _ zero) (and_right (every (λ s. leb s.number last) ss) _ given)
      (and_right (every (store_passes b) ss) _ pass) wait bare told in
      let sr = rising-both (λ s. s.number) 0 ss (and_left _ _ ends) (and_left _ _ rise) in
      let lr =
      rising-both (λ l. l.number) 0 ls (and_right (free_last (λ s. s.number) ss) _ ends)
      (and_right (ascending (λ s. s.number) 0 ss) _ rise) in
      and_both (leb h last) _ order
      (and_both (stores_good last size 0 ss) _ (and_both _ _ sr se)
      (and_both (loads_good last h size ss 0 ls) _ (and_both _ _ lr le) apart))

  -- are the clauses
  pub tested-good : tested ≡ queues_good q b
  tested-good = iff tested (queues_good q b) there back

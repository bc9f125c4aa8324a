-- Entries of the queues: an access that passes checks 2, 3 and 4; what the checks of a call tell; what the tests of the rules tell of a
-- store or a load; and what the value of a load tells of its line.
use Prim.Native.Nat.{ℕ, zero, suc, ◌+◌, ◌*◌, ◌%◌, ◌≤◌, ◌<◌}
use mathlib.Core.Path.{◌≡◌, refl, sym, ◌∙◌, ap, subst}
use mathlib.Core.Bool.{true, false, not, ◌&&◌, ◌||◌}
use mathlib.Core.List.{List, [], ◌∷◌}
use mathlib.Core.Logic.{◌⊎◌, inl, inr, ⊎_elim}
use mathlib.Core.Option.{Option, some, none}
use native.Mathlib.Omega.{arith}
use lib.Dec.{ltb, leb, eqb}
use borrow.Author.Tests.{ltb-false, leb-true, leb-false, eqb-true, eqb-false, le-ltb, lt-ltb, le-leb, ne_eqb, eq-eqb, not-true, not-false}
use Rattle.lists.specs.Padded.{any, every, first}
use Rattle.lists.specs.Counted.{some_from}
use Rattle.lists.specs.Bytes.{add_byte, gather}
use Rattle.lists.proofs.Bytes.{some-lacking}
use Rattle.lists.proofs.Cond.{cases, and_left, and_right, and_both, or_left, or_right, or-one, or-two, or-then, or-by, wrong}
use Rattle.lists.proofs.Every.{every-split}
use Rattle.lists.proofs.Some.{any-first}
use Rattle.rules.specs.declared.StoreEntry.{StoreEntry}
use Rattle.rules.specs.declared.LoadEntry.{LoadEntry}
use Rattle.rules.specs.Shape.{Queues, Hierarchy, top_number, no_load, is_free_store, is_free_load, is_free, line_of}
use Rattle.rules.specs.Lines.{present, cached_byte}
use Rattle.rules.specs.Forward.{older_covers, load_byte, load_value, some_uncovered, all_forwarded}
use Rattle.rules.specs.Checkpoints.{in_use, name_allowed}
use Rattle.rules.specs.Calls.{load, store, retry, commit, abort, reply, flush, checkpoint, restore, check, passes, width_allowed, access_checks, value_check, number_check, call_checks, committed_store, waiting_at, is_none, answered, answered_by, waits_below, oldest_store, store_ready, wants_line}
use Rattle.rules.specs.WellFormed.{alone, store_passes, load_passes, committed_wait_at, waiting_uncovered_at, waits_for}
use Rattle.rules.proofs.QueueView.{good_store, good_load, store-zero, store_low, store-passes, good-store, load-zero, load_low, load-passes, load-waits, load-exposed, load_told, good-load}

-- ---- an access

pub record Fine (size a w : ℕ) : Type 0 where
  pub one_word : a % 4 + w ≤ 4
  pub inside : a + w ≤ size
  pub some_byte : 0 < w

pub fine : (b : Hierarchy) (a w : ℕ) → passes (access_checks b a w) ≡ true → Fine b.size a w
unfolding every
fine b a w e =
    cases (eqb w 1) (λ h. at 1 (eqb-true w 1 h) (λ z. omega arith) (omega arith)) λ h₁.
    cases (eqb w 2) (λ h. at 2 (eqb-true w 2 h) (λ z. omega arith) (omega arith)) λ h₂.
    at 4 (eqb-true w 4 (rw (h₁, h₂) at allowed)) (λ z. omega arith) (omega arith)
  where
    allowed : width_allowed w ≡ true
    allowed = not-false _ (not-true _ (and_left _ _ e))

    e₁ : (not (not (eqb (a % w) 0)) && (not (ltb b.size (a + w)) && true)) ≡ true
    e₁ = and_right (not (not (width_allowed w))) _ e

    at : (n : ℕ) → w ≡ n → (a % n ≡ 0 → a % 4 + n ≤ 4) → 0 < n → Fine b.size a w
    at n q g pos =
        let m : a % w ≡ 0 = eqb-true (a % w) 0 (not-false _ (not-true _ (and_left _ _ e₁))) in
        let m' : a % n ≡ 0 = subst (λ (k : ℕ). a % k ≡ 0) q m in
        record {
          one_word = omega (arith, g m');
          inside = ltb-false b.size (a + w) (not-true _ (and_left _ _ (and_right (not (not (eqb (a % w) 0))) _ e₁)));
          some_byte = omega arith;
        }

-- its line lies in memory
pub line-inside : (b : Hierarchy) (a w : ℕ) → passes (access_checks b a w) ≡ true → 16 * line_of a < b.size
unfolding line_of
line-inside b a w e = let f = fine b a w e in omega arith

-- its bytes stand in one line
pub one_line : (b : Hierarchy) (a w : ℕ) → passes (access_checks b a w) ≡ true → (j : ℕ) → a ≤ j → j < a + w → line_of j ≡ line_of a
unfolding line_of
one_line b a w e j lo hi = let f = fine b a w e in omega arith

-- ---- what the checks of a call tell, if they pass

pub record LoadChecked (a w : ℕ) (q : Queues) (b : Hierarchy) : Type 0 where
  pub access : passes (access_checks b a w) ≡ true
  pub room : q.last ≡ top_number → ⊥
  pub place : any is_free_load q.loads ≡ true

pub record StoreChecked (a w v : ℕ) (q : Queues) (b : Hierarchy) : Type 0 where
  pub access : passes (access_checks b a w) ≡ true
  pub fits_width : not (value_check w v).applies ≡ true
  pub room : q.last ≡ top_number → ⊥
  pub place : any is_free_store q.stores ≡ true

module _ (q : Queues) (b : Hierarchy) where
  pub load-checked : (a w : ℕ) → passes (call_checks (load a w) q b) ≡ true → LoadChecked a w q b
  load-checked a w e =
      let c = every-split (λ k. not k.applies) (access_checks b a w) _ e in
      record { access = c.0; room = number c.1; place = space c.1 }
    where
      number : passes (number_check q ∷ check 12 (not (any is_free_load q.loads)) ∷ []) ≡ true → q.last ≡ top_number → ⊥
      number c = unfold every in (eqb-false q.last top_number (not-true _ (and_left _ _ c)))

      space : passes (number_check q ∷ check 12 (not (any is_free_load q.loads)) ∷ []) ≡ true → any is_free_load q.loads ≡ true
      space c = unfold every in (not-false _ (not-true _ (and_left _ _ (and_right (not (number_check q).applies) _ c))))

  pub store-checked : (a w v : ℕ) → passes (call_checks (store a w v) q b) ≡ true → StoreChecked a w v q b
  store-checked a w v e =
      let c = every-split (λ k. not k.applies) (access_checks b a w) _ e in
      let d = rest c.1 in
      record { access = c.0; fits_width = d.0; room = d.1; place = d.2 }
    where
      rest :
          passes (value_check w v ∷ number_check q ∷ check 11 (not (any is_free_store q.stores)) ∷ []) ≡ true
          → (not (value_check w v).applies ≡ true) × (q.last ≡ top_number → ⊥) × (any is_free_store q.stores ≡ true)
      rest c = unfold every in (
        and_left _ _ c,
        eqb-false q.last top_number (not-true _ (and_left _ _ (and_right (not (value_check w v).applies) _ c))),
        not-false _ (not-true _ (and_left _ _ (and_right (not (number_check q).applies) _ (and_right (not (value_check w v).applies) _ c)))),
      )

  pub retry-checked : (i : ℕ) → passes (call_checks (retry i) q b) ≡ true → any (waiting_at i) q.loads ≡ true
  unfolding every
  retry-checked i e = not-false _ (not-true _ (and_left _ _ e))

  pub commit-checked : (k : ℕ) → passes (call_checks (commit k) q b) ≡ true → (q.committed ≤ k) × (k ≤ q.last)
  unfolding every
  commit-checked k e =
      let t = not-true (ltb k q.committed || ltb q.last k) (and_left _ _ e) in
      (ltb-false k q.committed (or_left _ _ t), ltb-false q.last k (or_right (ltb k q.committed) _ t))

  pub abort-checked : (n : ℕ) → passes (call_checks (abort n) q b) ≡ true → (q.committed < n) × (n ≤ q.last + 1)
  unfolding every
  abort-checked n e =
      let t = not-true (leb n q.committed || ltb (q.last + 1) n) (and_left _ _ e) in
      (leb-false n q.committed (or_left _ _ t), ltb-false (q.last + 1) n (or_right (leb n q.committed) _ t))

  pub checkpoint-checked : (x : ℕ) → passes (call_checks (checkpoint x) q b) ≡ true → (name_allowed x ≡ true) × (in_use x q.checkpoints ≡ false)
  unfolding every
  checkpoint-checked x e =
      (not-false _ (not-true _ (and_left _ _ e)), not-true _ (and_left _ _ (and_right (not (not (name_allowed x))) _ e)))

  pub restore-checked : (x : ℕ) → passes (call_checks (restore x) q b) ≡ true → in_use x q.checkpoints ≡ true
  unfolding every
  restore-checked x e = not-false _ (not-true _ (and_left _ _ (and_right (not (not (name_allowed x))) _ e)))

  pub reply-checked : passes (call_checks reply q b) ≡ true → is_free q.request ≡ false
  unfolding every
  reply-checked e = not-true _ (and_left _ _ e)

  pub flush-checked : passes (call_checks flush q b) ≡ true → any (committed_store q.committed) q.stores ≡ false
  unfolding every
  flush-checked e = not-true _ (and_left _ _ e)

-- ---- a held store

pub store_access : (b : Hierarchy) (last : ℕ) (s : StoreEntry) → good_store b last s ≡ true → is_free_store s ≡ false → passes (access_checks b s.address s.width) ≡ true
unfolding store_passes
store_access b last s g f = and_left _ _ (or-then (is_free_store s) _ (store-passes b last s g) f)

-- a good store stays good, in memory of the same size and where later numbers are given
pub store-later : (b c : Hierarchy) (m n : ℕ) → c.size ≡ b.size → m ≤ n → (s : StoreEntry) → good_store b m s ≡ true → good_store c n s ≡ true
store-later b c m n z h s g =
    good-store c n s (store-zero b m s g) (le-leb s.number n (omega (arith, store_low b m s g)))
    (unfold store_passes in (rw z (store-passes b m s g)))

-- ---- a listed load

pub load-access : (b : Hierarchy) (last h : ℕ) (ss : List StoreEntry) (l : LoadEntry) → good_load b last h ss l ≡ true → is_free_load l ≡ false → passes (access_checks b l.address l.width) ≡ true
unfolding load_passes
load-access b last h ss l g f = or-then (is_free_load l) _ (load-passes b last h ss l g) f

pub load-uncovered : (b : Hierarchy) (last h : ℕ) (ss : List StoreEntry) (l : LoadEntry) → good_load b last h ss l ≡ true → is_free_load l ≡ false → l.waiting ≡ true → some_uncovered l.number ss l.address l.width ≡ true
unfolding waiting_uncovered_at
load-uncovered b last h ss l g f w =
    or-then (not l.waiting) _ (or-then (is_free_load l) _ (load-exposed b last h ss l g) f) (ap not w)

-- a good load stays good, if what it waits for, and the number that it is above, allow
pub load-later :
    (b c : Hierarchy) (m n h k : ℕ) (ss tt : List StoreEntry) (l : LoadEntry) → c.size ≡ b.size → m ≤ n
    → (committed_wait_at h l ≡ true → committed_wait_at k l ≡ true) → (waiting_uncovered_at ss l ≡ true → waiting_uncovered_at tt l ≡ true)
    → good_load b m h ss l ≡ true → good_load c n k tt l ≡ true
load-later b c m n h k ss tt l z le p x g =
    good-load c n k tt l (load-zero b m h ss l g) (le-leb l.number n (omega (arith, load_low b m h ss l g)))
    (unfold load_passes in (rw z (load-passes b m h ss l g))) (p (load-waits b m h ss l g)) (x (load-exposed b m h ss l g))
    (load_told b m h ss l g)

-- a byte is uncovered exactly if not each is forwarded
pub uncovered-is : (i : ℕ) (ss : List StoreEntry) (a w : ℕ) → some_uncovered i ss a w ≡ not (all_forwarded i ss a w)
unfolding some_uncovered all_forwarded
uncovered-is i ss a w = some-lacking _ _ (λ x. refl) a w

-- a byte that is covered by no older store still is, if the stores cover no more
uncovered-map :
    (i : ℕ) (ss tt : List StoreEntry) → ((a : ℕ) → any (older_covers i a) ss ≡ false → any (older_covers i a) tt ≡ false) → (w a : ℕ)
    → some_uncovered i ss a w ≡ true → some_uncovered i tt a w ≡ true
unfolding some_uncovered some_from
uncovered-map i ss tt h zero a e = e
uncovered-map i ss tt h (suc w) a e =
    cases (any (older_covers i a) ss) (λ t. or-two (not (any (older_covers i a) tt)) _ (uncovered-map i ss tt h w (suc a) (rw t at e)))
    (λ t. or-one (not (any (older_covers i a) tt)) _ (ap not (h a t)))

pub waiting-map :
    (ss tt : List StoreEntry) (l : LoadEntry) → ((a : ℕ) → any (older_covers l.number a) ss ≡ false → any (older_covers l.number a) tt ≡ false)
    → waiting_uncovered_at ss l ≡ true → waiting_uncovered_at tt l ≡ true
unfolding waiting_uncovered_at
waiting-map ss tt l h e =
    or-by (is_free_load l) _ (λ f. or-by (not l.waiting) _ (λ w.
    uncovered-map l.number ss tt h l.width l.address (or-then (not l.waiting) _ (or-then (is_free_load l) _ e f) w)))

-- ---- the tests of the rules

pub not-covers : (i a : ℕ) (s : StoreEntry) → i ≤ s.number → older_covers i a s ≡ false
unfolding older_covers
not-covers i a s h = cases (is_free_store s) (λ f. rw f) (λ f. rw (f, le-ltb s.number i h))

-- the oldest store, ready to be drained
pub record Ready (q : Queues) : Type 0 where
  pub held : is_free_store (oldest_store q) ≡ false
  pub low : (oldest_store q).number ≤ q.committed
  pub first : any (waits_below (oldest_store q).number) q.loads ≡ false

pub ready-tells : (q : Queues) → store_ready q ≡ true → Ready q
unfolding store_ready committed_store
ready-tells q e =
    let c : (not (is_free_store (oldest_store q)) && leb (oldest_store q).number q.committed) ≡ true = and_left _ _ e in
    record {
      held = not-true _ (and_left _ _ c);
      low = leb-true (oldest_store q).number q.committed (and_right (not (is_free_store (oldest_store q))) _ c);
      first = not-true _ (and_right (committed_store q.committed (oldest_store q)) _ e);
    }

pub ready-is : (q : Queues) → Ready q → store_ready q ≡ true
unfolding store_ready committed_store
ready-is q r = and_both _ _ (and_both _ _ (ap not r.held) (le-leb (oldest_store q).number q.committed r.low)) (ap not r.first)

pub not-below : (i : ℕ) (l : LoadEntry) → i ≤ l.number → waits_below i l ≡ false
unfolding waits_below
not-below i l h = cases (is_free_load l) (λ f. rw f) (λ f. rw (f, le-ltb l.number i h))

pub answered-below : (i : ℕ) (l : LoadEntry) → waits_below i (answered l) ≡ false
unfolding waits_below
answered-below i l = cases (is_free_load l) (λ f. rw f) (λ f. rw f (cases (ltb l.number i) (λ t. rw t) (λ t. rw t)))

pub free-below : (i : ℕ) → waits_below i no_load ≡ false
unfolding waits_below
free-below i = refl

-- a committed waiting load on a line
pub record For (h line : ℕ) (l : LoadEntry) : Type 0 where
  pub held : is_free_load l ≡ false
  pub low : l.number ≤ h
  pub waits : l.waiting ≡ true
  pub same : line_of l.address ≡ line

pub for-tells : (h line : ℕ) (l : LoadEntry) → waits_for h line l ≡ true → For h line l
unfolding waits_for
for-tells h line l e =
    let e₁ = and_right (not (is_free_load l)) _ e in
    let e₂ = and_right (leb l.number h) _ e₁ in
    record {
      held = not-true _ (and_left _ _ e);
      low = leb-true l.number h (and_left _ _ e₁);
      waits = and_left _ _ e₂;
      same = eqb-true _ line (and_right l.waiting _ e₂);
    }

pub for-is : (h line : ℕ) (l : LoadEntry) → For h line l → waits_for h line l ≡ true
unfolding waits_for
for-is h line l r = rw (r.held, le-leb l.number h r.low, r.waits) (eq-eqb (line_of l.address) line r.same)

pub free-for : (h line : ℕ) (l : LoadEntry) → is_free_load l ≡ true → waits_for h line l ≡ false
free-for h line l f = cases (waits_for h line l) (λ e. wrong f (for-tells h line l e).held) (λ e. e)

pub wants-tells : (b : Hierarchy) (h : ℕ) (l : LoadEntry) → wants_line b h l ≡ true → (For h (line_of l.address) l) × (present b (line_of l.address) ≡ false)
unfolding wants_line
wants-tells b h l e =
    let e₁ = and_right (not (is_free_load l)) _ e in
    let e₂ = and_right (leb l.number h) _ e₁ in (
      record { held = not-true _ (and_left _ _ e); low = leb-true l.number h (and_left _ _ e₁); waits = and_left _ _ e₂; same = refl },
      not-true _ (and_right l.waiting _ e₂),
    )

-- the waiting load of number i
pub record Waits (i : ℕ) (l : LoadEntry) : Type 0 where
  pub held : is_free_load l ≡ false
  pub numbered : l.number ≡ i
  pub waits : l.waiting ≡ true

pub at-tells : (i : ℕ) (l : LoadEntry) → waiting_at i l ≡ true → Waits i l
unfolding waiting_at
at-tells i l e =
    let e₁ = and_right (not (is_free_load l)) _ e in
    record {
      held = not-true _ (and_left _ _ e);
      numbered = eqb-true l.number i (and_left _ _ e₁);
      waits = and_right (eqb l.number i) _ e₁;
    }

-- the load that an inquiry about i tries
abbrev pub tried : ℕ → Queues → LoadEntry
tried i q = first (waiting_at i) no_load q.loads

pub tried-waits : (i : ℕ) (q : Queues) (b : Hierarchy) → passes (call_checks (retry i) q b) ≡ true → Waits i (tried i q)
tried-waits i q b e = at-tells i (tried i q) (any-first (waiting_at i) no_load q.loads (retry-checked q b i e))

-- a load that commit k leaves is above k, or waits
pub still-waits : (k : ℕ) (l : LoadEntry) → answered_by k l ≡ false → committed_wait_at k l ≡ true
unfolding committed_wait_at answered_by
still-waits k l e =
    or-by (is_free_load l) _ (λ f. or-by l.waiting _ (λ w.
    lt-ltb k l.number (cases (leb l.number k) (λ t. wrong refl (rw (f, t, w) at e)) (λ t. leb-false l.number k t))))

pub waits-not-answered : (k : ℕ) (l : LoadEntry) → l.waiting ≡ true → answered_by k l ≡ false
unfolding answered_by
waits-not-answered k l w = cases (is_free_load l) (λ f. rw f) (λ f. cases (leb l.number k) (λ t. rw (f, t, w)) (λ t. rw (f, t)))

pub alone-tells : (ls : List LoadEntry) (s : StoreEntry) → alone ls s ≡ true → is_free_store s ≡ false → any (λ l. eqb l.number s.number) ls ≡ false
unfolding alone
alone-tells ls s a f = not-true _ (or-then (is_free_store s) _ a f)

-- the loads name no more numbers
pub alone-map :
    (ls ms : List LoadEntry) (s : StoreEntry)
    → ((is_free_store s ≡ false) → any (λ l. eqb l.number s.number) ls ≡ false → any (λ l. eqb l.number s.number) ms ≡ false)
    → alone ls s ≡ true → alone ms s ≡ true
unfolding alone
alone-map ls ms s h a = or-by (is_free_store s) _ (λ f. ap not (h f (alone-tells ls s a f)))

-- a free place has no store's number
pub free-apart : (s : StoreEntry) → is_free_store s ≡ false → eqb no_load.number s.number ≡ false
free-apart s f = ne_eqb 0 s.number (λ z. eqb-false s.number 0 f (sym z))

-- ---- the value of a load

none-add : (x y : Option ℕ) → is_none (add_byte x y) ≡ true → (is_none x ≡ true) ⊎ (is_none y ≡ true)
unfolding add_byte
none-add none y e = inl refl
none-add (some x) none e = inr refl
none-add (some x) (some y) e = wrong e refl

some-add : (x y : Option ℕ) → is_none (add_byte x y) ≡ false → (is_none x ≡ false) × (is_none y ≡ false)
unfolding add_byte
some-add none y e = wrong refl e
some-add (some x) none e = wrong refl e
some-add (some x) (some y) e = (refl, refl)

module _ (i : ℕ) (ss : List StoreEntry) (b : Hierarchy) where
  byte-none : (a : ℕ) → is_none (load_byte i ss b a) ≡ true → any (older_covers i a) ss ≡ false
  unfolding load_byte
  byte-none a e = cases (any (older_covers i a) ss) (λ t. wrong (rw t at e) refl) (λ t. t)

  byte-some : (a : ℕ) → any (older_covers i a) ss ≡ false → is_none (load_byte i ss b a) ≡ false → present b (line_of a) ≡ true
  unfolding load_byte cached_byte
  byte-some a f e = cases (present b (line_of a)) (λ t. t) (λ t. wrong refl (rw (f, t) at e))

  -- a load that waits has a byte that no older store covers
  pub none-uncovered : (w a : ℕ) → is_none (load_value i a w ss b) ≡ true → some_uncovered i ss a w ≡ true
  unfolding load_value gather some_uncovered some_from
  none-uncovered zero a e = wrong e refl
  none-uncovered (suc w) a e =
      ⊎_elim (λ n. or-one _ _ (ap not (byte-none a n))) (λ n. or-two (not (any (older_covers i a) ss)) _ (none-uncovered w (suc a) n)) (none-add (load_byte i ss b a) _ e)

  -- and then not each byte is forwarded
  pub none-forwarded : (w a : ℕ) → is_none (load_value i a w ss b) ≡ true → all_forwarded i ss a w ≡ false
  none-forwarded w a e = not-true _ (sym (uncovered-is i ss a w) ∙ none-uncovered w a e)

  -- such a load has its value only from its line
  pub some-present :
      (l w a : ℕ) → ((j : ℕ) → a ≤ j → j < a + w → line_of j ≡ l) → some_uncovered i ss a w ≡ true → is_none (load_value i a w ss b) ≡ false
      → present b l ≡ true
  unfolding load_value gather some_uncovered some_from
  some-present l zero a h x e = wrong x refl
  some-present l (suc w) a h x e =
      let p = some-add (load_byte i ss b a) _ e in
      cases (any (older_covers i a) ss)
      (λ t. some-present l w (suc a) (λ j u v. h j (omega arith) (omega arith)) (rw t at x) p.1)
      (λ t. subst (λ (k : ℕ). present b k ≡ true) (h a (omega arith) (omega arith)) (byte-some a t p.0))

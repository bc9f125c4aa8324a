-- Loads fed from held stores: a load is forwarded exactly if each of its bytes is in an older held store, no other call touches that, an
-- inquiry reads its line, and a commit uses no line for such a load.
use Prim.Native.Nat.{ℕ, ◌<◌}
use mathlib.Core.Path.{◌≡◌, refl, sym, ◌∙◌, ap, subst}
use mathlib.Core.Bool.{Bool, true, false, cond, not, ◌&&◌, ◌||◌, false≢true, and-false, and_comm}
use mathlib.Core.List.{List}
use mathlib.Core.Option.{Option, some, none}
use native.Mathlib.Omega.{arith}
use lib.Dec.{leb, eqb}
use borrow.Author.Tests.{eqb-true, eq-eqb, ne_eqb, eqb-false, not-true, not-false, le-leb, lt-leb}
use Rattle.lists.specs.Padded.{any, every, first, filter, without, changed}
use Rattle.lists.proofs.Cond.{either, cases, wrong, and_left, and_right, or-one, or-then, or-by, and_both}
use Rattle.lists.proofs.Counting.{all-at, all-by}
use Rattle.lists.proofs.Every.{every-imp, every_first, every-without, every-changed}
use Rattle.lists.proofs.Some.{any-first, any-every, none-every, any-without, without-same, changed-any, first_any}
use Rattle.lists.proofs.Selected.{filter-filter, filter-without, filter_none}
use Rattle.lists.proofs.Rising.{rising-found}
use Rattle.rules.specs.declared.LoadEntry.{LoadEntry}
use Rattle.rules.specs.declared.Lookup.{Lookup}
use Rattle.rules.specs.Shape.{Queues, Hierarchy, World, world, no_load, is_free_load, line_of}
use Rattle.rules.specs.Lines.{lookup}
use Rattle.rules.specs.Forward.{load_value, some_uncovered, all_forwarded}
use Rattle.rules.specs.Calls.{Call, Outcome, load, store, retry, commit, abort, idle, reply, flush, show, checkpoint, restore, preview, value, is_accepted, passes, call_checks, next_number, with_loads, is_none, load_answer, answered, answered_by, uses_line_by, use_each, waiting_at, load_rule, commit_rule, rule, store_rule, idle_rule, reply_rule, flush_rule, retry_with, retry_rule, show_rule, answer_load, checkpoint_rule, can_drain, can_request_load, can_request_store, preview_rule}
use Rattle.rules.specs.WellFormed.{waits_for, forwarded_answered_at, well_formed}
use Rattle.rules.specs.Runs.{answer, next, outcome}
use Rattle.rules.specs.Flat.{number_in}
use Rattle.rules.specs.ForwardingClaims.{is_listed, EachInStores, ForwardedExact, LoadForwarded, Takes, AsBefore, ForwardedStays, RetryReadsLine, CommitUsesExactly, LoadsStay, changes_loads}
use Rattle.rules.proofs.Checks.{outcome-by, either-word, done, opened, guarded-passes}
use Rattle.rules.proofs.QueueView.{parts, good_load, load_told}
use Rattle.rules.proofs.Entries.{load-checked, load-uncovered, uncovered-is, for-tells, tried, tried-waits, Waits, retry-checked}
use Rattle.rules.proofs.QueuesKept.{tried-good, loads-leave}
use Rattle.rules.proofs.Kept.{tried-present}
use Rattle.rules.proofs.Waits.{says_wait, new-listed}
use Rattle.rules.proofs.History.{same_refl, Joins, rule-loads, same_load}

-- ---- the load call

forwarded-tells : (i a n : ℕ) (w : World) → all_forwarded i w.queues.stores a n ≡ true → EachInStores i a n w
unfolding all_forwarded
forwarded-tells i a n w e x from to = all-at _ n a e x from to

forwarded-is : (i a n : ℕ) (w : World) → EachInStores i a n w → all_forwarded i w.queues.stores a n ≡ true
unfolding all_forwarded
forwarded-is i a n w h = all-by _ n a h

-- a load that answers a value says its own number, and has the value
value-some : (i j x : ℕ) (f : Lookup) (v : Option ℕ) → load_answer i f v ≡ value j x → (i ≡ j) × (is_none v ≡ false)
value-some i j x f none e = wrong (either-word (λ r. says_wait r ≡ true) i refl refl f) (ap says_wait e)
value-some i j x f (some v) e = (ap number_in e, refl)

pub load-forwarded : (a n : ℕ) (w : World) → LoadForwarded a n w
unfolding answer next load_rule
load-forwarded a n w j x =
    let q = w.queues in
    let b = w.hierarchy in
    outcome-by (load a n) q b (λ o. o.answer ≡ value j x → ForwardedExact j a n w (world o.queues o.hierarchy))
    (λ k e. absurd (false≢true (ap is_accepted e)))
    (λ fit wf e s.
    let i = next_number q in
    let h = value-some i j x (lookup q.request b (line_of a)) (load_value i a n q.stores b) s in
    let l = new-listed q b wf (λ l. eqb l.number i) _ (eq-eqb i i refl) (λ y low. ne_eqb y.number i (λ z. omega arith)) (load-checked q b a n e).place in
    rw (← h.0) (record {
      numbered = ap (λ (y : LoadEntry). y.number) l;
      at = ap (λ (y : LoadEntry). y.address) l;
      wide = ap (λ (y : LoadEntry). y.width) l;
      has-answer = ap (λ (y : LoadEntry). y.waiting) l ∙ h.1;
      only = λ t. forwarded-tells i a n w (sym (ap (λ (y : LoadEntry). y.forwarded) l) ∙ t);
      whenever = λ t. ap (λ (y : LoadEntry). y.forwarded) l ∙ forwarded-is i a n w t;
    }))

-- ---- the load of a number

-- equal truth values
abbrev alike : Bool → Bool → Bool
alike s t = cond s t (not t)

alike_self : (s : Bool) → alike s s ≡ true
alike_self true = refl
alike_self false = refl

alike-true : (s t : Bool) → alike s t ≡ true → t ≡ s
alike-true true t e = e
alike-true false true e = sym e
alike-true false false e = refl

-- the same bytes under the same number, both forwarded or neither
abbrev same_mark : LoadEntry → LoadEntry → Bool
same_mark x y = same_load x y && alike x.forwarded y.forwarded

-- and both waiting or neither
abbrev same_entry : LoadEntry → LoadEntry → Bool
same_entry x y = same_mark x y && alike x.waiting y.waiting

same-entry : (x : LoadEntry) → same_entry x x ≡ true
same-entry x = and_both _ _ (and_both _ _ (same_refl x) (alike_self x.forwarded)) (alike_self x.waiting)

record SameMark (x y : LoadEntry) : Type 0 where
  number_is : y.number ≡ x.number
  address_is : y.address ≡ x.address
  width_is : y.width ≡ x.width
  forwarded-is : y.forwarded ≡ x.forwarded

mark-tells : (x y : LoadEntry) → same_mark x y ≡ true → SameMark x y
mark-tells x y e =
    let s = and_left (same_load x y) _ e in
    let t = and_right (eqb x.number y.number) _ s in
    record {
      number_is = sym (eqb-true x.number y.number (and_left _ _ s));
      address_is = sym (eqb-true x.address y.address (and_left _ _ t));
      width_is = sym (eqb-true x.width y.width (and_right (eqb x.address y.address) _ t));
      forwarded-is = alike-true x.forwarded y.forwarded (and_right (same_load x y) _ e);
    }

entry-tells : (x y : LoadEntry) → same_entry x y ≡ true → y ≡ x
entry-tells x y e =
    let m = mark-tells x y (and_left (same_mark x y) _ e) in
    let w = alike-true x.waiting y.waiting (and_right (same_mark x y) _ e) in
    λ k. record { number = m.number_is k; address = m.address_is k; width = m.width_is k; waiting = w k; forwarded = m.forwarded-is k }

-- the load listed under i, of any queues
abbrev load_under : ℕ → Queues → LoadEntry
load_under i q = first (λ l. eqb l.number i) no_load q.loads

-- a load of another number, or one that passes r
abbrev other_or : ℕ → (LoadEntry → Bool) → LoadEntry → Bool
other_or i r l = not (eqb l.number i) || r l

-- what every load numbered i passes, the one that is found passes
found-passes : (i : ℕ) → 0 < i → (r : LoadEntry → Bool) (q : Queues) → every (other_or i r) q.loads ≡ true → any (λ l. eqb l.number i) q.loads ≡ true → r (load_under i q) ≡ true
found-passes i from r q all there =
    or-then (not (eqb (load_under i q).number i)) _
    (every_first (other_or i r) (λ l. eqb l.number i) no_load q.loads (or-one _ _ (ap not (ne_eqb 0 i (λ z. omega arith)))) all)
    (ap not (any-first (λ l. eqb l.number i) no_load q.loads there))

module _ (i : ℕ) (from : 0 < i) (q : Queues) (b : Hierarchy) (wf : well_formed q b ≡ true) where
  -- there is one of each number
  one_each : every (other_or i (same_entry (load_under i q))) q.loads ≡ true
  one_each =
      every-imp _ (other_or i (same_entry (load_under i q)))
      (λ l g. or-by (not (eqb l.number i)) _ (λ e.
      let at : l.number ≡ i = eqb-true l.number i (not-false _ e) in
      let held : eqb l.number 0 ≡ false = ne_eqb l.number 0 (λ z. omega arith) in
      subst (λ (k : ℕ). same_entry (load_under k q) l ≡ true) at (or-then (eqb l.number 0) _ g held)))
      q.loads (rising-found (λ l. l.number) no_load same_entry same-entry 0 q.loads (parts q b wf).loads-rise)

  -- ---- every call

  -- a new load of another number
  joins : (c : Call) (r : LoadEntry → Bool) → (Takes c (world q b) i → ⊥) → Joins q b c (other_or i r)
  joins (load a n) r other = λ t f. or-one _ _ (ap not (ne_eqb (next_number q) i (λ z. other (sym z))))
  joins (store a n v) r other = tt
  joins (retry j) r other = tt
  joins (commit k) r other = tt
  joins (abort n) r other = tt
  joins idle r other = tt
  joins reply r other = tt
  joins flush r other = tt
  joins (show a) r other = tt
  joins (checkpoint x) r other = tt
  joins (restore x) r other = tt
  joins preview r other = tt

  -- what every load numbered i passes, also once it is answered, the one that is listed after the rule passes
  found_after :
      (c : Call) (r : LoadEntry → Bool) → ((l : LoadEntry) → r l ≡ true → r (answered l) ≡ true) → (Takes c (world q b) i → ⊥)
      → every (other_or i r) q.loads ≡ true → is_listed i (world (rule c q b).queues b) ≡ true → r (load_under i (rule c q b).queues) ≡ true
  found_after c r keeps other g =
      found-passes i from r (rule c q b).queues
      (rule-loads q b (other_or i r) (or-one _ _ (ap not (ne_eqb 0 i (λ z. omega arith))))
      (λ l t. or-by (not (eqb l.number i)) _ (λ e. keeps l (or-then (not (eqb l.number i)) _ t e))) c (joins c r other) g)

  stays-listed : (c : Call) → (Takes c (world q b) i → ⊥) → is_listed i (world (rule c q b).queues b) ≡ true → is_listed i (world q b) ≡ true
  stays-listed c other there =
      cases (any (λ l. eqb l.number i) q.loads) (λ t. t)
      (λ t. absurd (false≢true (found_after c (λ l. false) (λ l u. u) other
      (every-imp _ _ (λ l u. or-one _ _ u) q.loads (any-every (λ l. eqb l.number i) q.loads t)) there)))

  same_after : (c : Call) → (Takes c (world q b) i → ⊥) → is_listed i (world (rule c q b).queues b) ≡ true → SameMark (load_under i q) (load_under i (rule c q b).queues)
  same_after c other there =
      mark-tells _ _
      (found_after c (same_mark (load_under i q)) (λ l t. t) other
      (every-imp _ _ (λ l t. or-by (not (eqb l.number i)) _ (λ e. and_left (same_mark (load_under i q) l) _ (or-then (not (eqb l.number i)) _ t e))) q.loads one_each) there)

pub forwarded-stays : (c : Call) (w : World) → ForwardedStays c w
unfolding next
forwarded-stays c w i from other =
    let q = w.queues in
    let b = w.hierarchy in
    outcome-by c q b (λ o. is_listed i (world o.queues o.hierarchy) ≡ true → AsBefore i w (world o.queues o.hierarchy))
    (λ k there. record { listed = there; at = refl; wide = refl; same = refl })
    (λ fit wf p there.
    let s = same_after i from q b wf c other there in
    record { listed = stays-listed i from q b wf c other there; at = s.address_is; wide = s.width_is; same = s.forwarded-is })

module _ (q : Queues) (b : Hierarchy) where
  abbrev SameLoads : Outcome → Type 0
  SameLoads o = o.queues.loads ≡ q.loads

  rule-keeps : (c : Call) → changes_loads c ≡ false → SameLoads (rule c q b)
  unfolding store_rule idle_rule reply_rule flush_rule show_rule preview_rule checkpoint_rule
  rule-keeps (load a n) e = wrong refl e
  rule-keeps (store a n v) e = refl
  rule-keeps (retry i) e = wrong refl e
  rule-keeps (commit k) e = wrong refl e
  rule-keeps (abort n) e = wrong refl e
  rule-keeps idle e =
      either SameLoads (can_drain q b) (λ t. refl)
      (λ t. either SameLoads (can_request_load q b) (λ t. refl) (λ t. either SameLoads (can_request_store q b) (λ t. refl) (λ t. refl)))
  rule-keeps reply e = refl
  rule-keeps flush e = refl
  rule-keeps (show a) e = refl
  rule-keeps (checkpoint x) e = refl
  rule-keeps (restore x) e = wrong refl e
  rule-keeps preview e = refl

pub loads-stay : (c : Call) (w : World) → LoadsStay c w
unfolding next
loads-stay c w e =
    outcome-by c w.queues w.hierarchy (SameLoads w.queues w.hierarchy) (λ k. refl) (λ fit wf p. rule-keeps w.queues w.hierarchy c e)

-- ---- inquiry

-- a waiting load is not forwarded
waiting-plain : (l : LoadEntry) → l.waiting ≡ true → forwarded_answered_at l ≡ true → l.forwarded ≡ false
unfolding forwarded_answered_at
waiting-plain l w g = cases l.forwarded (λ f. wrong (or-then (not l.forwarded) _ g (ap not f)) (ap not w)) (λ f. f)

module _ (i : ℕ) (q : Queues) (b : Hierarchy) (wf : well_formed q b ≡ true) (passed : passes (call_checks (retry i) q b) ≡ true) where
  abbrev l₀ : LoadEntry
  l₀ = tried i q

  waiting : Waits i l₀
  waiting = tried-waits i q b passed

  from : 0 < i
  from = omega (arith, waiting.numbered, eqb-false l₀.number 0 waiting.held)

  good : good_load b q.last q.committed q.stores l₀ ≡ true
  good = tried-good q b (parts q b wf) i

  plain : l₀.forwarded ≡ false
  plain = waiting-plain l₀ waiting.waits (load_told b q.last q.committed q.stores l₀ good)

  bare : some_uncovered i q.stores l₀.address l₀.width ≡ true
  bare =
      subst (λ (k : ℕ). some_uncovered k q.stores l₀.address l₀.width ≡ true) waiting.numbered
      (load-uncovered b q.last q.committed q.stores l₀ good waiting.held waiting.waits)

  -- every load of number i is the one that is tried
  is-tried : every (other_or i (same_entry l₀)) q.loads ≡ true
  is-tried =
      let each = one_each i from q b wf in
      let same : l₀ ≡ load_under i q = entry-tells (load_under i q) l₀
      (or-then (not (eqb l₀.number i)) _
      (every_first (other_or i (same_entry (load_under i q))) (waiting_at i) no_load q.loads (or-one _ _ (ap not (ne_eqb 0 i (λ z. omega (arith, from))))) each)
      (ap not (eq-eqb l₀.number i waiting.numbered))) in
      subst (λ (x : LoadEntry). every (other_or i (same_entry x)) q.loads ≡ true) (sym same) each

  hit : waiting_at i l₀ ≡ true
  hit = any-first (waiting_at i) no_load q.loads (retry-checked q b i passed)

  -- taken off, none is left
  gone : any (λ l. eqb l.number i) (without (waiting_at i) no_load q.loads) ≡ false
  gone =
      none-every (λ l. not (eqb l.number i)) (λ l. eqb l.number i) (λ l t. not-true _ t) _
      (every-without (other_or i (same_entry l₀)) (λ l. not (eqb l.number i)) (waiting_at i) no_load (ap not (ne_eqb 0 i (λ z. omega (arith, from))))
      (λ l g t. cases (eqb l.number i)
      (λ e. wrong (subst (λ (x : LoadEntry). waiting_at i x ≡ true) (sym (entry-tells l₀ l (or-then (not (eqb l.number i)) _ g (ap not e)))) hit) t) (λ e. ap not e))
      q.loads is-tried)

  -- marked answered, it is listed still
  marked : load_under i (with_loads (changed (waiting_at i) answered q.loads) q) ≡ answered l₀
  marked =
      entry-tells (answered l₀) _
      (found-passes i from (same_entry (answered l₀)) (with_loads (changed (waiting_at i) answered q.loads) q)
      (every-changed (other_or i (same_entry l₀)) (other_or i (same_entry (answered l₀))) (waiting_at i) answered
      (λ l g t. or-by (not (eqb l.number i)) _ (λ e. subst (λ (x : LoadEntry). same_entry (answered l₀) (answered x) ≡ true) (sym (entry-tells l₀ l (or-then (not (eqb l.number i)) _ g e))) (same-entry (answered l₀))))
      (λ l g t. or-by (not (eqb l.number i)) _ (λ e. wrong (subst (λ (x : LoadEntry). waiting_at i x ≡ true) (sym (entry-tells l₀ l (or-then (not (eqb l.number i)) _ g e))) hit) t))
      q.loads is-tried)
      (changed-any (λ l. eqb l.number i) (waiting_at i) answered (λ l. refl) q.loads
      ∙ first_any (waiting_at i) (λ l. eqb l.number i) no_load q.loads (retry-checked q b i passed) (eq-eqb l₀.number i waiting.numbered)))

  -- what answers a value
  told : (o : Option ℕ) (x : ℕ) → load_value i l₀.address l₀.width q.stores b ≡ o → (retry_with i l₀ o q b).answer ≡ value i x
      → (retry_with i l₀ o q b ≡ answer_load i x l₀ q b) × (is_none o ≡ false)
  unfolding retry_with answer_load
  told none x h e = wrong (either-word (λ r. says_wait r ≡ true) i refl refl (lookup q.request b (line_of l₀.address))) (ap says_wait e)
  told (some v) x h e = cases (leb i q.committed)
      (λ t. let a : value i v ≡ value i x = rw t at e in let y : v ≡ x = cc in (rw (t, y), refl))
      (λ t. let a : value i v ≡ value i x = rw t at e in let y : v ≡ x = cc in (rw (t, y), refl))

pub retry-reads-line : (i : ℕ) (w : World) → RetryReadsLine i w
unfolding next answer retry_rule answer_load
retry-reads-line i w x e =
    let q = w.queues in
    let b = w.hierarchy in
    let d = done (retry i) w refl (ap is_accepted e) in
    let wf = d.well in
    let p = d.passed in
    let l = tried i q in
    let o = load_value i l.address l.width q.stores b in
    let s = told i q b wf p o x refl (sym (ap (λ (r : Outcome). r.answer) d.same) ∙ e) in
    let all : outcome (retry i) q b ≡ answer_load i x l q b = d.same ∙ s.0 in
    record {
      partly = λ h. wrong (forwarded-is i l.address l.width w h) (not-true _ (sym (uncovered-is i q.stores l.address l.width) ∙ bare i q b wf p));
      there = tried-present q b wf i p s.1;
      uses = λ h. ap (λ (r : Outcome). r.hierarchy) all ∙ rw (le-leb i q.committed h);
      leaves = λ h. ap (λ (r : Outcome). any (λ l. eqb l.number i) r.queues.loads) all ∙ rw (le-leb i q.committed h) (gone i q b wf p);
      keeps = λ h. ap (λ (r : Outcome). r.hierarchy) all ∙ rw (lt-leb i q.committed h);
      stays = λ h.
          ap (λ (r : Outcome). load_under i r.queues) all
          ∙ rw (lt-leb i q.committed h) (marked i q b wf p)
          ∙ (λ k. record { number = (waiting i q b wf p).numbered k; address = l.address; width = l.width; waiting = false; forwarded = plain i q b wf p k });
    }

-- ---- commit

module _ (q : Queues) (b : Hierarchy) (wf : well_formed q b ≡ true) where
  abbrev plain_queues : Queues
  plain_queues = with_loads (without (λ l. l.forwarded) no_load q.loads) q

  -- forwarded, and not waiting, which the clause says of every forwarded load
  abbrev fed : LoadEntry → Bool
  fed l = l.forwarded && not l.waiting

  off_list : without fed no_load q.loads ≡ plain_queues.loads
  off_list =
      without-same (good_load b q.last q.committed q.stores) fed (λ l. l.forwarded) no_load
      (λ l g. cases l.forwarded (λ f. rw f (or-then (not l.forwarded) _ (unfold forwarded_answered_at in load_told b q.last q.committed q.stores l g) (ap not f))) (λ f. rw f))
      q.loads (parts q b wf).loads-good

  -- a requested line is wanted by a waiting load, and none of these leaves
  plain-formed : well_formed plain_queues b ≡ true
  plain-formed =
      let p = parts q b wf in
      subst (λ (ls : List LoadEntry). well_formed (with_loads ls q) b ≡ true) off_list
      (loads-leave q b p q.checkpoints q.committed p.marks (omega arith) p.order fed (λ l e c. c)
      (λ m a. any-without (waits_for q.committed m) fed no_load
      (λ l u. rw (for-tells q.committed m l u).waits (and-false l.forwarded)) q.loads))

  plain-uses : (k : ℕ) → filter (uses_line_by k) plain_queues.loads ≡ filter (uses_line_by k) q.loads
  unfolding uses_line_by
  plain-uses k =
      filter-without (uses_line_by k) (λ l. l.forwarded) (uses_line_by k) no_load (unfold answered_by in refl) (λ l. twice (answered_by k l) (not l.forwarded)) q.loads
    where
      twice : (s t : Bool) → (s && t) ≡ ((s && t) && t)
      twice true true = refl
      twice true false = refl
      twice false t = refl

pub commit-uses : (k : ℕ) (w : World) → CommitUsesExactly k w
unfolding answer next commit_rule uses_line_by use_each
commit-uses k w e =
    let q = w.queues in
    let b = w.hierarchy in
    let d = done (commit k) w refl e in
    let fit = (parts q b d.well).fit in
    let plain = plain_queues q b d.well in
    let off : outcome (commit k) plain b ≡ commit_rule k plain b =
    opened (commit k) plain b tt fit (plain-formed q b d.well) ∙ guarded-passes _ (call_checks (commit k) plain b) (commit_rule k plain b) d.passed in
    let uses = filter-filter (λ l. not l.forwarded) (answered_by k) (uses_line_by k) (λ l. and_comm (answered_by k l) (not l.forwarded)) q.loads in
    let lines = ap (λ (o : Outcome). o.hierarchy) d.same in
    record {
      alike = ap (λ (o : Outcome). o.answer) off ∙ sym (ap (λ (o : Outcome). o.answer) d.same);
      as-if =
          lines ∙ ap (λ (ls : List LoadEntry). use_each ls b) (sym (plain-uses q b d.well k)) ∙ sym (ap (λ (o : Outcome). o.hierarchy) off);
      others = lines ∙ ap (λ (ls : List LoadEntry). use_each ls b) (sym uses);
      none-used = λ h. lines ∙ ap (λ (ls : List LoadEntry). use_each ls b) (filter_none (uses_line_by k) q.loads h);
      left =
          ap (λ (o : Outcome). filter (λ l. not (is_free_load l)) o.queues.loads) d.same
          ∙ filter-without (λ l. not (is_free_load l)) (answered_by k) _ no_load refl (λ l. refl) q.loads;
    }

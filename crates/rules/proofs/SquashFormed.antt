-- Squashed queues are well formed, if the whole ones are, and the checkpoints that are left.
use Prim.Native.Nat.{ℕ, ◌+◌, ◌-◌, ◌≤◌, ◌<◌}
use mathlib.Core.Path.{◌≡◌, refl, sym, ◌∙◌, ap, ap₂, fun_ext}
use mathlib.Core.Bool.{Bool, true, false, not, ◌&&◌, ◌||◌}
use mathlib.Core.List.{List}
use native.Mathlib.Omega.{arith}
use lib.Dec.{eqb}
use borrow.Author.Tests.{leb-true, leb-false, eqb-true, eqb-false, le-leb, lt-leb, ne_eqb}
use Rattle.lists.specs.Padded.{any}
use Rattle.lists.specs.Counted.{some_from}
use Rattle.lists.proofs.Cond.{either, cases, and_left, and_right}
use Rattle.lists.proofs.Lengths.{length-changed}
use Rattle.lists.proofs.Sweep.{Untouched, swept, sweep-any, sweep-every}
use Rattle.lists.proofs.Rising.{rise-swept}
use Rattle.rules.specs.declared.StoreEntry.{StoreEntry}
use Rattle.rules.specs.declared.LoadEntry.{LoadEntry}
use Rattle.rules.specs.declared.Checkpoint.{Checkpoint}
use Rattle.rules.specs.declared.Request.{Request}
use Rattle.rules.specs.declared.Request.TheVariants.{Free, Line}
use Rattle.rules.specs.Shape.{Queues, Hierarchy, no_store, no_load, is_free_store, is_free_load, writes_through}
use Rattle.rules.specs.Forward.{some_uncovered}
use Rattle.rules.specs.Calls.{young_store, young_load, squash, store_ready}
use Rattle.rules.specs.WellFormed.{free_store_zero, free_load_zero, store_passes, load_passes, committed_wait_at, waiting_uncovered_at, forwarded_answered_at, alone, waits_for, store_wants, request_wanted, well_formed, checkpoints_formed}
use Rattle.rules.proofs.QueueView.{Parts, parts, whole, good_store, good_load, good_request, store-zero, store-passes, good-store, load-zero, load-passes, load-waits, load-exposed, load_told, good-load}
use Rattle.rules.proofs.Squash.{covers-untouched, ready-squash, ready-committed, head-stays}

module _ (forget : List Checkpoint → List Checkpoint) (n : ℕ) (q : Queues) (b : Hierarchy) (behind : q.committed < n) where
  store-stays : (s : StoreEntry) → good_store b q.last s ≡ true → good_store b (n - 1) (swept (young_store n) no_store s) ≡ true
  unfolding free_store_zero store_passes
  store-stays s g =
      either (λ (r : StoreEntry). good_store b (n - 1) r ≡ true) (young_store n s)
      (λ e. good-store b (n - 1) no_store refl (le-leb 0 (n - 1) (omega arith)) refl)
      (λ e. good-store b (n - 1) s (store-zero b q.last s g)
      (le-leb s.number (n - 1) (omega (arith, leb-false n s.number e))) (store-passes b q.last s g))

  uncovered-squash : (i a w : ℕ) → i ≤ n → some_uncovered i (squash forget n q).stores a w ≡ some_uncovered i q.stores a w
  unfolding some_uncovered squash
  uncovered-squash i a w h =
      ap (λ (p : ℕ → Bool). some_from p a w) (fun_ext (λ x. ap not (sweep-any (covers-untouched n i x h) q.stores)))

  waits-squash : (l : LoadEntry) → l.number < n → waiting_uncovered_at (squash forget n q).stores l ≡ waiting_uncovered_at q.stores l
  unfolding waiting_uncovered_at
  waits-squash l low = rw (uncovered-squash l.number l.address l.width (omega arith))

  load-stays : (l : LoadEntry) → good_load b q.last q.committed q.stores l ≡ true → good_load b (n - 1) q.committed (squash forget n q).stores (swept (young_load n) no_load l) ≡ true
  unfolding free_load_zero load_passes committed_wait_at waiting_uncovered_at forwarded_answered_at
  load-stays l g =
      either (λ (r : LoadEntry). good_load b (n - 1) q.committed (squash forget n q).stores r ≡ true) (young_load n l)
      (λ e. good-load b (n - 1) q.committed (squash forget n q).stores no_load refl (le-leb 0 (n - 1) (omega arith)) refl refl refl refl)
      (λ e.
      let low : l.number < n = leb-false n l.number e in
      good-load b (n - 1) q.committed (squash forget n q).stores l
      (load-zero b q.last q.committed q.stores l g)
      (le-leb l.number (n - 1) (omega arith))
      (load-passes b q.last q.committed q.stores l g)
      (load-waits b q.last q.committed q.stores l g)
      (waits-squash l low ∙ load-exposed b q.last q.committed q.stores l g)
      (load_told b q.last q.committed q.stores l g))

  same_number : (s : StoreEntry) → is_free_store s ≡ false → young_store n s ≡ false → Untouched (young_load n) no_load (λ l. eqb l.number s.number)
  same_number s f e = record {
    hollow = ne_eqb 0 s.number (λ z. eqb-false s.number 0 f (sym z));
    apart = λ l t. lt-leb n l.number (omega (arith, leb-false n s.number e, eqb-true l.number s.number t));
  }

  still-alone : (s : StoreEntry) → alone q.loads s ≡ true → alone (squash forget n q).loads (swept (young_store n) no_store s) ≡ true
  unfolding alone squash
  still-alone s g =
      either (λ (r : StoreEntry). alone (squash forget n q).loads r ≡ true) (young_store n s) (λ e. refl)
      (λ e. cases (is_free_store s) (λ f. rw f) (λ f. rw (f, sweep-any (same_number s f e) q.loads) (rw f at g)))

  for-untouched : (line : ℕ) → Untouched (young_load n) no_load (waits_for q.committed line)
  unfolding waits_for
  for-untouched line = record {
    hollow = refl;
    apart = λ l e. lt-leb n l.number (omega (arith, leb-true l.number q.committed (and_left _ _ (and_right (not (is_free_load l)) _ e))));
  }

  wanted-squash : (r : Request) → request_wanted r (squash forget n q) b.figures.policy ≡ request_wanted r q b.figures.policy
  unfolding request_wanted
  wanted-squash Free = refl
  wanted-squash (Line l) =
      let loads : any (waits_for (squash forget n q).committed l) (squash forget n q).loads ≡ any (waits_for q.committed l) q.loads = unfold squash in sweep-any (for-untouched l) q.loads in
      let store : store_wants (squash forget n q) l ≡ store_wants q l = cases (store_ready q)
      (λ e. rw (ready-squash forget n q b behind, head-stays forget n q b behind (ready-committed forget n q b behind e)))
      (λ e. rw (ready-squash forget n q b behind, e)) in
      ap₂ (λ (s t : Bool). s || (not (writes_through b) && t)) loads store

  request-squash : (r : Request) → good_request r (squash forget n q) b ≡ good_request r q b
  unfolding good_request
  request-squash r = rw (wanted-squash r)

  pub squash-formed : n ≤ q.last + 1 → checkpoints_formed q.committed (n - 1) (forget q.checkpoints) ≡ true → well_formed q b ≡ true → well_formed (squash forget n q) b ≡ true
  squash-formed low marks wf =
      let p : Parts q b = parts q b wf in
      whole (squash forget n q) b
      (unfold squash in (record {
        fit = p.fit;
        lines = p.lines;
        store-places = length-changed (young_store n) (λ s. no_store) q.stores ∙ p.store-places;
        load-places = length-changed (young_load n) (λ l. no_load) q.loads ∙ p.load-places;
        last_fits = omega (arith, p.last_fits);
        order = omega arith;
        stores-rise = rise-swept (λ s. s.number) no_store refl n (omega arith) 0 q.stores p.stores-rise;
        loads-rise = rise-swept (λ l. l.number) no_load refl n (omega arith) 0 q.loads p.loads-rise;
        stores-good = sweep-every (young_store n) no_store (good_store b q.last) (good_store b (n - 1)) store-stays q.stores p.stores-good;
        loads-good =
            sweep-every (young_load n) no_load (good_load b q.last q.committed q.stores) (good_load b (n - 1) q.committed (squash forget n q).stores) load-stays q.loads p.loads-good;
        apart = sweep-every (young_store n) no_store (alone q.loads) (alone (squash forget n q).loads) still-alone q.stores p.apart;
        wanted = request-squash q.request ∙ p.wanted;
        marks = marks;
      }))

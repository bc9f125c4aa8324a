-- Flush: memory becomes flat memory, which in a run is memory as found with exactly the committed stores applied; the count is the number
-- of dirty words before, and no record has a mark after.
use Prim.Native.Nat.{ℕ, zero, suc, ◌+◌, ◌*◌, ◌/◌, ◌%◌, ◌≤◌}
use mathlib.Core.Path.{◌≡◌, refl, sym, ◌∙◌, ap, ap₂}
use mathlib.Core.Bool.{Bool, true, false, cond, false≢true}
use mathlib.Core.List.{List, ◌++◌, append-nil}
use native.Mathlib.Omega.{arith}
use native.Mathlib.Decide.{dec_lt}
use lib.ListN.{length, take, drop, take-append-drop}
use lib.Seq.{get_or-drop, drop-cons}
use Rattle.lists.specs.Counted.{count_from}
use Rattle.lists.specs.Padded.{any, filter, total}
use Rattle.lists.proofs.Total.{total-append, total-zero}
use Rattle.lists.proofs.Selected.{filter-append, filter-all, filter_none, filter-filter}
use Rattle.rules.specs.declared.Figures.{Figures}
use Rattle.rules.specs.declared.Tag.{Tag}
use Rattle.rules.specs.declared.StoreEntry.{StoreEntry}
use Rattle.rules.specs.Shape.{Queues, Hierarchy, World, no_tag, slots, tag_at, fits}
use Rattle.rules.specs.Lines.{mark_at, mark_count, words_of, dirty_word, is_dirty, write_back_all, dirty_words}
use Rattle.rules.specs.Calls.{Call, Outcome, flush, flushed, is_accepted, committed_store, flush_rule}
use Rattle.rules.specs.WellFormed.{lines_formed}
use Rattle.rules.specs.Runs.{outcome, answer, next, after}
use Rattle.rules.specs.Flat.{History, up_to, history_of, flat_of, applied_all, held_store, flat_committed}
use Rattle.rules.specs.Values.{AfterStart, FromState, dirty_in_use, FlushCounts, FlushesRight}
use Rattle.rules.proofs.Checks.{outcome-by}
use Rattle.rules.proofs.Dirty.{mark-is, no-mark, no-tag-clean, clean-words}
use Rattle.rules.proofs.LineFacts.{fits-tells, good-tells}
use Rattle.rules.proofs.LineRules.{LinesKept, save-all, shaped-slots}
use Rattle.rules.proofs.FlatLines.{back-clean}
use Rattle.rules.proofs.QueueView.{parts}
use Rattle.rules.proofs.Entries.{flush-checked}
use Rattle.rules.proofs.Stored.{memory-back}
use Rattle.rules.proofs.History.{Traced, TracedAt, run-traced}
use Rattle.rules.proofs.Values.{after-start, from-state}

-- ---- the dirty words

-- word m of a table, counted from its first slot on
abbrev word_at : List Tag → ℕ → Bool
word_at tags m = dirty_word tags (m / 4) (m % 4)

-- the words of s slots from slot k on, one by one
words-counted :
    (tags : List Tag) (s k : ℕ) → k + s ≤ length tags → count_from (word_at tags) (k * 4) (s * 4) ≡ total words_of (take s (drop k tags))
unfolding count_from total mark_count
words-counted tags zero k h = refl
words-counted tags (suc s) k h =
    let four : suc s * 4 ≡ suc (suc (suc (suc (s * 4)))) = omega arith in
    let next : suc (suc (suc (suc (k * 4)))) ≡ suc k * 4 = omega arith in
    rw (four, next, words-counted tags s (suc k) (omega arith), drop-cons tags k no_tag (omega arith))
    (omega (arith, word 0 (k * 4) (omega arith) (omega arith), word 1 (suc (k * 4)) (omega arith) (omega arith), word 2 (suc (suc (k * 4))) (omega arith) (omega arith), word 3 (suc (suc (suc (k * 4)))) (omega arith) (omega arith)))
  where
    word : (n m : ℕ) → m / 4 ≡ k → m % 4 ≡ n → cond (word_at tags m) 1 0 ≡ mark_at (tag_at tags k).dirty n
    word n m slot place = rw (slot, place) (mark-is (tag_at tags k).dirty n)

module _ (b : Hierarchy) (f : fits b ≡ true) (g : lines_formed b ≡ true) where
  -- the records that are not in use are clean
  dirty-used : dirty_words b ≡ dirty_in_use b
  unfolding dirty_words
  dirty-used =
      ap (total words_of) (sym (take-append-drop (slots b) b.tags))
      ∙ (total-append words_of (take (slots b) b.tags) (drop (slots b) b.tags)
      ∙ omega (arith, rest, words-counted b.tags (slots b) 0 (omega (arith, (good-tells b g).table, (fits-tells b f).room))))
    where
      rest : total words_of (drop (slots b) b.tags) ≡ 0
      rest = total-zero words_of no_tag (drop (slots b) b.tags) (λ k lt.
          ap words_of (get_or-drop (slots b) b.tags k no_tag ∙ (good-tells b g).unused (slots b + k) (omega arith)) ∙ clean-words no_tag no-tag-clean)

  -- no record has a mark after a write back of all
  back_none : (k : ℕ) → (tag_at (write_back_all b).tags k).dirty ≡ 0
  back_none k = no-mark (tag_at (write_back_all b).tags k) (clean k)
    where
      kept : LinesKept b (write_back_all b)
      kept = save-all b f (good-tells b g)

      clean : (k : ℕ) → is_dirty (tag_at (write_back_all b).tags k) ≡ false
      clean k =
          elim (dec_lt k (slots b)) [
            | yes lt ↦ back-clean b f g k lt
            | no ge ↦ ap is_dirty (kept.good.unused k (omega (arith, shaped-slots b (write_back_all b) kept.shaped))) ∙ no-tag-clean
          ]

-- ---- one flush

-- of an outcome
abbrev Exact : World → ℕ → Outcome → Type 0
Exact w k o =
    (k ≡ dirty_words w.hierarchy)
    × (k ≡ dirty_in_use w.hierarchy)
    × ((k : ℕ) → (tag_at o.hierarchy.tags k).dirty ≡ 0)
    × (o.hierarchy.memory ≡ flat_of w.hierarchy)

flush-outcome : (w : World) (k : ℕ) → (outcome flush w.queues w.hierarchy).answer ≡ flushed k → Exact w k (outcome flush w.queues w.hierarchy)
unfolding flush_rule
flush-outcome w k =
    outcome-by flush w.queues w.hierarchy (λ o. o.answer ≡ flushed k → Exact w k o) (λ n e. absurd (false≢true (ap is_accepted e)))
    (λ fit wf p e.
    let same : k ≡ dirty_words w.hierarchy = cc in
    let formed = (parts w.queues w.hierarchy wf).lines in
    (same, same ∙ dirty-used w.hierarchy fit formed, back_none w.hierarchy fit formed, memory-back w.hierarchy fit formed))

pub flush-counts : (w : World) → FlushCounts w
unfolding answer next
flush-counts w k e =
    let x = flush-outcome w k e in record { counts = x.0; in_use = x.1; cleans = x.2; flattens = x.3 }

-- ---- the flushes of a run

module _ (found : List ℕ) (h : History) (q : Queues) (b : Hierarchy) (k : Traced found h q b) where
  -- the committed stores are the drained ones, if none that is held is committed
  flat-committed : any (committed_store q.committed) q.stores ≡ false → flat_of b ≡ flat_committed h found
  unfolding committed_store
  flat-committed e =
      k.flat
      ∙ ap (λ (ss : List StoreEntry). applied_all ss found)
      (sym (ap₂ (λ (n : ℕ) (ss : List StoreEntry). filter (up_to n) ss) k.marked k.parted
      ∙ filter-append (up_to q.committed) k.gone (filter held_store q.stores)
      ∙ ap₂ (λ (ss ts : List StoreEntry). ss ++ ts) (filter-all (up_to q.committed) k.gone k.settled)
      (filter-filter held_store (up_to q.committed) (committed_store q.committed) (λ s. refl) q.stores
      ∙ filter_none (committed_store q.committed) q.stores e)
      ∙ append-nil k.gone))

module _ (found : List ℕ) (h : History) (w : World) (k : TracedAt found h w) where
  flush-right : is_accepted (answer flush w) ≡ true → (next flush w).hierarchy.memory ≡ flat_committed h found
  unfolding answer next flush_rule
  flush-right =
      outcome-by flush w.queues w.hierarchy (λ o. is_accepted o.answer ≡ true → o.hierarchy.memory ≡ flat_committed h found)
      (λ n e. absurd (false≢true e))
      (λ fit wf p e.
      memory-back w.hierarchy fit (parts w.queues w.hierarchy wf).lines
      ∙ flat-committed found h w.queues w.hierarchy k (flush-checked w.queues w.hierarchy p))

flushes-run : (found : List ℕ) (h : History) (w : World) → TracedAt found h w → (run : List Call) → FlushesRight found h w run
flushes-run found h w k run before c later s is-flush =
    rw is-flush (flush-right found (history_of h before w) (after before w) (run-traced found before h w k))

pub flushes-after-start : (f : Figures) (cache memory : List ℕ) → AfterStart FlushesRight f cache memory
flushes-after-start = after-start FlushesRight flushes-run

pub flushes-from-state : (w : World) → FromState FlushesRight w
flushes-from-state = from-state FlushesRight flushes-run

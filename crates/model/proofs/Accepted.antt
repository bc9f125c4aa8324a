-- What an accepted call leaves is its rule: each law says of which facts of the queues, the records and the bytes that is made up.
use Prim.Native.Nat.{ℕ, ◌*◌, ◌-◌, ◌<◌, ◌≤◌}
use mathlib.Core.Path.{◌≡◌, sym, ap, ◌∙◌}
use mathlib.Core.Bool.{true, cond}
use mathlib.Core.List.{List}
use native.Mathlib.Omega.{arith}
use lib.Dec.{leb}
use borrow.Author.Tests.{le-leb, lt-leb}
use lib.ListN.{length}
use Rattle.lists.specs.Padded.{total, without, changed}
use Rattle.lists.proofs.Cond.{cond-then}
use Rattle.rules.specs.declared.Figures.{Figures}
use Rattle.rules.specs.declared.Tag.{Tag}
use Rattle.rules.specs.declared.StoreEntry.{StoreEntry}
use Rattle.rules.specs.declared.LoadEntry.{LoadEntry}
use Rattle.rules.specs.declared.Checkpoint.{Checkpoint}
use Rattle.rules.specs.Shape.{Hierarchy, no_store, no_load, line_of}
use Rattle.rules.specs.Lines.{words_of, write_back_all, dirty_words}
use Rattle.rules.specs.Calls.{waiting_at, answered, answer_load, young_store, young_load, squash, flush_rule}
use Rattle.records.specs.Records.{has_room, used_tags, flushed_tags}
use Rattle.line_bytes.specs.Writes.{lines_written}
use Rattle.line_checks.specs.Refusal.{hierarchy}
use Rattle.model.specs.State.{queues_of, hierarchy_of, outcome_of, Squashes, Flushable}
use Rattle.model.specs.declared.State.{State}
use Rattle.model.specs.declared.Step.{Step}
use Rattle.model.specs.declared.Answer.{Answer}
use Rattle.model.specs.declared.Answer.TheVariants.{Value, Kept, Flushed}
use Rattle.line_bytes.proofs.Writing.{lines-flushed}
use Rattle.model.proofs.Checking.{used-at}
use Rattle.model.proofs.Moves.{flush-parts}

-- an answer, and the state with another last number, other queues, other checkpoints and other records
abbrev leaving : Answer → State → ℕ → List StoreEntry → List LoadEntry → List Checkpoint → List Tag → Step
leaving a s last stores loads checkpoints tags = record {
  answer = a;
  next = record {
    figures = s.figures;
    size = s.size;
    last = last;
    committed = s.committed;
    request = s.request;
    stores = stores;
    loads = loads;
    checkpoints = checkpoints;
    tags = tags;
  };
}

module _ (s : State) (i v : ℕ) (l : LoadEntry) (loads : List LoadEntry) where
  -- a committed load leaves the queue, and its line is used
  pub answered-leaves :
      (tags : List Tag) → has_room s.figures ≡ true → i ≤ s.committed → loads ≡ without (waiting_at i) no_load s.loads
      → tags ≡ cond (has_room s.figures) (used_tags s.figures (line_of l.address) s.tags) s.tags → (c m : List ℕ)
      → outcome_of (leaving (Value i v) s s.last s.stores loads s.checkpoints tags) c m ≡ answer_load i v l (queues_of s) (hierarchy_of s c m)
  unfolding answer_load
  answered-leaves tags room h e f c m = rw (e, f ∙ sym (cond-then _ _ room), le-leb _ _ h, used-at)

  -- an uncommitted one is marked answered
  pub answered-stays :
      s.committed < i → loads ≡ changed (waiting_at i) answered s.loads → (c m : List ℕ)
      → outcome_of (leaving (Value i v) s s.last s.stores loads s.checkpoints s.tags) c m ≡ answer_load i v l (queues_of s) (hierarchy_of s c m)
  unfolding answer_load
  answered-stays h e c m = rw (e, lt-leb _ _ h)

-- an abort, and a return, whatever checkpoints are left
pub squashed-state :
    (s : State) (n : ℕ) (stores : List StoreEntry) (loads : List LoadEntry) (left : List Checkpoint)
    → stores ≡ changed (young_store n) (λ s. no_store) s.stores → loads ≡ changed (young_load n) (λ l. no_load) s.loads
    → Squashes s n left (leaving (Kept (n - 1)) s (n - 1) stores loads left s.tags)
unfolding squash
squashed-state s n stores loads left e f forget c m g = rw (e, f, g)

-- all dirty words written back, from what each function made
pub flushed-lines :
    (g : Figures) (tags clean : List Tag) (cache memory written : List ℕ) → Flushable g tags (length cache) (length memory)
    → clean ≡ cond (leb (g.sets * g.ways) 256) (flushed_tags (g.sets * g.ways) tags) tags
    → written ≡ lines_written tags (g.sets * g.ways) cache memory
    → hierarchy g 0 clean cache written ≡ write_back_all (hierarchy g 0 tags cache memory)
flushed-lines g tags clean cache memory written h e f =
    rw (e ∙ sym (cond-then _ _ (le-leb _ 256 h.room)), f ∙ lines-flushed _ tags cache memory h.room (omega (arith, h.cache-long)) h.dirty-lines, flush-parts)

pub flushed-state :
    (s : State) (cache memory written : List ℕ) (n : ℕ) (clean : List Tag) → n ≡ total words_of s.tags
    → hierarchy s.figures 0 clean cache written ≡ write_back_all (hierarchy s.figures 0 s.tags cache memory)
    → outcome_of (leaving (Flushed n) s s.last s.stores s.loads s.checkpoints clean) cache written ≡ flush_rule (queues_of s) (hierarchy_of s cache memory)
unfolding flush_rule dirty_words
flushed-state s cache memory written n clean e h =
    let whole = h ∙ flush-parts (hierarchy s.figures 0 s.tags cache memory) in
    rw (e, ap (λ (b : Hierarchy). b.tags) whole, ap (λ (b : Hierarchy). b.memory) whole, flush-parts)

-- No call changes the figures of a run or the length of its memory.
use Prim.Native.Nat.{ℕ, zero, suc}
use mathlib.Core.Path.{◌≡◌, refl, ◌∙◌}
use mathlib.Core.List.{List, [], ◌∷◌}
use mathlib.Core.Option.{Option, some, none}
use lib.Dec.{leb}
use Rattle.lists.specs.Counted.{steps_from}
use Rattle.lists.specs.Padded.{first, filter}
use Rattle.lists.proofs.Cond.{either}
use Rattle.rules.specs.Shape.{Queues, Hierarchy, slots, line_of, no_load}
use Rattle.rules.specs.Lines.{present, use_slot, use_line, put_store, write_store, write_back_slot, write_back_all, install, fill_line}
use Rattle.rules.specs.Forward.{load_value}
use Rattle.rules.specs.Calls.{Call, Outcome, load, store, retry, commit, abort, idle, reply, flush, show, checkpoint, restore, preview, load_rule, store_rule, waiting_at, uses_line_by, answer_load, retry_with, retry_rule, use_each, commit_rule, abort_rule, checkpoint_rule, restore_rule, oldest_store, can_drain, can_request_load, can_request_store, idle_rule, reply_rule, flush_rule, show_rule, preview_rule, rule}
use Rattle.rules.specs.Runs.{outcome}
use Rattle.rules.specs.declared.LoadEntry.{LoadEntry}
use Rattle.rules.specs.declared.StoreEntry.{StoreEntry}
use Rattle.rules.proofs.Checks.{outcome-by}

pub record SameFigures (old new : Hierarchy) : Type 0 where
  pub figures : new.figures ≡ old.figures
  pub size : new.size ≡ old.size

same : (b : Hierarchy) → SameFigures b b
same b = record { figures = refl; size = refl }

then : {a b c : Hierarchy} → SameFigures a b → SameFigures b c → SameFigures a c
then p q = record { figures = q.figures ∙ p.figures; size = q.size ∙ p.size }

use-line : (l : ℕ) (b : Hierarchy) → SameFigures b (use_line l b)
unfolding use_line use_slot
use-line l b = either (SameFigures b) (present b l) (λ _. record { figures = refl; size = refl }) (λ _. same b)

use-each : (ls : List LoadEntry) (b : Hierarchy) → SameFigures b (use_each ls b)
unfolding use_each
use-each [] b = same b
use-each (l ∷ ls) b = then (use-line (line_of l.address) b) (use-each ls (use_line (line_of l.address) b))

write-backs : (n v : ℕ) (b : Hierarchy) → SameFigures b (steps_from write_back_slot v n b)
unfolding steps_from write_back_slot
write-backs zero v b = same b
write-backs (suc n) v b = then (record { figures = refl; size = refl }) (write-backs n (suc v) (write_back_slot v b))

write_store_lem : (s : StoreEntry) (b : Hierarchy) → SameFigures b (write_store s b)
unfolding write_store put_store use_slot
write_store_lem s b =
    either (SameFigures b) (present b (line_of s.address)) (λ _. record { figures = refl; size = refl }) (λ _. record { figures = refl; size = refl })

module _ (q : Queues) (b : Hierarchy) where
  abbrev Keeps : Outcome → Type 0
  Keeps o = SameFigures b o.hierarchy

  retried : (i : ℕ) (l : LoadEntry) (v : Option ℕ) → Keeps (retry_with i l v q b)
  unfolding retry_with answer_load
  retried i l none = same b
  retried i l (some v) = either Keeps (leb i q.committed) (λ _. use-line (line_of l.address) b) (λ _. same b)

  ruled : (c : Call) → Keeps (rule c q b)
  unfolding load_rule store_rule retry_rule commit_rule abort_rule checkpoint_rule restore_rule idle_rule reply_rule flush_rule show_rule preview_rule use_slot fill_line install write_back_slot write_back_all
  ruled (load a w) = same b
  ruled (store a w v) = same b
  ruled (retry i) =
      let l = first (waiting_at i) no_load q.loads in
      retried i l (load_value i l.address l.width q.stores b)
  ruled (commit k) = use-each (filter (uses_line_by k) q.loads) b
  ruled (abort n) = same b
  ruled idle =
      either Keeps (can_drain q b) (λ _. write_store_lem (oldest_store q) b)
      (λ _. either Keeps (can_request_load q b) (λ _. same b) (λ _. either Keeps (can_request_store q b) (λ _. same b) (λ _. same b)))
  ruled reply = record { figures = refl; size = refl }
  ruled flush = write-backs (slots b) 0 b
  ruled (show a) = same b
  ruled (checkpoint x) = same b
  ruled (restore x) = same b
  ruled preview = same b

  pub figures-kept : (c : Call) → SameFigures b (outcome c q b).hierarchy
  figures-kept c = outcome-by c q b Keeps (λ k. same b) (λ _ _ _. ruled c)

-- `State::flush_formed` meets its contract.
use mathlib.Core.Path.{refl, sym, ◌∙◌}
use Rattle.model.proofs.Calls.{formed-opens, one-refuses, one-does}
use Rattle.model.proofs.Facts.{formed-flushable}
use Rattle.model.proofs.Accepted.{flushed-state}
use Rattle.model.proofs.State.flush_formed.Goals as goal

pub returns-then-has_committed_store : goal.returns-then-has_committed_store
returns-then-has_committed_store c = rw c.refused.ensures (sym (one-refuses _ _ _ (formed-opens _ _ _ c.requires tt) _ _ refl (sym c.has_committed_store.ensures ∙ c.if-has_committed_store.true)))

pub flush_lines-requires : goal.flush_lines-requires
flush_lines-requires c = formed-flushable c.args.self c.args.cache.now c.args.memory.now c.requires

pub returns : goal.returns
returns c =
    flushed-state c.args.self c.args.cache.now c.args.memory.now _ _ _ c.dirty_count.ensures c.flush_lines.ensures
    ∙ sym (one-does _ _ _ (formed-opens _ _ _ c.requires tt) _ _ refl (sym c.has_committed_store.ensures ∙ c.if-has_committed_store.false))

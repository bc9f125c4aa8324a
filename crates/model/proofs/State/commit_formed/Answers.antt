-- `State::commit_formed` meets its contract.
use mathlib.Core.Path.{refl, sym, ◌∙◌}
use borrow.Author.Tests.{lt-ltb, le-ltb}
use Rattle.model.proofs.Calls.{formed-opens, one-refuses, one-does}
use Rattle.model.proofs.State.commit_formed.Goals as goal

pub returns-then-k-self : goal.returns-then-k-self
returns-then-k-self c = λ cache memory formed. rw c.refused.ensures (sym (one-refuses _ _ _ (formed-opens _ _ _ formed tt) _ _ refl (rw (lt-ltb _ _ c.if-k-self.true))))

pub returns-then-self-k : goal.returns-then-self-k
returns-then-self-k c = λ cache memory formed. rw c.refused-then-self-k.ensures (sym (one-refuses _ _ _ (formed-opens _ _ _ formed tt) _ _ refl (rw (le-ltb _ _ c.if-k-self.false, lt-ltb _ _ c.if-self-k.true))))

pub returns : goal.returns
returns c = λ cache memory formed. c.commit_accepted.ensures _ _ ∙ sym (one-does _ _ _ (formed-opens _ _ _ formed tt) _ _ refl (rw (le-ltb _ _ c.if-k-self.false, le-ltb _ _ c.if-self-k.false)))

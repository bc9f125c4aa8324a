-- `State::abort_formed` meets its contract.
use mathlib.Core.Path.{refl, sym, ◌∙◌}
use native.Mathlib.Omega.{arith}
use borrow.Author.Tests.{lt-ltb, le-ltb, le-leb, lt-leb}
use Prim.Native.Nat.{◌+◌}
use Rattle.model.proofs.Calls.{formed-opens, one-refuses, one-does}
use Rattle.model.proofs.State.abort_formed.Goals as goal

pub returns-then-n-self : goal.returns-then-n-self
returns-then-n-self c = λ cache memory formed. rw c.refused.ensures (sym (one-refuses _ _ _ (formed-opens _ _ _ formed tt) _ _ refl (rw (le-leb _ _ c.if-n-self.true))))

pub returns-then-self-n : goal.returns-then-self-n
returns-then-self-n c = λ cache memory formed. rw c.refused-then-self-n.ensures (sym (one-refuses _ _ _ (formed-opens _ _ _ formed tt) _ _ refl (rw (lt-leb _ _ c.if-n-self.false, lt-ltb (c.args.self.last + 1) c.args.n (omega (arith, c.if-n-self.false, c.if-self-n.true))))))

pub returns : goal.returns
returns c = λ cache memory formed. c.abort_accepted.ensures _ _ ∙ sym (one-does _ _ _ (formed-opens _ _ _ formed tt) _ _ refl (rw (lt-leb _ _ c.if-n-self.false, le-ltb (c.args.self.last + 1) c.args.n (omega (arith, c.if-n-self.false, c.if-self-n.false)))))

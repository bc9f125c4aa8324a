-- `any` over a range, when the closure is a test.
use Rattle.std.proofs.Common.{ℕ, ◌+◌, ◌≡◌, ◌∙◌, Bool, arith}
use denote.Param.Members.{Mut, Called}
use Rattle.std.specs.Iterator.{ChecksAny}
use Rattle.std.specs.declared.ops.Range.{Range}
use Rattle.std.proofs.iter.Yields.{nat_range_steps}
use Rattle.std.proofs.lemmas.Iterator.{YieldsList-from_range}
use Rattle.std.proofs.lemmas.Iterator.Search.{any_from_yields_List}
use Rattle.lists.specs.Counted.{some_from}
use Rattle.queue_checks.proofs.Good.{some-list}

pub range-any : {F : Type 0} {s : Range ℕ} (g : Mut F (ℕ × Unit {0}) Bool) (p : ℕ → Bool) (f : F) (u : Range ℕ) (a n : ℕ)
    → s ≡ record { start = a; end = a + n }
    → ((x : ℕ) (b : Bool) (q : F) → Called g f (x, tt) b q → (q ≡ f) × (b ≡ p x))
    → (r : Bool) → ChecksAny nat_range_steps g s f r u → r ≡ some_from p a n
range-any g p f u a n e k r h = any_from_yields_List p u f r h (YieldsList-from_range a (a + n) n e (omega arith)) k ∙ some-list p a n

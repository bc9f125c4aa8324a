-- The numbers that no call has are those above 11.
use Prim.Native.Nat.{ℕ, ◌<◌, ◌≤◌}
use mathlib.Core.Path.{◌≡◌}
use mathlib.Core.Bool.{false, cond}
use Rattle.std.specs.Prelude.{Option, Some, None}
use native.Mathlib.Omega.{arith}
use lib.Dec.{eqb}
use borrow.Author.Tests.{eqb-false, ne_eqb}
use Rattle.lists.proofs.Cond.{cases}
use Rattle.rules.specs.Calls as rules
use Rattle.nicoisetarn.specs.Answers.{call_numbered}

module _ (call x y z : ℕ) where
  -- a number that is none of theirs
  abbrev Not : ℕ → Type 0
  Not n = call ≡ n → ⊥

  pub none-of-theirs :
      Not 0 → Not 1 → Not 2 → Not 3 → Not 4 → Not 5 → Not 6 → Not 7 → Not 8 → Not 9 → Not 10 → Not 11 → call_numbered call x y z ≡ None
  unfolding call_numbered
  none-of-theirs n0 n1 n2 n3 n4 n5 n6 n7 n8 n9 n10 n11 =
      let past : (n : ℕ) → Not n → eqb call n ≡ false = ne_eqb call in
      rw (past 0 n0, past 1 n1, past 2 n2, past 3 n3, past 4 n4, past 5 n5, past 6 n6, past 7 n7, past 8 n8, past 9 n9, past 10 n10, past 11 n11)

  pub no_number : 11 < call → call_numbered call x y z ≡ None
  no_number h =
      let no : (n : ℕ) → n < 12 → Not n = λ n l e. omega arith in
      none-of-theirs (no 0 (omega arith)) (no 1 (omega arith)) (no 2 (omega arith)) (no 3 (omega arith)) (no 4 (omega arith)) (no 5 (omega arith))
      (no 6 (omega arith)) (no 7 (omega arith)) (no 8 (omega arith)) (no 9 (omega arith)) (no 10 (omega arith)) (no 11 (omega arith))

  -- a number that is not this one, among those from this one on
  above : (n : ℕ) (c : rules.Call) (o : Option rules.Call) → n ≤ call → cond (eqb call n) (Some c) o ≡ None → (n < call) × (o ≡ None)
  above n c o h e = cases (eqb call n)
      (λ t. let f : Some c ≡ None = rw t at e in let z : ◌≡◌ {A = ℕ} 0 1 = cc in let no : ⊥ = omega arith in absurd no)
      (λ t. let g = eqb-false call n t in (omega arith, rw t at e))

  pub some_number : call_numbered call x y z ≡ None → 11 < call
  unfolding call_numbered
  some_number e =
      let e0 = above 0 _ _ (omega arith) e in
      let e1 = above 1 _ _ e0.0 e0.1 in
      let e2 = above 2 _ _ e1.0 e1.1 in
      let e3 = above 3 _ _ e2.0 e2.1 in
      let e4 = above 4 _ _ e3.0 e3.1 in
      let e5 = above 5 _ _ e4.0 e4.1 in
      let e6 = above 6 _ _ e5.0 e5.1 in
      let e7 = above 7 _ _ e6.0 e6.1 in
      let e8 = above 8 _ _ e7.0 e7.1 in
      let e9 = above 9 _ _ e8.0 e8.1 in
      let e10 = above 10 _ _ e9.0 e9.1 in
      (above 11 _ _ e10.0 e10.1).0

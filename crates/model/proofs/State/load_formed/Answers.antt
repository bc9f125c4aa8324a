-- `State::load_formed` meets its contract: each refusal by its check, else what an accepted load does.
use mathlib.Core.Path.{refl, sym, ◌∙◌, ap}
use Prim.Native.Nat.{◌<◌}
use native.Mathlib.Omega.{arith}
use Rattle.rules.specs.Shape.{top_number}
use Rattle.access.specs.AccessChecks.{sized}
use Rattle.rules.specs.RefusalNumbers.{numbered}
use Rattle.model.proofs.Calls.{formed-opens, access-refuses, load-numbers, load_full, load_does, passed-access}
use Rattle.model.proofs.Facts.{access-fine}
use Rattle.model.proofs.State.load_formed.Goals as goal

pub returns-in_default : goal.returns-in_default
returns-in_default c =
    λ memory formed.
    rw c.refused.ensures
    (sym (access-refuses _ _ _ _ _ _ refl (formed-opens _ _ _ formed tt) _ (sym c.check_access-checked.ensures ∙ ap numbered c.unwrap_err.ensures)))

pub returns-then-self-eq-TOP_NUMBER : goal.returns-then-self-eq-TOP_NUMBER
returns-then-self-eq-TOP_NUMBER c =
    λ memory formed.
    rw c.refused-then-self-eq-TOP_NUMBER.ensures
    (sym (load-numbers _ _ _ _ (formed-opens _ _ _ formed tt) _ (sym c.check_access-checked.ensures ∙ ap numbered c.in-Ok.is) c.if-self-eq-TOP_NUMBER.true))

pub load_accepted-requires : goal.load_accepted-requires
load_accepted-requires c =
    let p = passed-access _ _ _ _ (sym c.check_access-checked.ensures ∙ ap numbered c.in-Ok.is) in
    let low : c.args.self.last < top_number = omega (arith, c.if-self-eq-TOP_NUMBER.false) in
    (c.requires.shaped, rw p.1 (access-fine (sized c.args.self.size) _ _ c.requires.small p.0), low)

pub returns : goal.returns
returns c =
    λ memory formed.
    let e = sym c.check_access-checked.ensures ∙ ap numbered c.in-Ok.is in
    c.load_accepted.ensures _ ∙ rw (passed-access _ _ _ _ e).1 (sym (load_does _ _ _ _ (formed-opens _ _ _ formed tt) _ e c.if-self-eq-TOP_NUMBER.false (sym c.has_free_load.ensures ∙ c.if-not-has_free_load.false)))

pub returns-then-not-has_free_load : goal.returns-then-not-has_free_load
returns-then-not-has_free_load c =
    λ memory formed.
    rw c.refused-then-not-has_free_load.ensures
    (sym (load_full _ _ _ _ (formed-opens _ _ _ formed tt) _ (sym c.check_access-checked.ensures ∙ ap numbered c.in-Ok.is) c.if-self-eq-TOP_NUMBER.false (sym c.has_free_load.ensures ∙ c.if-not-has_free_load.true)))

-- What allowed figures leave to the functions behind them, as bounds on numbers.
use Prim.Native.Nat.{ℕ, ◌*◌, ◌%◌, ◌<◌, ◌≤◌}
use mathlib.Core.Path.{◌≡◌}
use mathlib.Core.Bool.{true, ◌&&◌}
use native.Mathlib.Nat.{mul-le-mul}
use lib.Dec.{leb, eqb}
use borrow.Author.Tests.{leb-true, eqb-true}
use Rattle.lists.proofs.Cond.{and_left, and_right}
use Rattle.rules.specs.declared.Figures.{Figures}
use Rattle.rules.specs.Shape.{sets_allowed, figures_allowed}
use Rattle.rules.proofs.LineFacts.{sets-bound}

pub record Figured (f : Figures) (size : ℕ) : Type 0 where
  pub some-set : 0 < f.sets
  pub some-way : 0 < f.ways
  -- the records of all sets have room in the table
  pub room : f.sets * f.ways ≤ 256
  pub some-line : 16 ≤ size
  pub whole-lines : size % 16 ≡ 0
  pub most-size : size ≤ 65536

pub figures-tell : (f : Figures) (size : ℕ) → figures_allowed f size ≡ true → Figured f size
unfolding figures_allowed
figures-tell f size e =
    let sets = f.sets in
    let ways = f.ways in
    let s = sets-bound sets (and_left (sets_allowed sets) _ e) in
    let e₁ = and_right (sets_allowed sets) _ e in
    let w = and_left (leb 1 ways && leb ways 4) _ e₁ in
    let e₂ = and_right (leb 1 ways && leb ways 4) _ e₁ in
    let m = and_right (eqb (size % 16) 0) _ e₂ in
    record {
      some-set = s.0;
      some-way = leb-true 1 ways (and_left _ _ w);
      room = mul-le-mul s.1 (leb-true ways 4 (and_right (leb 1 ways) _ w));
      some-line = leb-true 16 size (and_left _ _ m);
      whole-lines = eqb-true (size % 16) 0 (and_left _ _ e₂);
      most-size = leb-true size 65536 (and_right (leb 16 size) _ m);
    }

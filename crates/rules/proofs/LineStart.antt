-- An accepted start leaves lines that fit and are well formed; none of them is valid.
use mathlib.Core.Path.{◌≡◌, refl}
use mathlib.Core.Bool.{true}
use mathlib.Core.List.{List}
use Prim.Native.Nat.{ℕ, ◌+◌, ◌*◌, ◌≤◌}
use native.Mathlib.Omega.{arith}
use lib.ListN.{length, length-replicate, get_or-replicate}
use borrow.Author.Tests.{eq-eqb}
use Rattle.lists.proofs.Cond.{and_left, and_both, wrong}
use Rattle.rules.specs.declared.Figures.{Figures}
use Rattle.rules.specs.Shape.{figures_allowed, fits}
use Rattle.rules.specs.Runs.{started, start_allowed}
use Rattle.rules.proofs.Recency.{start-invalid, start-clean, start-few, start-line, start-unused, start-table, start-recency}
use Rattle.rules.proofs.LineFacts.{Good, fits-tells}

module _ (f : Figures) (cache memory : List ℕ) (allowed : start_allowed f cache memory ≡ true) where
  pub start_fits : fits (started f memory).hierarchy ≡ true
  unfolding start_allowed started fits
  start_fits =
      and_both _ _ (and_left (figures_allowed f (length memory)) _ allowed)
      (and_both _ _ (eq-eqb (length memory) _ refl) (eq-eqb _ _ (length-replicate {A = ℕ} (f.sets * f.ways * 16) 0)))

  start-room : f.sets * f.ways ≤ 256
  unfolding started
  start-room = (fits-tells (started f memory).hierarchy start_fits).room

  pub start-good : Good (started f memory).hierarchy
  unfolding started
  start-good =
      record {
        table = start-table f;
        unused = start-unused f;
        recency = start-recency f start-room memory;
        lines = record {
          inside = λ k v. wrong v (start-invalid f k);
          own = λ k v. wrong v (start-invalid f k);
          once = λ j k u v e. wrong v (start-invalid f k);
        };
        clean = λ k i v d h. wrong v (start-invalid f k);
        empty = λ k v. (start-clean f k, start-line f k);
        zeroed = λ k i h v l. get_or-replicate (f.sets * f.ways * 16) (16 * k + i) 0 0 (omega arith);
        none-dirty = λ t k. start-clean f k;
        four-marks = λ k. start-few f k;
      }

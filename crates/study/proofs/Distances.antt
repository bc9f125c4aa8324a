-- Through all items the records of each set are its stack, so an item hits exactly with the ways above the stack distance of its line; so what
-- hits with some ways hits with more.
use Prim.Native.Nat.{ℕ, zero, suc, ◌≤◌}
use mathlib.Core.Path.{◌≡◌, refl, subst}
use mathlib.Core.Bool.{true, false}
use mathlib.Core.List.{List, [], ◌∷◌, map}
use native.Mathlib.Nat.{mul-le-mul}
use native.Mathlib.Omega.{arith}
use lib.Dec.{ltb, leb}
use lib.ListN.{get_or}
use borrow.Author.Tests.{ltb-true, leb-true, lt-ltb}
use Rattle.lists.proofs.Cond.{and_left, and_right}
use Rattle.rules.specs.declared.Figures.{Figures}
use Rattle.rules.specs.declared.WritePolicy.TheVariants.{WriteBack}
use Rattle.rules.specs.Shape.{Hierarchy, geometry, sets_allowed, ways_allowed}
use Rattle.rules.proofs.LineFacts.{sets-bound}
use Rattle.study.specs.Study.{empty_tags, hits_from, hits}
use Rattle.study.specs.Stack.{distances_from, distances, empty_stacks}
use Rattle.study.specs.Claims.{HitsByDistance, Inclusion}
use Rattle.study.proofs.Items.{Stacked, item-stacked, item-present, item-figures, start-stacked}

-- ---- through every item

hits-distances :
    (f : Figures) (items : List ℕ) (K : ℕ → List ℕ) (b : Hierarchy) → b.figures ≡ f → Stacked K b
    → hits_from items b ≡ map (λ d. ltb d f.ways) (distances_from f.sets items K)
unfolding hits_from distances_from
hits-distances f [] K b e g = refl
hits-distances f (l ∷ items) K b e g =
    let P : Figures → Type 0 = λ v. hits_from (l ∷ items) b ≡ map (λ d. ltb d v.ways) (distances_from v.sets (l ∷ items) K) in
    subst P e (rw (item-present K b g l, hits-distances b.figures items _ _ (item-figures l b) (item-stacked K b g l)))

-- ---- from a start

module _ (sets ways : ℕ) (s : sets_allowed sets ≡ true) (w : ways_allowed ways ≡ true) where
  start : Stacked empty_stacks (empty_tags sets ways)
  start =
      let m = leb-true ways 4 (and_right (leb 1 ways) _ w) in
      start-stacked sets ways (sets-bound sets s).0 (leb-true 1 ways (and_left _ _ w)) m (mul-le-mul (sets-bound sets s).1 m)

pub hits-by-distance : HitsByDistance
unfolding HitsByDistance hits distances empty_tags
hits-by-distance sets ways items s w =
    hits-distances (geometry WriteBack sets ways) items empty_stacks (empty_tags sets ways) refl (start sets ways s w)

-- ---- inclusion

more : (v w : ℕ) → v ≤ w → (ds : List ℕ) (k : ℕ) → get_or (map (λ d. ltb d v) ds) k false ≡ true → get_or (map (λ d. ltb d w) ds) k false ≡ true
more v w h [] k e = e
more v w h (d ∷ ds) zero e = lt-ltb d w (omega (arith, ltb-true d v e))
more v w h (d ∷ ds) (suc k) e = more v w h ds k e

pub inclusion : Inclusion
unfolding Inclusion HitsByDistance
inclusion sets v w items s a b h k e =
    rw (hits-by-distance sets w items s b) (more v w h (distances sets items) k (rw (hits-by-distance sets v items s a) at e))

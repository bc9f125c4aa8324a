-- `dirty_count` meets its contract.
use Rattle.std.proofs.Common.{rules}
use Rattle.std.proofs.iter.runs.Made.{chains}
use Rattle.std.proofs.lemmas.Iterator.{YieldsList-from_slice}
use Rattle.std.proofs.lemmas.Iterator.Adapters.{fits_from_length, at_most_from_yields_List}
use Rattle.std.proofs.lemmas.List.Sums.{sum_by-cons}
use Rattle.std.specs.Prelude.{sum_by}
use mathlib.Core.Path.{◌≡◌, refl, ap, ◌∙◌}
use mathlib.Core.List.{List, [], ◌∷◌}
use Prim.Native.Nat.{ℕ, ◌+◌, ◌^◌, ◌≤◌}
use native.Mathlib.Omega.{arith}
use lib.ListN.{length}
use Rattle.lists.specs.Padded.{total}
use Rattle.rules.specs.Lines.{words_of}
use Rattle.records.proofs.dirty_count.Goals as goal

total-list : {A : Type 0} (f : A → ℕ) (xs : List A) → sum_by f xs ≡ total f xs
unfolding total
total-list f [] = refl
total-list f (x ∷ xs) = sum_by-cons f x xs ∙ ap (λ n. f x + n) (total-list f xs)

pub sum-requires-clause-fits : goal.sum-requires-clause-fits
sum-requires-clause-fits c =
    let long : length c.args.tags ≤ 256 = search rules in
    fits_from_length _ _ 256 (2 ^ 32) (at_most_from_yields_List (YieldsList-from_slice c.args.tags cc) long) c.map.ensures.closure (omega arith) (λ x r q k. search rules)

pub returns : goal.returns
returns c = let h : c.sum.result ≡ sum_by words_of c.args.tags = search (rules, chains) in h ∙ total-list words_of c.args.tags

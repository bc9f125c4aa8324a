-- `study_accepted` meets its contract: the scratch is cleared, the items are counted, and the scratch is cleared again.
use Rattle.std.proofs.Common.{rules, ◌∙◌, ap, sym, subst, ℕ, List, ◌≤◌, length, replicate, slice_index_or}
use native.Mathlib.Omega.{arith}
use Rattle.study.specs.Study.{most_items, rate_of}
use Rattle.study.specs.Scratch.{CountGiven}
use Rattle.study.proofs.Counts.{allowed-tells, allowed-given, allowed-rated, allowed-counted}
use Rattle.study.proofs.Mapped.{all-asked, mapped}
use Rattle.study.proofs.study_accepted.Goals as goal

pub count_hits-hits-requires : goal.count_hits-hits-requires
count_hits-hits-requires c =
    subst (λ (l : List ℕ). CountGiven c.args.items.now c.args.sets l) (sym (c.fill.ensures.after (λ y e. e)))
    (allowed-given _ _ _ (allowed-tells _ _ _ c.requires))

pub overflow_cast-n : goal.overflow_cast-n
overflow_cast-n c = omega (arith, (allowed-tells _ _ _ c.requires).few)

pub map-requires : goal.map-requires
map-requires c =
    let a = allowed-tells _ _ _ c.requires in
    let few : length c.args.items.now ≤ most_items = a.few in
    let small : (k : ℕ) → slice_index_or c.count_hits-hits.result k 0 ≤ most_items = allowed-rated _ _ _ a _ c.count_hits-hits.ensures.tallied in
    (omega arith, (omega arith, (omega arith, all-asked _ _ _ (λ x q e. search rules) _ (λ k. search rules))))

pub returns : goal.returns
returns c =
    let n = length c.args.scratch.now in
    let hits = c.count_hits-hits.ensures in
    let rates = mapped _ _ (λ h. rate_of h (length c.args.items.now)) (λ x y q e. search rules) _ _ c.map.ensures.items in (
      allowed-counted _ _ _ (allowed-tells _ _ _ c.requires) _ _ hits.tallied rates,
      c.fill-2.ensures.after (λ y e. e) ∙ ap (λ (n : ℕ). replicate n 0) (hits.long ∙ c.fill.ensures.len),
    )

-- Laws for the loops over the records and over the loads: what each turn does, and what the loop amounts to in the rules.
use mathlib.Core.Path.{◌≡◌, refl, sym, ap, ◌∙◌}
use mathlib.Core.Bool.{cond, ◌&&◌}
use mathlib.Core.List.{List}
use Prim.Native.Nat.{ℕ, zero, suc, ◌+◌, ◌*◌, ◌%◌, ◌<◌, ◌≤◌}
use native.Mathlib.Omega.{arith}
use lib.Dec.{ltb, leb, eqb}
use lib.ListN.{length, length-replicate, replicate, get_or, get_or-replicate}
use lib.Seq.{ext_get_or}
use borrow.Author.Tests.{le-leb, ltb-true, leb-true, eqb-true, lt-ltb, le-ltb}
use Rattle.lists.specs.Counted.{steps_from, each_from}
use Rattle.lists.proofs.Counting.{each-length, each_at}
use Rattle.lists.proofs.Cond.{either, and_left, and_right}
use Rattle.lists.proofs.CountedLoops.{change, changes-each}
use Rattle.rules.specs.declared.Figures.{Figures}
use Rattle.rules.specs.declared.Tag.{Tag}
use Rattle.rules.specs.Shape.{Hierarchy, no_tag, with_age, with_dirty}
use Rattle.rules.specs.Lines.{aged_at, write_back_slot}
use Rattle.rules.specs.Runs.{start_tags}
use Rattle.records.specs.Records.{flushed_tags}

-- ---- use

module _ (f ways v a k : ℕ) (t : Tag) where
  -- of a record of the set
  pub aged-in :
      (u : Tag) → f ≤ k → k < f + ways → u ≡ cond (eqb k v) (with_age 0 t) (cond (ltb t.age a) (with_age (t.age + 1) t) t) → u ≡ aged_at f ways v a k t
  unfolding aged_at
  aged-in u p q e = e ∙ rw (le-leb f k p, lt-ltb k (f + ways) q)

  aged-out : (f ≤ k → k < f + ways → ⊥) → f ≤ v → v < f + ways → aged_at f ways v a k t ≡ t
  unfolding aged_at
  aged-out o p q =
      either (λ u. u ≡ t) (eqb k v) (λ e. let z = eqb-true k v e in absurd (o (omega arith) (omega arith)))
      (λ e. either (λ u. u ≡ t) (leb f k && (ltb k (f + ways) && ltb t.age a))
      (λ e. absurd (o (leb-true f k (and_left _ _ e)) (ltb-true k (f + ways) (and_left _ _ (and_right (leb f k) _ e)))))
      (λ e. refl))

pub use-each :
    (f ways v a : ℕ) (tags : List Tag) → f ≤ v → v < f + ways
    → steps_from (change (aged_at f ways v a) no_tag) f ways tags ≡ each_from (aged_at f ways v a) 0 tags
use-each f ways v a tags p q = changes-each (aged_at f ways v a) no_tag f ways tags (λ k x o. aged-out f ways v a k x o p q)

-- ---- ages made way by way

pub each-made :
    (f : ℕ → ℕ → ℕ) (n : ℕ) (l : List ℕ) → length l ≡ n → ((k : ℕ) → k < n → get_or l k 0 ≡ f k 0) → l ≡ each_from f 0 (replicate n 0)
each-made f n l h at =
    let zeros : List ℕ = replicate n 0 in
    let long : length zeros ≡ n = length-replicate n 0 in
    ext_get_or 0 l (each_from f 0 zeros) (h ∙ sym (each-length f 0 zeros ∙ long))
    (λ k b. at k (omega arith) ∙ sym (each_at f zeros 0 k (omega arith) ∙ ap (f k) (get_or-replicate n k 0 0 (omega arith))))

-- ---- flush

abbrev pub cleaned : ℕ → Tag → Tag
cleaned k t = with_dirty 0 t

cleans : (n i : ℕ) (b : Hierarchy) → steps_from (change cleaned no_tag) i n b.tags ≡ (steps_from write_back_slot i n b).tags
unfolding steps_from write_back_slot
cleans zero i b = refl
cleans (suc n) i b = cleans n (suc i) (write_back_slot i b)

pub flushed-tags : (n : ℕ) (tags : List Tag) → steps_from (change cleaned no_tag) 0 n tags ≡ flushed_tags n tags
unfolding flushed_tags
flushed-tags n tags = cleans n 0 _

-- ---- start

abbrev pub start_at : ℕ → ℕ → ℕ → Tag → Tag
start_at count ways k t = cond (ltb k count) (with_age (k % ways) t) t

pub start-each :
    (g : Figures) → steps_from (change (start_at (g.sets * g.ways) g.ways) no_tag) 0 (g.sets * g.ways) (replicate 256 no_tag) ≡ start_tags g
unfolding start_tags
start-each g =
    changes-each (start_at (g.sets * g.ways) g.ways) no_tag 0 (g.sets * g.ways) (replicate 256 no_tag)
    (λ k x o. rw (le-ltb k (g.sets * g.ways) (not-below k (g.sets * g.ways) (λ l. o (omega arith) (omega arith)))))
  where
    not-below : (k n : ℕ) → (k < n → ⊥) → n ≤ k
    not-below k n h = omega arith

pub start-at : (count ways k : ℕ) (t : Tag) → k < count → start_at count ways k t ≡ with_age (k % ways) t
start-at count ways k t h = rw (lt-ltb k count h)

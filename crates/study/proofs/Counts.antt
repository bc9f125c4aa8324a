-- The loop over the items: the stacks in the scratch and the counts are those of the items so far, and the counts are the hits.
use Prim.Native.Nat.{ℕ, zero, suc, ◌+◌, ◌%◌, ◌<◌, ◌≤◌}
use mathlib.Core.Path.{◌≡◌, refl, ap, ◌∙◌}
use mathlib.Core.Bool.{true}
use mathlib.Core.List.{List, [], ◌∷◌, ◌++◌, map}
use native.Mathlib.Nat.{mod-lt}
use native.Mathlib.Numerals.{add-one}
use native.Mathlib.Omega.{arith}
use lib.Dec.{ltb, leb}
use lib.ListN.{length, get_or, take, replicate, length-append, length-replicate}
use lib.Seq.{take-suc, take_all, length-take-le}
use borrow.Author.Tests.{ltb-true, leb-true, eqb-true}
use Rattle.lists.specs.Padded.{filter}
use Rattle.lists.proofs.Cond.{cases, and_left, and_right}
use Rattle.lists.proofs.Every.{every-at}
use Rattle.lists.proofs.Selected.{filter-append, filter-most}
use Rattle.rules.specs.Shape.{sets_allowed, ways_allowed}
use Rattle.rules.proofs.LineFacts.{sets-bound}
use Rattle.study.specs.declared.StudyResult.{StudyResult}
use Rattle.study.specs.Study.{scratch_size, most_items, line_limit, items_allowed, study_allowed, hit_count, hit_counts, rates_of, counted}
use Rattle.study.specs.Stack.{distance, touched, stacks_from, distances_from, empty_stacks, distances}
use Rattle.study.specs.Scratch.{places_of, HoldsStacks, below, tally, one_more, added_hits, OneMoreFits, CountGiven, CountLeft}
use Rattle.study.specs.Claims.{HitsByDistance}
use Rattle.study.proofs.Stack.{apart, apart-stacks}
use Rattle.study.proofs.Distances.{hits-by-distance}
use Rattle.study.proofs.Scratch.{TouchedAt, touched-distance, touched-kept}

-- the stacks after some items
abbrev stacks : ℕ → List ℕ → ℕ → List ℕ
stacks sets items = stacks_from sets items empty_stacks

-- ---- one more item

module _ (sets x : ℕ) where
  stacks-more : (xs : List ℕ) (K : ℕ → List ℕ) → stacks_from sets (xs ++ x ∷ []) K ≡ touched sets x (stacks_from sets xs K)
  unfolding stacks_from
  stacks-more [] K = refl
  stacks-more (l ∷ xs) K = stacks-more xs (touched sets l K)

  distances-more :
      (xs : List ℕ) (K : ℕ → List ℕ)
      → distances_from sets (xs ++ x ∷ []) K ≡ distances_from sets xs K ++ distance (suc x) (stacks_from sets xs K (x % sets)) ∷ []
  unfolding stacks_from distances_from
  distances-more [] K = refl
  distances-more (l ∷ xs) K = ap (λ (r : List ℕ). distance (suc l) (K (l % sets)) ∷ r) (distances-more xs (touched sets l K))

distances-length : (sets : ℕ) (xs : List ℕ) (K : ℕ → List ℕ) → length (distances_from sets xs K) ≡ length xs
unfolding distances_from
distances-length sets [] K = refl
distances-length sets (l ∷ xs) K = ap suc (distances-length sets xs (touched sets l K))

-- ---- the counts

below_more : (ways d : ℕ) (ds : List ℕ) → below ways (ds ++ d ∷ []) ≡ one_more (below ways ds) d ways
unfolding below filter
below_more ways d ds =
    ap length (filter-append (λ d. ltb d ways) ds (d ∷ [])) ∙ (length-append (filter (λ d. ltb d ways) ds) (filter (λ d. ltb d ways) (d ∷ []))
    ∙ cases (ltb d ways) (λ e. rw e) (λ e. rw e (omega arith)))

below-most : (ways : ℕ) (ds : List ℕ) → below ways ds ≤ length ds
unfolding below
below-most ways ds = filter-most (λ d. ltb d ways) ds

tally-more : (d : ℕ) (ds : List ℕ) → tally (ds ++ d ∷ []) ≡ added_hits (tally ds) d
tally-more d ds = rw (below_more 1 d ds, below_more 2 d ds, below_more 3 d ds, below_more 4 d ds)

-- an item at distance d is counted: the first w counts are done
pub record Adding (hs : List ℕ) (d w : ℕ) (cur : List ℕ) : Type 0 where
  pub long : length cur ≡ 4
  pub done : (k : ℕ) → k < w → get_or cur k 0 ≡ one_more (get_or hs k 0) d (k + 1)
  pub left : (k : ℕ) → w ≤ k → get_or cur k 0 ≡ get_or hs k 0

-- ---- the loop

-- before item i
pub record Counting (items : List ℕ) (sets : ℕ) (scratch₀ : List ℕ) (i : ℕ) (scratch hs : List ℕ) : Type 0 where
  pub few : i ≤ length items
  pub long : length scratch ≡ length scratch₀
  pub kept : HoldsStacks sets (stacks sets (take i items)) scratch
  pub rest : (k : ℕ) → places_of sets ≤ k → get_or scratch k 0 ≡ get_or scratch₀ k 0
  pub tallied : hs ≡ tally (distances sets (take i items))

module _ (items : List ℕ) (sets : ℕ) (scratch₀ : List ℕ) (given : CountGiven items sets scratch₀) where
  pub some-sets : (0 < sets) × (sets ≤ 64)
  some-sets = sets-bound sets given.shaped

  pub counting-none : Counting items sets scratch₀ 0 scratch₀ (replicate 4 0)
  unfolding distances stacks_from distances_from below filter
  counting-none = record { few = omega arith; long = refl; kept = given.empty; rest = λ k h. refl; tallied = refl }

  pub set-small : (l : ℕ) → l % sets < 64
  set-small l = omega (arith, mod-lt l some-sets.0, some-sets.1)

  -- what an item is below
  pub line_small : (i : ℕ) → get_or items i 0 < line_limit
  unfolding items_allowed
  line_small i = ltb-true _ line_limit (every-at (λ l. ltb l line_limit) 0 refl items given.lines i)

  module _ (i : ℕ) (scratch hs : List ℕ) (g : Counting items sets scratch₀ i scratch hs) where
    abbrev l : ℕ
    l = get_or items i 0

    count_small : (ways : ℕ) → below ways (distances sets (take i items)) ≤ i
    unfolding distances
    count_small ways =
        omega (arith, below-most ways (distances sets (take i items)), distances-length sets (take i items) empty_stacks, length-take-le i items g.few)

    pub countable : i < length items → OneMoreFits hs
    countable h =
        rw g.tallied (record {
          one = omega (arith, count_small 1, given.few);
          two = omega (arith, count_small 2, given.few);
          three = omega (arith, count_small 3, given.few);
          four = omega (arith, count_small 4, given.few);
        })

    -- the four numbers of a set lie in the scratch
    pub places-in : places_of (l % sets) + 4 ≤ length scratch
    places-in = omega (arith, g.long, given.room, mod-lt l some-sets.0, some-sets.1)

    pub counting_more :
        i < length items → (r : ℕ) (next : List ℕ) → TouchedAt (places_of (l % sets)) (l + 1) r scratch next
        → Counting items sets scratch₀ (i + 1) next (added_hits hs r)
    unfolding distances apart
    counting_more h r next t =
        let K : ℕ → List ℕ = stacks sets (take i items) in
        let once : (s : ℕ) → apart (K s) ≡ true = apart-stacks sets (take i items) empty_stacks (λ s. refl) in
        let t' : TouchedAt (places_of (l % sets)) (suc l) r scratch next = rw (add-one l) at t in
        let e : take (i + 1) items ≡ take i items ++ l ∷ [] = rw (add-one i) (take-suc items i 0 h) in
        let d = touched-distance sets K scratch next l r some-sets.0 g.kept once t' in
        record {
          few = omega arith;
          long = t.long ∙ g.long;
          kept = rw (e, stacks-more sets l (take i items) empty_stacks) (touched-kept sets K scratch next l r some-sets.0 g.kept once t');
          rest = λ k a. t.rest k (λ p q z. omega (arith, mod-lt l some-sets.0)) ∙ g.rest k a;
          tallied = rw (e, distances-more sets l (take i items) empty_stacks, tally-more, ← d, g.tallied);
        }

    pub counting-all : length items ≤ i → CountLeft items sets hs scratch₀ scratch
    counting-all h =
        let e : take i items ≡ items = take_all i items h in
        record { tallied = rw (← e) g.tallied; long = g.long; held = rw (← e) g.kept; rest = g.rest }

-- ---- the hits

count_map : (ways : ℕ) (ds : List ℕ) → length (filter (λ h. h) (map (λ d. ltb d ways) ds)) ≡ below ways ds
unfolding filter below
count_map ways [] = refl
count_map ways (d ∷ ds) = cases (ltb d ways) (λ e. rw (e, count_map ways ds)) (λ e. rw (e, count_map ways ds))

count-below : (sets ways : ℕ) (items : List ℕ) → sets_allowed sets ≡ true → ways_allowed ways ≡ true → hit_count sets ways items ≡ below ways (distances sets items)
unfolding hit_count HitsByDistance
count-below sets ways items s w = rw (hits-by-distance sets ways items s w) (count_map ways (distances sets items))

pub counts-are : (sets : ℕ) (items : List ℕ) → sets_allowed sets ≡ true → hit_counts sets items ≡ tally (distances sets items)
unfolding hit_counts
counts-are sets items s =
    rw (count-below sets 1 items s refl, count-below sets 2 items s refl, count-below sets 3 items s refl, count-below sets 4 items s refl)

pub counts-small : (sets ways : ℕ) (items : List ℕ) → below ways (distances sets items) ≤ length items
unfolding distances
counts-small sets ways items = omega (arith, below-most ways (distances sets items), distances-length sets items empty_stacks)

-- ---- what an allowed study gives

pub record Allowed (items : List ℕ) (sets n : ℕ) : Type 0 where
  pub few : length items ≤ most_items
  pub lines : items_allowed items ≡ true
  pub shaped : sets_allowed sets ≡ true
  pub long : n ≡ scratch_size

pub allowed-tells : (items : List ℕ) (sets n : ℕ) → study_allowed items sets n ≡ true → Allowed items sets n
unfolding study_allowed
allowed-tells items sets n e =
    let f = and_right (leb (length items) most_items) _ e in
    let g = and_right (items_allowed items) _ f in
    record {
      few = leb-true (length items) most_items (and_left (leb (length items) most_items) _ e);
      lines = and_left (items_allowed items) _ f;
      shaped = and_left (sets_allowed sets) _ g;
      long = eqb-true n scratch_size (and_right (sets_allowed sets) _ g);
    }

zero-at : (n k : ℕ) → ◌≡◌ {A = ℕ} (get_or (replicate n 0) k 0) 0
zero-at zero k = refl
zero-at (suc n) zero = refl
zero-at (suc n) (suc k) = zero-at n k

module _ (items : List ℕ) (sets n : ℕ) (a : Allowed items sets n) where
  -- a cleared scratch
  pub allowed-given : CountGiven items sets (replicate n 0)
  allowed-given =
      record {
        lines = a.lines;
        few = a.few;
        shaped = a.shaped;
        room = omega (arith, length-replicate {A = ℕ} n 0, a.long);
        empty = record { entry = λ s d h b. zero-at n (places_of s + d) };
      }

  -- each count may be rated
  pub allowed-rated : (hs : List ℕ) → hs ≡ tally (distances sets items) → (k : ℕ) → get_or hs k 0 ≤ most_items
  allowed-rated hs e k = rw e (at k)
    where
      small : (ways : ℕ) → below ways (distances sets items) ≤ most_items
      small ways = omega (arith, counts-small sets ways items, a.few)

      at : (k : ℕ) → get_or (tally (distances sets items)) k 0 ≤ most_items
      at zero = small 1
      at (suc zero) = small 2
      at (suc (suc zero)) = small 3
      at (suc (suc (suc zero))) = small 4
      at (suc (suc (suc (suc k)))) = omega arith

  -- the answer
  pub allowed-counted :
      (hs rs : List ℕ) → hs ≡ tally (distances sets items) → rs ≡ rates_of hs (length items)
      → ◌≡◌ {A = StudyResult} (record { refusal = 0; hits = hs; rates = rs }) (counted sets items)
  allowed-counted hs rs e f = rw (counts-are sets items a.shaped, f, e)

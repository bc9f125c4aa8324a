-- What the functions behind the study do to the scratch, and to the counts.
use Rattle.std.specs.Prelude.{ℕ, zero, suc, ◌+◌, ◌*◌, ◌<◌, ◌≤◌, ◌≡◌, true, cond, List, [], ◌∷◌, ltb, eqb, length, get_or}
use Rattle.lists.specs.Padded.{filter}
use Rattle.lists.specs.Counted.{first_from}
use Rattle.rules.specs.Shape.{most_sets, sets_allowed}
use Rattle.study.specs.Study.{most_ways, most_items, items_allowed}
use Rattle.study.specs.Stack.{empty_stacks, stacks_from, distances}

-- ---- the stacks in the scratch: the first four numbers of each set's stack

-- where those of set s begin
abbrev pub places_of : ℕ → ℕ
places_of s = most_ways * s

-- the scratch has the first four numbers of each stack
pub record HoldsStacks (sets : ℕ) (K : ℕ → List ℕ) (scratch : List ℕ) : Type 0 where
  pub entry : (s d : ℕ) → s < sets → d < most_ways → get_or scratch (places_of s + d) 0 ≡ get_or (K s) d 0

-- what moves to place d of four numbers when m comes first
unfoldable pub moved_to : List ℕ → ℕ → ℕ → ℕ
moved_to old m zero = m
moved_to old m (suc d) = get_or old d 0

-- m comes first of four numbers; r is the place of the four where it was, else 4
pub record Touched (m r : ℕ) (old new : List ℕ) : Type 0 where
  -- the length stays
  pub long : length new ≡ length old
  -- r is the place where it was
  pub found : r ≡ first_from (λ d. eqb (get_or old d 0) m) 0 most_ways
  -- m comes first, and the numbers before its old place move down by one
  pub moved : (d : ℕ) → d ≤ r → d < most_ways → get_or new d 0 ≡ moved_to old m d
  -- every other number stays
  pub rest : (d : ℕ) → r < d → get_or new d 0 ≡ get_or old d 0

-- ---- the counts

-- how many of the distances are below the ways
unfoldable pub below : ℕ → List ℕ → ℕ
below ways ds = length (filter (λ d. ltb d ways) ds)

-- for 1, 2, 3 and 4 ways
abbrev pub tally : List ℕ → List ℕ
tally ds = below 1 ds ∷ below 2 ds ∷ below 3 ds ∷ below 4 ds ∷ []

-- one more, if the distance is below the ways
abbrev pub one_more : ℕ → ℕ → ℕ → ℕ
one_more n d ways = cond (ltb d ways) (n + 1) n

-- each count with an item at distance d
abbrev pub added_hits : List ℕ → ℕ → List ℕ
added_hits hs d = one_more (get_or hs 0 0) d 1 ∷ one_more (get_or hs 1 0) d 2 ∷ one_more (get_or hs 2 0) d 3 ∷ one_more (get_or hs 3 0) d 4 ∷ []

-- one more has room in each count
pub record OneMoreFits (hs : List ℕ) : Type 0 where
  pub one : get_or hs 0 0 < most_items
  pub two : get_or hs 1 0 < most_items
  pub three : get_or hs 2 0 < most_items
  pub four : get_or hs 3 0 < most_items

-- what the count is given: allowed items and sets, and a scratch of empty stacks
pub record CountGiven (items : List ℕ) (sets : ℕ) (scratch : List ℕ) : Type 0 where
  pub lines : items_allowed items ≡ true
  pub few : length items ≤ most_items
  pub shaped : sets_allowed sets ≡ true
  pub room : places_of most_sets ≤ length scratch
  pub empty : HoldsStacks sets empty_stacks scratch

-- what the count leaves: the counts of all items, and their stacks in the scratch
pub record CountLeft (items : List ℕ) (sets : ℕ) (hs old new : List ℕ) : Type 0 where
  pub tallied : hs ≡ tally (distances sets items)
  pub long : length new ≡ length old
  pub held : HoldsStacks sets (stacks_from sets items empty_stacks) new
  -- the numbers behind those of the sets stay
  pub rest : (k : ℕ) → places_of sets ≤ k → get_or new k 0 ≡ get_or old k 0

-- The stack of a set: its lines in order of use, the latest first. The place of a line in it, its stack distance, tells with which ways an
-- access to the line hits.
-- A line stands in a stack as its number + 1, so that 0 says that nothing stands there.
use Rattle.std.specs.Prelude.{ℕ, suc, ◌%◌, cond, not, List, [], ◌∷◌, eqb, get_or}
use Rattle.lists.specs.Padded.{filter}
use Rattle.lists.specs.Counted.{first_from}
use Rattle.study.specs.Study.{most_ways}

-- ---- one stack

-- m comes first, and the others follow in their order
unfoldable pub touch : ℕ → List ℕ → List ℕ
touch m S = m ∷ filter (λ x. not (eqb x m)) S

-- the place of m among the first four, from 0; where it is none of them, 4
unfoldable pub distance : ℕ → List ℕ → ℕ
distance m S = first_from (λ d. eqb (get_or S d 0) m) 0 most_ways

-- ---- the stack of each set: K s is that of set s

-- line l is used
unfoldable pub touched : ℕ → ℕ → (ℕ → List ℕ) → ℕ → List ℕ
touched sets l K s = cond (eqb (l % sets) s) (touch (suc l) (K s)) (K s)

abbrev pub empty_stacks : ℕ → List ℕ
empty_stacks s = []

-- what the items leave
unfoldable pub stacks_from : ℕ → List ℕ → (ℕ → List ℕ) → ℕ → List ℕ
stacks_from sets [] K = K
stacks_from sets (l ∷ items) K = stacks_from sets items (touched sets l K)

-- for each item the distance of its line before it
unfoldable pub distances_from : ℕ → List ℕ → (ℕ → List ℕ) → List ℕ
distances_from sets [] K = []
distances_from sets (l ∷ items) K = distance (suc l) (K (l % sets)) ∷ distances_from sets items (touched sets l K)

-- .. from empty stacks
unfoldable pub distances : ℕ → List ℕ → List ℕ
distances sets items = distances_from sets items empty_stacks

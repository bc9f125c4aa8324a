-- Choosing the ways (02, card 5): a list of line numbers run through 01's tags alone, for 1, 2, 3 and 4 ways. A definition for each
-- sentence of the card, in its order. (That more ways keep every hit is claimed, in Claims.)
use Rattle.std.specs.Prelude.{ℕ, ◌+◌, ◌*◌, ◌/◌, Bool, cond, ◌&&◌, List, [], ◌∷◌, ltb, leb, eqb, length, get_or, replicate}
use Rattle.lists.specs.Padded.{every, filter}
use Rattle.rules.specs.declared.Figures.{Figures}
use Rattle.rules.specs.declared.WritePolicy.TheVariants.{WriteBack}
use Rattle.rules.specs.Shape.{Hierarchy, geometry, sets_allowed}
use Rattle.rules.specs.Lines.{present, use_line, fill_line}
use Rattle.rules.specs.Runs.{start_tags}
use Rattle.study.specs.declared.StudyResult.{StudyResult}

-- ---- the tags

-- "for 1, 2, 3 and 4 ways"
abbrev pub most_ways : ℕ
most_ways = 4

-- "through tags alone, empty at first": the records of 01's start, without cache and memory bytes. (The write policy decides nothing here:
-- no store is written.)
unfoldable pub empty_tags : ℕ → ℕ → Hierarchy
empty_tags sets ways =
    let f : Figures = geometry WriteBack sets ways in
    record { figures = f; size = 0; tags = start_tags f; cache = []; memory = [] }

-- "An absent line is fetched by the victim rule, and every item uses its line.": 01's use of a present line; 01's fill of an absent one,
-- which takes the victim's place and is used
unfoldable pub access_line : ℕ → Hierarchy → Hierarchy
access_line l b = cond (present b l) (use_line l b) (fill_line l b)

-- ---- the result

-- for each item whether it hits: its line is present before it
unfoldable pub hits_from : List ℕ → Hierarchy → List Bool
hits_from [] b = []
hits_from (l ∷ items) b = present b l ∷ hits_from items (access_line l b)

unfoldable pub hits : ℕ → ℕ → List ℕ → List Bool
hits sets ways items = hits_from items (empty_tags sets ways)

-- how many hit
unfoldable pub hit_count : ℕ → ℕ → List ℕ → ℕ
hit_count sets ways items = length (filter (λ h. h) (hits sets ways items))

-- "four hit counts": with 1, 2, 3 and 4 ways
unfoldable pub hit_counts : ℕ → List ℕ → List ℕ
hit_counts sets items = hit_count sets 1 items ∷ hit_count sets 2 items ∷ hit_count sets 3 items ∷ hit_count sets 4 items ∷ []

-- "per thousand"
abbrev pub per_thousand : ℕ
per_thousand = 1000

-- "rates per thousand, rounded half up; an empty list gives zeros": h hits of n items, 1000 h / n + 1/2 rounded down
unfoldable pub rate_of : ℕ → ℕ → ℕ
rate_of h n = cond (eqb n 0) 0 ((2 * (per_thousand * h) + n) / (2 * n))

-- "four rates": one for each count
abbrev pub rates_of : List ℕ → ℕ → List ℕ
rates_of hs n = rate_of (get_or hs 0 0) n ∷ rate_of (get_or hs 1 0) n ∷ rate_of (get_or hs 2 0) n ∷ rate_of (get_or hs 3 0) n ∷ []

-- ---- the figures

-- "The list has at most 65,536 items"
abbrev pub most_items : ℕ
most_items = 65536

-- "each below 4,096": the lines of the largest memory
abbrev pub line_limit : ℕ
line_limit = 4096

-- every item is such a line
unfoldable pub items_allowed : List ℕ → Bool
items_allowed items = every (λ l. ltb l line_limit) items

-- "The lent scratch has exactly 640 numbers of 32 bits"
abbrev pub scratch_size : ℕ
scratch_size = 640

-- what 22 does not refuse; size is the length of the scratch. "with one of 01's set counts"
unfoldable pub study_allowed : List ℕ → ℕ → ℕ → Bool
study_allowed items sets size =
    leb (length items) most_items && (items_allowed items && (sets_allowed sets && eqb size scratch_size))

-- ---- the answer, and the scratch

-- an accepted study
abbrev pub counted : ℕ → List ℕ → StudyResult
counted sets items =
    record { refusal = 0; hits = hit_counts sets items; rates = rates_of (hit_counts sets items) (length items) }

-- "22"; 01: a refusal "returns the number alone", so the counts and rates, which the struct has all the same, are zero
abbrev pub refused_study : StudyResult
refused_study = record { refusal = 22; hits = replicate most_ways 0; rates = replicate most_ways 0 }

-- the result. "empty at first whatever the scratch holds": of the scratch only its length, size, is looked at
unfoldable pub studied : List ℕ → ℕ → ℕ → StudyResult
studied items sets size = cond (study_allowed items sets size) (counted sets items) refused_study

-- the scratch "is zero afterwards"; refused: "all buffers unchanged"
unfoldable pub scratch_after : List ℕ → ℕ → List ℕ → List ℕ
scratch_after items sets scratch =
    cond (study_allowed items sets (length scratch)) (replicate (length scratch) 0) scratch

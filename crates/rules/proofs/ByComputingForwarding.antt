-- Examples of loads fed from held stores, computed. (Like ByComputing: an edited rule meets a false example here before it meets a proof.)
use mathlib.Core.Path.{◌≡◌, refl}
use mathlib.Core.Bool.{true, false}
use mathlib.Core.List.{[], ◌∷◌, map}
use Rattle.rules.specs.declared.WritePolicy.{WritePolicy}
use Rattle.rules.specs.declared.WritePolicy.TheVariants.{WriteBack, WriteThrough}
use Rattle.rules.specs.Calls.{commit, retry, refused, stored, value, waits, committed, kept, drained}
use Rattle.rules.specs.Runs.{answer, answers, after, next}
use Rattle.rules.specs.Dropped.{Dropped}
use Rattle.rules.specs.Examples.{stretch_of, whole}
use Rattle.rules.specs.States.{waiting_load, answered_load, forwarded_load}
use Rattle.rules.specs.ForwardingExamples.{held_by, four_stores, loads, listed_by, fed_around, zero_last, fed_or_half, half_waits, fed_inside, held_at_end, held_at_struck_end}
use Rattle.rules.specs.Computed.{computed}

-- ---- what is forwarded

pub load-answers :
    map (λ c. answer c four_stores) loads ≡ value 5 9 ∷ value 5 2057 ∷ value 5 117442569 ∷ value 5 0 ∷ value 5 6 ∷ waits 5 ∷ []
unfolding computed loads
load-answers = refl

pub loads-listed :
    listed_by four_stores loads
    ≡ forwarded_load 5 0 1
    ∷ forwarded_load 5 0 2
    ∷ answered_load 5 0 4
    ∷ answered_load 5 2 1
    ∷ forwarded_load 5 32 1
    ∷ waiting_load 5 32 2
    ∷ []
unfolding computed loads
loads-listed = refl

-- ---- what a commit uses

-- load 4 leaves, and the others move up with what they are; line 1 keeps its age
pub first-leaves :
    held_by (next (commit 4) fed_around)
    ≡ record { numbers = 5 ∷ 6 ∷ 7 ∷ 0 ∷ []; forwarded = false ∷ true ∷ false ∷ false ∷ []; ages = 1 ∷ 0 ∷ [] }
unfolding computed
first-leaves = refl

-- of all of them load 5 alone uses its line, and load 7 stays
pub all-leave :
    held_by (next (commit 7) fed_around)
    ≡ record { numbers = 7 ∷ 0 ∷ 0 ∷ 0 ∷ []; forwarded = false ∷ false ∷ false ∷ false ∷ []; ages = 0 ∷ 1 ∷ [] }
unfolding computed
all-leave = refl

-- fed, and its store drained since: the commit leaves the ages as the drains left them
pub fed-answers :
    answers (fed_or_half 1) (zero_last WriteBack) ≡ stored 1 ∷ stored 2 ∷ value 3 9 ∷ committed 2 ∷ drained 1 ∷ drained 2 ∷ committed 3 ∷ []
unfolding computed fed_or_half
fed-answers = refl

pub fed-ages :
    (p : WritePolicy)
    → held_by (after (fed_or_half 1) (zero_last p))
    ≡ record { numbers = 0 ∷ 0 ∷ 0 ∷ 0 ∷ []; forwarded = false ∷ false ∷ false ∷ false ∷ []; ages = 1 ∷ 0 ∷ [] }
unfolding computed fed_or_half
fed-ages WriteBack = refl
fed-ages WriteThrough = refl

-- half fed: line 0 is used
pub half-ages :
    held_by (after (fed_or_half 2) (zero_last WriteBack))
    ≡ record { numbers = 0 ∷ 0 ∷ 0 ∷ 0 ∷ []; forwarded = false ∷ false ∷ false ∷ false ∷ []; ages = 0 ∷ 1 ∷ [] }
unfolding computed fed_or_half
half-ages = refl

-- ---- an inquiry: the older store's byte and the line's, and not the younger store's

pub asked-answers : answer (retry 3) (half_waits 2) ≡ value 3 9
unfolding computed
asked-answers = refl

-- not committed: it is listed, not forwarded, and uses line 2 at its commit
pub asked-listed :
    held_by (next (retry 3) (half_waits 2))
    ≡ record { numbers = 3 ∷ 0 ∷ 0 ∷ 0 ∷ []; forwarded = false ∷ false ∷ false ∷ false ∷ []; ages = 1 ∷ 0 ∷ [] }
unfolding computed
asked-listed = refl

pub asked-uses :
    held_by (next (commit 3) (next (retry 3) (half_waits 2)))
    ≡ record { numbers = 0 ∷ 0 ∷ 0 ∷ 0 ∷ []; forwarded = false ∷ false ∷ false ∷ false ∷ []; ages = 0 ∷ 1 ∷ [] }
unfolding computed
asked-uses = refl

-- committed: it leaves, and uses line 2
pub committed-uses :
    held_by (next (retry 3) (half_waits 3))
    ≡ record { numbers = 0 ∷ 0 ∷ 0 ∷ 0 ∷ []; forwarded = false ∷ false ∷ false ∷ false ∷ []; ages = 0 ∷ 1 ∷ [] }
unfolding computed
committed-uses = refl

-- ---- a dropped stretch

pub fed-inside-dropped : Dropped 3 (stretch_of fed_inside) fed_inside.from
unfolding computed fed_inside
fed-inside-dropped = record {
  opens = refl;
  body = fed_inside.body;
  ends = refl;
  accepted = tt;
  above = (λ t e. t, (λ t e. t, (λ t e. t, (λ t e. t, (λ t e. t, (λ t e. t, tt))))));
  quiet = refl;
}

pub fed-inside-answers :
    answers (whole fed_inside) fed_inside.from
    ≡ value 3 9 ∷ stored 4 ∷ value 5 7 ∷ committed 2 ∷ refused 14 ∷ kept 2 ∷ value 3 9 ∷ value 4 0 ∷ []
unfolding computed fed_inside
fed-inside-answers = refl

pub fed-inside-end :
    held_at_end fed_inside ≡ record { numbers = 3 ∷ 4 ∷ 0 ∷ 0 ∷ []; forwarded = true ∷ false ∷ false ∷ false ∷ []; ages = 1 ∷ 0 ∷ [] }
unfolding computed fed_inside
fed-inside-end = refl

pub fed-inside-struck :
    held_at_struck_end fed_inside
    ≡ record { numbers = 3 ∷ 4 ∷ 0 ∷ 0 ∷ []; forwarded = true ∷ false ∷ false ∷ false ∷ []; ages = 1 ∷ 0 ∷ [] }
unfolding computed fed_inside
fed-inside-struck = refl

-- Examples of the tag lookup and of the two words of a load that waits, computed. (Like ByComputing: an edited rule meets a false example
-- here before it meets a proof.)
use mathlib.Core.Path.{◌≡◌, refl}
use mathlib.Core.List.{[], ◌∷◌}
use Rattle.rules.specs.declared.Request.TheVariants.{Free, Line}
use Rattle.rules.specs.declared.Lookup.TheVariants.{Hit, Pending, Miss}
use Rattle.rules.specs.declared.WritePolicy.{WritePolicy}
use Rattle.rules.specs.declared.WritePolicy.TheVariants.{WriteBack, WriteThrough}
use Rattle.rules.specs.Lines.{fill_line}
use Rattle.rules.specs.Calls.{refused, stored, value, waits, waits_requested, committed, kept, drained, requested, idled, filled, wait_answer}
use Rattle.rules.specs.Runs.{answers}
use Rattle.rules.specs.Dropped.{Dropped}
use Rattle.rules.specs.Examples.{fresh, beginning, stretch_of, whole, struck_answers}
use Rattle.rules.specs.States.{rich_tags, rich_cache, rich_stores, rich_loads, rich_checkpoints, clean_tags, clean_cache, rich_lines}
use Rattle.rules.specs.LookupExamples.{looked, said, rich, beside_line, for_store_two, beside_store, on_its_way, for_store, evicted_again, six_started, line_ends, requested_inside, requested_before}
use Rattle.rules.specs.Computed.{computed}

-- ---- the lookup

-- line 1 is in slot 2, which is way 0 of its set; lines 3 and 5 are of its set, line 6 of the set of line 4, which is requested
pub rich-looked :
    looked (Line 4) rich_lines (0 ∷ 1 ∷ 2 ∷ 3 ∷ 4 ∷ 5 ∷ 6 ∷ [])
    ≡ Hit 0 ∷ Hit 0 ∷ Hit 1 ∷ Miss ∷ Pending ∷ Miss ∷ Miss ∷ []
unfolding computed rich_tags
rich-looked = refl

pub free-looked : looked Free rich_lines (2 ∷ 4 ∷ []) ≡ Hit 1 ∷ Miss ∷ []
unfolding computed rich_tags
free-looked = refl

-- line 3 comes to slot 3, way 1 of its set; then line 5 evicts line 1
pub filled-looked : looked (Line 4) (fill_line 3 rich_lines) (1 ∷ 3 ∷ 4 ∷ []) ≡ Hit 0 ∷ Hit 1 ∷ Pending ∷ []
unfolding computed rich_tags rich_cache
filled-looked = refl

pub evicted-looked : looked (Line 4) (fill_line 5 (fill_line 3 rich_lines)) (1 ∷ 3 ∷ 5 ∷ []) ≡ Miss ∷ Hit 1 ∷ Hit 0 ∷ []
unfolding computed rich_tags rich_cache
evicted-looked = refl

-- present comes first, whatever the register names; an invalid record names no line; a line of the requested line's set is not requested
pub first-looked : looked (Line 2) rich_lines (2 ∷ []) ≡ Hit 1 ∷ []
unfolding computed rich_tags
first-looked = refl

pub fresh-looked : looked (Line 0) (fresh 2 2 96).hierarchy (0 ∷ 2 ∷ []) ≡ Pending ∷ Miss ∷ []
unfolding computed
fresh-looked = refl

pub fresh-missed : looked Free (fresh 2 2 96).hierarchy (0 ∷ []) ≡ Miss ∷ []
unfolding computed
fresh-missed = refl

-- the word for each answer of the lookup
pub word-of-each : (wait_answer 7 (Hit 0) ≡ waits 7) × (wait_answer 7 Pending ≡ waits_requested 7) × (wait_answer 7 Miss ≡ waits 7)
word-of-each = (refl, refl, refl)

-- ---- single calls

pub beside-line :
    said rich beside_line
    ≡ waits_requested 8
    ∷ waits_requested 8
    ∷ waits 8
    ∷ waits 8
    ∷ waits 8
    ∷ value 8 77
    ∷ value 8 33
    ∷ waits_requested 3
    ∷ waits 7
    ∷ []
unfolding computed beside_line rich_tags rich_cache rich_stores rich_loads rich_checkpoints
beside-line = refl

pub beside-store : said for_store_two beside_store ≡ waits_requested 8 ∷ value 8 77 ∷ waits 8 ∷ waits 3 ∷ []
unfolding computed beside_store rich_tags rich_stores rich_loads clean_tags clean_cache
beside-store = refl

-- ---- runs

pub on-its-way-answers :
    (p : WritePolicy)
    → answers (on_its_way p).calls (beginning (on_its_way p))
    ≡ waits 1
    ∷ committed 1
    ∷ waits 1
    ∷ requested 0
    ∷ waits_requested 1
    ∷ waits_requested 2
    ∷ waits 3
    ∷ waits_requested 2
    ∷ filled 0
    ∷ value 1 1
    ∷ value 2 1541
    ∷ waits 3
    ∷ []
unfolding computed on_its_way
on-its-way-answers WriteBack = refl
on-its-way-answers WriteThrough = refl

pub for-store-back :
    answers (for_store WriteBack).calls (beginning (for_store WriteBack))
    ≡ stored 1
    ∷ committed 1
    ∷ requested 0
    ∷ value 2 7
    ∷ waits_requested 3
    ∷ waits_requested 4
    ∷ waits 5
    ∷ filled 0
    ∷ value 3 1543
    ∷ value 4 1
    ∷ waits 5
    ∷ drained 1
    ∷ []
unfolding computed for_store
for-store-back = refl

pub for-store-through :
    answers (for_store WriteThrough).calls (beginning (for_store WriteThrough))
    ≡ stored 1
    ∷ committed 1
    ∷ drained 1
    ∷ waits 2
    ∷ waits 3
    ∷ waits 4
    ∷ waits 5
    ∷ refused 17
    ∷ waits 3
    ∷ waits 4
    ∷ waits 5
    ∷ idled
    ∷ []
unfolding computed for_store
for-store-through = refl

pub evicted-again-answers :
    answers evicted_again.calls (beginning evicted_again)
    ≡ waits 1
    ∷ committed 1
    ∷ requested 0
    ∷ waits_requested 1
    ∷ filled 0
    ∷ waits 2
    ∷ committed 2
    ∷ requested 16
    ∷ waits_requested 2
    ∷ filled 16
    ∷ waits 1
    ∷ requested 0
    ∷ waits_requested 1
    ∷ value 2 17
    ∷ []
unfolding computed evicted_again
evicted-again-answers = refl

pub line-ends-answers :
    answers line_ends six_started
    ≡ waits 1
    ∷ committed 1
    ∷ requested 80
    ∷ waits_requested 2
    ∷ waits 3
    ∷ waits 4
    ∷ waits 5
    ∷ waits_requested 1
    ∷ waits 3
    ∷ filled 80
    ∷ value 6 81
    ∷ value 1 1616862813
    ∷ []
unfolding computed line_ends
line-ends-answers = refl

-- ---- dropped stretches: a remaining inquiry says the same word in both runs

pub requested-inside-dropped : Dropped 4 (stretch_of requested_inside) requested_inside.from
unfolding computed requested_inside
requested-inside-dropped = record {
  opens = refl;
  body = requested_inside.body;
  ends = refl;
  accepted = tt;
  above = (λ t e. t, (λ t e. t, (λ t e. t, (λ t e. t, (λ t e. t, (λ t e. t, (λ t e. t, (λ t e. t, (λ t e. t, tt)))))))));
  quiet = refl;
}

pub requested-inside-answers :
    answers (whole requested_inside) requested_inside.from
    ≡ waits 4
    ∷ waits 3
    ∷ committed 3
    ∷ waits 3
    ∷ requested 32
    ∷ waits_requested 5
    ∷ waits_requested 3
    ∷ waits_requested 4
    ∷ kept 3
    ∷ waits_requested 4
    ∷ filled 32
    ∷ value 3 0
    ∷ value 4 0
    ∷ []
unfolding computed requested_inside
requested-inside-answers = refl

pub requested-inside-struck :
    struck_answers requested_inside
    ≡ waits 3
    ∷ committed 3
    ∷ waits 3
    ∷ requested 32
    ∷ waits_requested 3
    ∷ waits_requested 4
    ∷ filled 32
    ∷ value 3 0
    ∷ value 4 0
    ∷ []
unfolding computed requested_inside
requested-inside-struck = refl

pub requested-before-answers :
    answers (whole requested_before) requested_before.from
    ≡ waits_requested 3
    ∷ stored 4
    ∷ value 5 5
    ∷ waits 6
    ∷ waits_requested 2
    ∷ kept 2
    ∷ waits_requested 2
    ∷ filled 16
    ∷ value 2 0
    ∷ []
unfolding computed requested_before
requested-before-answers = refl

pub requested-before-struck :
    struck_answers requested_before ≡ waits_requested 2 ∷ waits_requested 2 ∷ filled 16 ∷ value 2 0 ∷ []
unfolding computed requested_before
requested-before-struck = refl

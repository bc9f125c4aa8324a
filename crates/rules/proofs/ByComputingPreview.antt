-- Examples of previews, computed. (Like ByComputing: an edited rule meets a false example here before it meets a proof.)
use mathlib.Core.Path.{◌≡◌, refl}
use mathlib.Core.List.{[], ◌∷◌}
use mathlib.Core.Option.{some, none}
use Rattle.rules.specs.declared.WritePolicy.{WritePolicy}
use Rattle.rules.specs.declared.WritePolicy.TheVariants.{WriteBack, WriteThrough}
use Rattle.rules.specs.Calls.{preview, refused, stored, waits, waits_requested, committed, kept, drained, requested, filled, flushed, checkpointed}
use Rattle.rules.specs.Runs.{answer, answers}
use Rattle.rules.specs.Dropped.{Dropped, Restored}
use Rattle.rules.specs.Examples.{fresh, stretch_of, whole, struck_answers}
use Rattle.rules.specs.States.{rich_tags, rich_cache, rich_stores, rich_loads, rich_checkpoints, clean_tags, clean_cache}
use Rattle.rules.specs.LookupExamples.{rich, for_store_two}
use Rattle.rules.specs.PreviewExamples.{gives, two_invalid, two_dirty, dirty_zeros, clean, store_held, after_reply, from_start, drained_between, preview_inside, preview_in_mark}
use Rattle.rules.specs.Computed.{computed}

-- ---- single previews, beside the reply

-- the lowest invalid way is taken: nothing is evicted
pub invalid-first : answer preview two_invalid ≡ gives 1 none 0 (3 ∷ 0 ∷ 1 ∷ 2 ∷ [])
unfolding computed
invalid-first = refl

pub invalid-replied : after_reply two_invalid ≡ record { lines = 1 ∷ 11 ∷ 3 ∷ 0 ∷ []; ages = 3 ∷ 0 ∷ 1 ∷ 2 ∷ []; written = [] }
unfolding computed
invalid-replied = refl

-- words 0 and 2 of line 3 are written back, from addresses 48 and 56 on
pub two-words : answer preview two_dirty ≡ gives 1 (some 3) 5 (1 ∷ 0 ∷ 2 ∷ 3 ∷ [])
unfolding computed
two-words = refl

pub two-replied :
    after_reply two_dirty
    ≡ record {
      lines = 1 ∷ 11 ∷ 5 ∷ 7 ∷ [];
      ages = 1 ∷ 0 ∷ 2 ∷ 3 ∷ [];
      written = 48 ∷ 49 ∷ 50 ∷ 51 ∷ 56 ∷ 57 ∷ 58 ∷ 59 ∷ [];
    }
unfolding computed
two-replied = refl

-- three words of line 7 are, though memory does not show it
pub three-words : answer preview dirty_zeros ≡ gives 3 (some 7) 14 (1 ∷ 3 ∷ 2 ∷ 0 ∷ [])
unfolding computed
three-words = refl

pub three-replied : after_reply dirty_zeros ≡ record { lines = 1 ∷ 3 ∷ 5 ∷ 11 ∷ []; ages = 1 ∷ 3 ∷ 2 ∷ 0 ∷ []; written = [] }
unfolding computed
three-replied = refl

-- a clean line is evicted, and no word written
pub no_words : (p : WritePolicy) → answer preview (clean p) ≡ gives 1 (some 1) 0 (1 ∷ 0 ∷ 2 ∷ 0 ∷ [])
unfolding computed
no_words WriteBack = refl
no_words WriteThrough = refl

pub no-replied : (p : WritePolicy) → after_reply (clean p) ≡ record { lines = 9 ∷ 11 ∷ 3 ∷ []; ages = 1 ∷ 0 ∷ 2 ∷ []; written = [] }
unfolding computed
no-replied WriteBack = refl
no-replied WriteThrough = refl

-- line 0 is evicted; and a line that is requested for a store finds an invalid way
pub zero-evicted : answer preview rich ≡ gives 0 (some 0) 0 (0 ∷ 1 ∷ 0 ∷ 0 ∷ [])
unfolding computed rich_tags rich_cache rich_stores rich_loads rich_checkpoints
zero-evicted = refl

pub for-store : answer preview for_store_two ≡ gives 1 none 0 (1 ∷ 0 ∷ 0 ∷ 0 ∷ [])
unfolding computed rich_tags rich_stores rich_loads clean_tags clean_cache
for-store = refl

-- ---- runs

pub from_start_lem :
    answers from_start (fresh 1 1 32)
    ≡ waits 1
    ∷ committed 1
    ∷ refused 17
    ∷ requested 0
    ∷ gives 0 none 0 (0 ∷ 0 ∷ 0 ∷ 0 ∷ [])
    ∷ gives 0 none 0 (0 ∷ 0 ∷ 0 ∷ 0 ∷ [])
    ∷ filled 0
    ∷ refused 17
    ∷ []
unfolding computed from_start
from_start_lem = refl

-- with write-back word 2 is to be written back as soon as the store is drained, and no more once it is flushed
pub drained-back :
    answers drained_between (store_held WriteBack)
    ≡ gives 0 (some 5) 0 (0 ∷ 0 ∷ 0 ∷ 0 ∷ []) ∷ drained 1 ∷ gives 0 (some 5) 4 (0 ∷ 0 ∷ 0 ∷ 0 ∷ []) ∷ flushed 1 ∷ gives 0 (some 5) 0 (0 ∷ 0 ∷ 0 ∷ 0 ∷ []) ∷ []
unfolding computed drained_between
drained-back = refl

pub drained-through :
    answers drained_between (store_held WriteThrough)
    ≡ gives 0 (some 5) 0 (0 ∷ 0 ∷ 0 ∷ 0 ∷ []) ∷ drained 1 ∷ gives 0 (some 5) 0 (0 ∷ 0 ∷ 0 ∷ 0 ∷ []) ∷ flushed 0 ∷ gives 0 (some 5) 0 (0 ∷ 0 ∷ 0 ∷ 0 ∷ []) ∷ []
unfolding computed drained_between
drained-through = refl

-- ---- dropped stretches: the previews remain, and tell the same in both runs

pub inside-dropped : Dropped 3 (stretch_of preview_inside) preview_inside.from
unfolding computed preview_inside
inside-dropped = record {
  opens = refl;
  body = preview_inside.body;
  ends = refl;
  accepted = tt;
  above = (λ t e. t, (λ t e. t, (λ t e. t, (λ t e. t, (λ t e. t, (λ t e. t, tt))))));
  quiet = refl;
}

pub inside-answers :
    answers (whole preview_inside) preview_inside.from
    ≡ waits_requested 3
    ∷ gives 0 (some 5) 0 (0 ∷ 0 ∷ 0 ∷ 0 ∷ [])
    ∷ stored 4
    ∷ drained 1
    ∷ gives 0 (some 5) 4 (0 ∷ 0 ∷ 0 ∷ 0 ∷ [])
    ∷ kept 2
    ∷ gives 0 (some 5) 4 (0 ∷ 0 ∷ 0 ∷ 0 ∷ [])
    ∷ filled 176
    ∷ []
unfolding computed preview_inside
inside-answers = refl

pub inside-struck :
    struck_answers preview_inside
    ≡ gives 0 (some 5) 0 (0 ∷ 0 ∷ 0 ∷ 0 ∷ []) ∷ drained 1 ∷ gives 0 (some 5) 4 (0 ∷ 0 ∷ 0 ∷ 0 ∷ []) ∷ gives 0 (some 5) 4 (0 ∷ 0 ∷ 0 ∷ 0 ∷ []) ∷ filled 176 ∷ []
unfolding computed preview_inside
inside-struck = refl

pub mark-restored : Restored 1 3 (stretch_of preview_in_mark) preview_in_mark.from
unfolding computed preview_in_mark
mark-restored = record {
  body = preview_in_mark.body;
  shape = refl;
  sets = refl;
  returns = tt;
  set-once = (λ t e. t, (λ t e. t, (λ t e. t, (λ t e. t, (λ t e. t, tt)))));
}

pub mark-answers :
    answers (whole preview_in_mark) preview_in_mark.from
    ≡ checkpointed 3 ∷ stored 3 ∷ drained 1 ∷ gives 0 (some 5) 4 (0 ∷ 0 ∷ 0 ∷ 0 ∷ []) ∷ filled 176 ∷ refused 17 ∷ kept 2 ∷ []
unfolding computed preview_in_mark
mark-answers = refl

pub mark-struck : struck_answers preview_in_mark ≡ drained 1 ∷ gives 0 (some 5) 4 (0 ∷ 0 ∷ 0 ∷ 0 ∷ []) ∷ filled 176 ∷ refused 17 ∷ []
unfolding computed preview_in_mark
mark-struck = refl

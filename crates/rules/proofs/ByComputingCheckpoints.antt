-- Examples of checkpoints, computed. (Like ByComputing: an edited rule meets a false example here before it meets a proof.)
use mathlib.Core.Path.{◌≡◌, refl}
use mathlib.Core.List.{[], ◌∷◌}
use lib.ListN.{replicate}
use Rattle.rules.specs.Shape.{no_checkpoint}
use Rattle.rules.specs.Calls.{commit, abort, restore, refused, stored, value, waits, committed, kept, filled, shown, checkpointed}
use Rattle.rules.specs.Runs.{answers, after, next}
use Rattle.rules.specs.Dropped.{Dropped, Restored}
use Rattle.rules.specs.Examples.{fresh, stretch_of, whole, seen_answers, struck_answers, seen_end, struck_end}
use Rattle.rules.specs.States.{checkpoint_of}
use Rattle.rules.specs.CheckpointExamples.{same_number, later_one, aborted_at, aborted_below, ranked_two, left_by, seen_checkpoints, struck_checkpoints, mark_before, evicting_mark, second_mark, committing_mark}
use Rattle.rules.specs.Computed.{computed}

-- ---- what is forgotten, and ranks

pub same-number-answers : answers same_number (fresh 1 1 32) ≡ checkpointed 1 ∷ checkpointed 1 ∷ kept 0 ∷ refused 21 ∷ []
unfolding computed same_number
same-number-answers = refl

pub later-one-answers : answers later_one (fresh 1 1 32) ≡ checkpointed 1 ∷ checkpointed 1 ∷ kept 0 ∷ kept 0 ∷ []
unfolding computed later_one
later-one-answers = refl

pub aborted-at-answers : answers aborted_at (fresh 1 1 32) ≡ stored 1 ∷ checkpointed 2 ∷ waits 2 ∷ kept 1 ∷ kept 1 ∷ []
unfolding computed aborted_at
aborted-at-answers = refl

pub aborted-below-answers : answers aborted_below (fresh 1 1 32) ≡ stored 1 ∷ checkpointed 2 ∷ kept 0 ∷ refused 21 ∷ []
unfolding computed aborted_below
aborted-below-answers = refl

pub ranked-two : (after ranked_two (fresh 1 1 32)).queues.checkpoints ≡ checkpoint_of 5 1 1 ∷ checkpoint_of 3 2 2 ∷ replicate 6 no_checkpoint
unfolding computed ranked_two
ranked-two = refl

pub ranked-one : (next (commit 1) (after ranked_two (fresh 1 1 32))).queues.checkpoints ≡ checkpoint_of 3 2 1 ∷ replicate 7 no_checkpoint
unfolding computed ranked_two
ranked-one = refl

-- an abort forgets some and keeps others; a commit forgets two, and the others have ranks 1 and 2; a return to rank 3 leaves ranks 1 and 2,
-- one to rank 4 also the earlier mark of the same number
pub left-by-abort : left_by (abort 4) ≡ checkpoint_of 2 3 1 ∷ checkpoint_of 4 4 2 ∷ replicate 6 no_checkpoint
unfolding computed
left-by-abort = refl

pub left-by-commit : left_by (commit 4) ≡ checkpoint_of 7 5 1 ∷ checkpoint_of 1 5 2 ∷ replicate 6 no_checkpoint
unfolding computed
left-by-commit = refl

pub left-by-return : left_by (restore 7) ≡ checkpoint_of 2 3 1 ∷ checkpoint_of 4 4 2 ∷ replicate 6 no_checkpoint
unfolding computed
left-by-return = refl

pub left-by-last-return : left_by (restore 1) ≡ checkpoint_of 2 3 1 ∷ checkpoint_of 4 4 2 ∷ checkpoint_of 7 5 3 ∷ replicate 5 no_checkpoint
unfolding computed
left-by-last-return = refl

-- ---- each stretch meets the hypotheses of its theorem

pub mark-before-dropped : Dropped 5 (stretch_of mark_before) mark_before.from
unfolding computed mark_before
mark-before-dropped = record {
  opens = refl;
  body = mark_before.body;
  ends = refl;
  accepted = tt;
  above = (λ t e. t, (λ t e. t, (λ t e. t, tt)));
  quiet = refl;
}

pub evicting-restored : Restored 1 3 (stretch_of evicting_mark) evicting_mark.from
unfolding computed evicting_mark
evicting-restored = record {
  body = evicting_mark.body;
  shape = refl;
  sets = refl;
  returns = tt;
  set-once = (λ t e. t, (λ t e. t, (λ t e. t, (λ t e. e, (λ t e. t, tt)))));
}

pub second-restored : Restored 3 5 (stretch_of second_mark) second_mark.from
unfolding computed second_mark
second-restored = record {
  body = second_mark.body;
  shape = refl;
  sets = refl;
  returns = tt;
  set-once = (λ t e. t, (λ t e. e, (λ t e. t, (λ t e. t, tt))));
}

pub committing-restored : Restored 3 5 (stretch_of committing_mark) committing_mark.from
unfolding computed committing_mark
committing-restored = record {
  body = committing_mark.body;
  shape = refl;
  sets = refl;
  returns = tt;
  set-once = (λ t e. t, (λ t e. t, (λ t e. t, (λ t e. t, tt))));
}

-- ---- what their calls answer

pub mark-before-answers : answers (whole mark_before) mark_before.from ≡ value 5 4 ∷ stored 6 ∷ kept 4 ∷ kept 4 ∷ []
unfolding computed mark_before
mark-before-answers = refl

pub evicting-mark-answers :
    answers (whole evicting_mark) evicting_mark.from
    ≡ checkpointed 3 ∷ waits 3 ∷ checkpointed 4 ∷ stored 4 ∷ refused 20 ∷ filled 16 ∷ kept 2 ∷ shown 0 (replicate 16 0) ∷ []
unfolding computed evicting_mark
evicting-mark-answers = refl

pub second-mark-answers :
    answers (whole second_mark) second_mark.from
    ≡ checkpointed 5 ∷ checkpointed 5 ∷ refused 20 ∷ refused 21 ∷ value 5 4 ∷ kept 4 ∷ kept 4 ∷ []
unfolding computed second_mark
second-mark-answers = refl

pub committing-mark-answers :
    answers (whole committing_mark) committing_mark.from
    ≡ checkpointed 5 ∷ value 5 4 ∷ committed 3 ∷ checkpointed 6 ∷ kept 5 ∷ kept 4 ∷ committed 4 ∷ []
unfolding computed committing_mark
committing-mark-answers = refl

-- ---- none leaves a trace: the remaining answers, the numbers and the marks at the end

pub mark-before-seen : seen_answers mark_before ≡ kept 4 ∷ []
unfolding computed mark_before
mark-before-seen = refl

pub mark-before-struck : struck_answers mark_before ≡ kept 4 ∷ []
unfolding computed mark_before
mark-before-struck = refl

pub mark-before-ends : seen_end mark_before ≡ 4 ∷ 2 ∷ 1 ∷ 0 ∷ 0 ∷ 0 ∷ 0 ∷ 0 ∷ 0 ∷ []
unfolding computed mark_before
mark-before-ends = refl

pub mark-before-struck-ends : struck_end mark_before ≡ 4 ∷ 2 ∷ 1 ∷ 0 ∷ 0 ∷ 0 ∷ 0 ∷ 0 ∷ 0 ∷ []
unfolding computed mark_before
mark-before-struck-ends = refl

pub mark-before-marks : seen_checkpoints mark_before ≡ checkpoint_of 2 3 1 ∷ replicate 7 no_checkpoint
unfolding computed mark_before
mark-before-marks = refl

pub mark-before-struck-marks : struck_checkpoints mark_before ≡ checkpoint_of 2 3 1 ∷ replicate 7 no_checkpoint
unfolding computed mark_before
mark-before-struck-marks = refl

pub evicting-mark-seen : seen_answers evicting_mark ≡ filled 16 ∷ shown 0 (replicate 16 0) ∷ []
unfolding computed evicting_mark
evicting-mark-seen = refl

pub evicting-mark-struck : struck_answers evicting_mark ≡ filled 16 ∷ shown 0 (replicate 16 0) ∷ []
unfolding computed evicting_mark
evicting-mark-struck = refl

pub evicting-mark-ends : seen_end evicting_mark ≡ 2 ∷ 2 ∷ 0 ∷ 0 ∷ 2 ∷ 0 ∷ 0 ∷ 0 ∷ 7 ∷ []
unfolding computed evicting_mark
evicting-mark-ends = refl

pub evicting-mark-struck-ends : struck_end evicting_mark ≡ 2 ∷ 2 ∷ 0 ∷ 0 ∷ 2 ∷ 0 ∷ 0 ∷ 0 ∷ 7 ∷ []
unfolding computed evicting_mark
evicting-mark-struck-ends = refl

pub evicting-mark-marks : seen_checkpoints evicting_mark ≡ replicate 8 no_checkpoint
unfolding computed evicting_mark
evicting-mark-marks = refl

pub evicting-mark-struck-marks : struck_checkpoints evicting_mark ≡ replicate 8 no_checkpoint
unfolding computed evicting_mark
evicting-mark-struck-marks = refl

pub second-mark-seen : seen_answers second_mark ≡ kept 4 ∷ []
unfolding computed second_mark
second-mark-seen = refl

pub second-mark-struck : struck_answers second_mark ≡ kept 4 ∷ []
unfolding computed second_mark
second-mark-struck = refl

pub second-mark-ends : seen_end second_mark ≡ 4 ∷ 2 ∷ 1 ∷ 0 ∷ 0 ∷ 0 ∷ 0 ∷ 0 ∷ 0 ∷ []
unfolding computed second_mark
second-mark-ends = refl

pub second-mark-struck-ends : struck_end second_mark ≡ 4 ∷ 2 ∷ 1 ∷ 0 ∷ 0 ∷ 0 ∷ 0 ∷ 0 ∷ 0 ∷ []
unfolding computed second_mark
second-mark-struck-ends = refl

pub second-mark-marks : seen_checkpoints second_mark ≡ checkpoint_of 2 3 1 ∷ replicate 7 no_checkpoint
unfolding computed second_mark
second-mark-marks = refl

pub second-mark-struck-marks : struck_checkpoints second_mark ≡ checkpoint_of 2 3 1 ∷ replicate 7 no_checkpoint
unfolding computed second_mark
second-mark-struck-marks = refl

pub committing-mark-seen : seen_answers committing_mark ≡ committed 3 ∷ committed 4 ∷ []
unfolding computed committing_mark
committing-mark-seen = refl

pub committing-mark-struck : struck_answers committing_mark ≡ committed 3 ∷ committed 4 ∷ []
unfolding computed committing_mark
committing-mark-struck = refl

pub committing-mark-ends : seen_end committing_mark ≡ 4 ∷ 4 ∷ 1 ∷ 0 ∷ 0 ∷ 0 ∷ 0 ∷ 0 ∷ 0 ∷ []
unfolding computed committing_mark
committing-mark-ends = refl

pub committing-mark-struck-ends : struck_end committing_mark ≡ 4 ∷ 4 ∷ 1 ∷ 0 ∷ 0 ∷ 0 ∷ 0 ∷ 0 ∷ 0 ∷ []
unfolding computed committing_mark
committing-mark-struck-ends = refl

pub committing-mark-marks : seen_checkpoints committing_mark ≡ checkpoint_of 7 5 1 ∷ replicate 7 no_checkpoint
unfolding computed committing_mark
committing-mark-marks = refl

pub committing-mark-struck-marks : struck_checkpoints committing_mark ≡ checkpoint_of 7 5 1 ∷ replicate 7 no_checkpoint
unfolding computed committing_mark
committing-mark-struck-marks = refl

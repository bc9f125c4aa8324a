-- `marks_good` meets its contract: `all` over the four words is the test of each.
use Rattle.std.proofs.Common.{rules, tests, refl, ℕ, Bool, ◌&&◌, ◌||◌, ltb}
use Rattle.std.proofs.lemmas.Iterator.{YieldsList-from_range}
use Rattle.std.proofs.lemmas.Iterator.Search.{all_from_yields_List}
use borrow.Author.Tests.{le-leb, lt-leb}
use Rattle.lists.specs.Counted.{all_from}
use Rattle.rules.specs.Lines.{is_dirty_word}
use Rattle.line_checks.specs.SlotTests.{same_bytes, word_at, word_good, marks_good}
use Rattle.line_checks.proofs.marks_good.Goals as goal

pub returns-then-marks-le-ALL_MARKS : goal.returns-then-marks-le-ALL_MARKS
unfolding marks_good word_good all_from
returns-then-marks-le-ALL_MARKS c =
    let good : ℕ → Bool = λ n. (ltb n 4 && is_dirty_word c.args.marks n) || same_bytes (word_at c.args.line.now n) (word_at c.args.home.now n) in
    rw (le-leb c.args.marks 15 c.if-marks-le-ALL_MARKS.true)
    (all_from_yields_List good _ _ _ c.all.ensures.ran (YieldsList-from_range 0 4 4 refl refl) (λ x b q k. search (rules, tests)))

pub returns-else-marks-le-ALL_MARKS : goal.returns-else-marks-le-ALL_MARKS
unfolding marks_good
returns-else-marks-le-ALL_MARKS c = rw (lt-leb c.args.marks 15 c.if-marks-le-ALL_MARKS.false)

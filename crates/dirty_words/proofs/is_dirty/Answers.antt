-- `is_dirty` meets its contract: a shift by n bits divides by 2 to the power n.
use Rattle.std.proofs.Common.{rules}
use Rattle.std.proofs.lemmas.Nat.Bits.{shr_and_one}
use Rattle.lists.proofs.Loops.{tests}
use Rattle.rules.specs.Lines.{is_dirty_word}
use Rattle.dirty_words.proofs.is_dirty.Goals as goal

pub returns-then-n-lt-LINE_WORDS : goal.returns-then-n-lt-LINE_WORDS
unfolding is_dirty_word
returns-then-n-lt-LINE_WORDS c = search (rules, tests, shr_and_one)

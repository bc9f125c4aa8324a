-- `count` meets its contract: the ones among the four lowest bits.
use Rattle.dirty_words.proofs.Marks.{four-ones}
use Rattle.dirty_words.proofs.count.Goals as goal

pub returns : goal.returns
returns c = search four-ones

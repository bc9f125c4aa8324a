-- `write_back` meets its contract: dirty words are written to their line of memory; where there is none, or no place, memory is as it was.
use Rattle.std.proofs.Common.{◌∙◌, not, ap, arith}
use borrow.Author.Tests.{eq-eqb}
use Rattle.line_bytes.proofs.Writing.{written-words, written-clean, written-outside, written-nowhere}
use Rattle.line_bytes.proofs.write_back.Goals as goal
use Rattle.line_bytes.proofs.write_back.Goals.{else-t-ne0-via-then-t-ne0+then-v-cache+else-line-memory, else-t-ne0-via-then-t-ne0+else-v-cache, else-t-ne0-via-else-t-ne0}

pub returns-then-line-memory : goal.returns-then-line-memory
returns-then-line-memory c =
    let slot = c.if-v-cache.true in
    let line = c.if-line-memory.true in
    c.write_words.ensures ∙ rw c.from-line.ensures (written-words c.args.t c.args.v _ _ (omega arith) (omega arith))

pub returns-else-t-ne0 : goal.returns-else-t-ne0
returns-else-t-ne0 c =
    elim c.else-t-ne0.branch [
      | else-t-ne0-via-then-t-ne0+then-v-cache+else-line-memory w ↦ let h = w.if-line-memory.false in written-nowhere _ _ _ _ (omega arith)
      | else-t-ne0-via-then-t-ne0+else-v-cache w ↦ let h = w.if-v-cache.false in written-outside _ _ _ _ (omega arith)
      | else-t-ne0-via-else-t-ne0 w ↦ written-clean _ _ _ _ (ap not (eq-eqb _ _ w.if-t-ne0.false))
    ]

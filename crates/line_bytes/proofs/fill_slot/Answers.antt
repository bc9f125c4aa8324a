-- `fill_slot` meets its contract: the line is copied to its slot, or nothing changes.
use Rattle.std.proofs.Common.{◌*◌, ◌+◌, ◌-◌, ◌∙◌, ap, arith}
use borrow.Rule.Slice.PartMut.{put_mid}
use Rattle.line_bytes.proofs.Writing.{filled-part, filled-outside, filled-short}
use Rattle.line_bytes.proofs.fill_slot.Goals as goal
use Rattle.line_bytes.proofs.fill_slot.Goals.{else-src-eq-LINE_LENGTH-via-then-src-eq-LINE_LENGTH+else-v-cache, else-src-eq-LINE_LENGTH-via-else-src-eq-LINE_LENGTH}

pub returns-then-v-cache : goal.returns-then-v-cache
returns-then-v-cache c =
    let h = c.if-v-cache.true in
    ap (put_mid (16 * c.args.v) (16 * c.args.v + 16 - 16 * c.args.v) c.args.cache.now) c.copy_from_slice.ensures.after
    ∙ filled-part c.args.v c.args.src.now c.args.cache.now c.if-src-eq-LINE_LENGTH.true (omega arith)

pub returns-else-src-eq-LINE_LENGTH : goal.returns-else-src-eq-LINE_LENGTH
returns-else-src-eq-LINE_LENGTH c =
    elim c.else-src-eq-LINE_LENGTH.branch [
      | else-src-eq-LINE_LENGTH-via-then-src-eq-LINE_LENGTH+else-v-cache w ↦ let h = w.if-v-cache.false in filled-outside _ _ _ (omega arith)
      | else-src-eq-LINE_LENGTH-via-else-src-eq-LINE_LENGTH w ↦ filled-short _ _ _ w.if-src-eq-LINE_LENGTH.false
    ]

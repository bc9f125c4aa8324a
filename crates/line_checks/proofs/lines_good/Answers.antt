-- `lines_good` meets its contract: the unused records are zero, and those in use pass.
use Rattle.std.proofs.Common.{sym, ◌≡◌, ◌∙◌, true}
use native.Mathlib.Omega.{arith}
use lib.ListN.{length, drop}
use Prim.Native.Nat.{◌*◌}
use Rattle.lists.specs.Padded.{every}
use Rattle.rules.specs.WellFormed.{zero_tag}
use Rattle.rules.proofs.LineFacts.{fits-tells}
use Rattle.line_checks.proofs.SlotTests.{lines-are, unused-failed}
use Rattle.line_checks.proofs.lines_good.Goals as goal

pub overflow_mul-count : goal.overflow_mul-count
overflow_mul-count c = let fit = fits-tells _ c.requires in omega arith

pub split_at-requires : goal.split_at-requires
split_at-requires c = let fit = fits-tells _ c.requires in omega arith

pub sets_good-requires : goal.sets_good-requires
sets_good-requires c =
    let fit = fits-tells _ c.requires in
    (fit.some-set, omega (arith, c.split_at.ensures.front_len), omega (arith, fit.cache-long, c.as_chunks.ensures.front_len))

pub returns-then-unused_zero : goal.returns-then-unused_zero
returns-then-unused_zero c =
    let long : length c.args.tags ≡ 256 = omega arith in
    let unused : every zero_tag (drop (c.args.figures.sets * c.args.figures.ways) c.args.tags) ≡ true =
    rw c.split_at.ensures.back at (sym c.unused_zero.ensures ∙ c.if-unused_zero.true) in
    c.sets_good.ensures ∙ rw (c.as_chunks-2.ensures.front, c.split_at.ensures.front, c.as_chunks.ensures.front) (lines-are _ (fits-tells _ c.requires) long unused)

pub returns-else-unused_zero : goal.returns-else-unused_zero
returns-else-unused_zero c =
    c.if-unused_zero.false ∙ sym (unused-failed _ (rw c.split_at.ensures.back at (sym c.unused_zero.ensures ∙ c.if-unused_zero.false)))

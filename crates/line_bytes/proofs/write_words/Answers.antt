-- `write_words` meets its contract. The bytes that are left to write give the whole line.
use mathlib.Core.Path.{◌≡◌, refl, sym, ap, ◌∙◌}
use Prim.Native.Nat.{◌+◌, ◌*◌}
use native.Mathlib.Omega.{arith}
use lib.ListN.{length, length-set}
use borrow.Author.Rules.{rules}
use Rattle.lists.proofs.CountedLoops.{steps-off}
use Rattle.line_bytes.specs.Writes.{marked_line}
use Rattle.line_bytes.proofs.Writing.{words-each, turn-dirty, turn-clean}
use Rattle.line_bytes.proofs.write_words.Goals as goal
use Rattle.line_bytes.proofs.write_words.Goals.{then-is_dirty, else-is_dirty}

pub loop-i-init : goal.loop-i-init
loop-i-init c =
    let e : 16 * c.args.line + 0 ≡ 16 * c.args.line = omega arith in
    (search rules, refl, rw e)

pub loop-i-preserved : goal.loop-i-preserved
loop-i-preserved c =
    let t = marked_line c.args.marks c.args.line in
    elim c.if-is_dirty.branch [
      | then-is_dirty w ↦ (
        omega arith,
        rw w.memory-is (simp length-set c.loop-i.invariant.1),
        c.loop-i.invariant.2 ∙ turn-dirty t _ _ c.loop-i.i c.loop-i-test.true _ c.is_dirty.ensures _ _ w.if-is_dirty.true w.memory-is,
      )
      | else-is_dirty w ↦ (
        omega arith,
        ap length w.memory-is ∙ c.loop-i.invariant.1,
        c.loop-i.invariant.2 ∙ turn-clean t _ _ c.loop-i.i c.loop-i-test.true _ c.is_dirty.ensures _ _ w.if-is_dirty.false w.memory-is,
      )
    ]

pub returns : goal.returns
returns c =
    sym (steps-off _ (16 * c.args.line) c.loop-i.i 16 _ c.loop-i-test.false)
    ∙ (sym c.loop-i.invariant.2 ∙ words-each (marked_line c.args.marks c.args.line) _ c.args.v _)

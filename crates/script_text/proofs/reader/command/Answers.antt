-- `command` meets its contract.
use native.Mathlib.Omega.{arith}
use mathlib.Core.Path.{◌≡◌, refl, sym, ◌∙◌, ap}
use lib.ListN.{get_or}
use Rattle.std.proofs.Common.{rules}
use Rattle.script.specs.Commands.{space}
use Rattle.script_text.specs.Reader.{asked_of}
use Rattle.script_text.proofs.Scanning.{line-long, line-empty, line-one, line-joined, line-spaced}
use Rattle.script_text.proofs.reader.command.Goals as goal

pub returns-then-line-gt-LONGEST_LINE : goal.returns-then-line-gt-LONGEST_LINE
returns-then-line-gt-LONGEST_LINE c = line-long _ c.if-line-gt-LONGEST_LINE.true

pub returns-in_err-scan_all-in-32 : goal.returns-in_err-scan_all-in-32
returns-in_err-scan_all-in-32 c =
    let h : get_or c.args.line.now 1 0 ≡ space = search rules in
    ap asked_of c.from_residual.ensures
    ∙ line-spaced _ c.if-line-gt-LONGEST_LINE.false c.in-32.len_at_least h (sym (c.in_err-scan_all-in-32.was) ∙ c.scan_all.ensures) refl

pub returns-in_err-read_space-in-32 : goal.returns-in_err-read_space-in-32
returns-in_err-read_space-in-32 c =
    let h : get_or c.args.line.now 1 0 ≡ space = search rules in
    ap asked_of c.from_residual-in_err-read_space-in-32.ensures
    ∙ line-spaced _ c.if-line-gt-LONGEST_LINE.false c.in-32.len_at_least h (sym (c.in_ok-scan_all-in-32.was) ∙ c.scan_all.ensures)
    (sym (c.in_err-read_space-in-32.was) ∙ c.read_space.ensures)

pub returns-in-len1 : goal.returns-in-len1
returns-in-len1 c = grind (arith, line-one)

pub returns-in_ok-read_space-in-32 : goal.returns-in_ok-read_space-in-32
returns-in_ok-read_space-in-32 c =
    let h : get_or c.args.line.now 1 0 ≡ space = search rules in
    c.named-in-32.ensures
    ∙ line-spaced _ c.if-line-gt-LONGEST_LINE.false c.in-32.len_at_least h (sym (c.in_ok-scan_all-in-32.was) ∙ c.scan_all.ensures)
    (sym (c.in_ok-read_space-in-32.was) ∙ c.read_space.ensures)

pub returns-in_default : goal.returns-in_default
returns-in_default c = grind (arith, line-empty)

pub returns-in_default-2 : goal.returns-in_default-2
returns-in_default-2 c = grind (arith, line-joined)

-- `end` meets its contract.
use lib.ListN.{length}
use Rattle.script.specs.Commands.{held_bytes}
use Rattle.script.specs.Words.{answer_line}
use mathlib.Core.Path.{◌≡◌}
use Rattle.model.proofs.Facts.{length-of}
use Rattle.script_play.proofs.InputPlays.{ends-empty, ends-refused}
use borrow.Author.Rules.{rules}
use Rattle.script_play.proofs.Player.end.Goals as goal

pub returns-then-self-eq0 : goal.returns-then-self-eq0
returns-then-self-eq0 c =
    let l : length c.args.self.line.bytes ≡ held_bytes = search (rules, length-of) in
    ends-empty c.args.self c.args.at c.args.out.now l c.if-self-eq0.true

pub returns : goal.returns
unfolding answer_line
returns c =
    let l : length c.args.self.line.bytes ≡ held_bytes = search (rules, length-of) in
    ends-refused c.args.self c.args.at c.args.out.now l c.if-self-eq0.false (rw c.number.ensures at c.write_answer.ensures)

-- `refuse_line` meets its contract.
use native.Mathlib.Omega.{arith}
use Rattle.script_play.proofs.LinePlays.{refused-wrote}
use Rattle.script_play.proofs.line.refuse_line.Goals as goal

pub returns : goal.returns
returns c = rw (← c.number.ensures) (refused-wrote _ (omega arith) c.write_answer.ensures)

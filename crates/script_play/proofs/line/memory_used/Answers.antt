-- `memory_used` meets its contract.
use native.Mathlib.Omega.{arith}
use Rattle.script_play.proofs.LinePlays.{memory-fits, memory-large}
use Rattle.script_play.proofs.line.memory_used.Goals as goal

pub returns-then-length-gt-MAX_MEMORY : goal.returns-then-length-gt-MAX_MEMORY
returns-then-length-gt-MAX_MEMORY c = (memory-large _ c.if-length-gt-MAX_MEMORY.true, omega arith)

pub returns : goal.returns
returns c = (memory-fits _ c.if-length-gt-MAX_MEMORY.false, c.if-length-gt-MAX_MEMORY.false)

-- `cache_used` meets its contract.
use native.Mathlib.Omega.{arith}
use Rattle.script_play.proofs.LinePlays.{cache-fits, too-many, slots-room}
use Rattle.script_play.proofs.line.cache_used.Goals as goal

pub returns-then-figures-gt-MAX_SETS : goal.returns-then-figures-gt-MAX_SETS
returns-then-figures-gt-MAX_SETS c = (too-many _ c.then-figures-gt-MAX_SETS.either, omega arith)

pub overflow_mul-result : goal.overflow_mul-result
overflow_mul-result c = omega (arith, slots-room c.args.figures (omega arith) (omega arith))

pub overflow_cast-result : goal.overflow_cast-result
overflow_cast-result c = omega (arith, slots-room c.args.figures (omega arith) (omega arith))

pub overflow_mul-result-2 : goal.overflow_mul-result-2
overflow_mul-result-2 c = omega (arith, slots-room c.args.figures (omega arith) (omega arith))

pub returns : goal.returns
returns c = (cache-fits _ c.if-figures-gt-MAX_SETS.false c.if-figures-gt-MAX_WAYS.false, omega (arith, slots-room c.args.figures (omega arith) (omega arith)))

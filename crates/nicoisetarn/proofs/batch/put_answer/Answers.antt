-- `batch::put_answer` meets its contract: six numbers in the place of six.
use native.Mathlib.Omega.{arith}
use Rattle.nicoisetarn.proofs.Batches.{put_six}
use Rattle.nicoisetarn.proofs.batch.put_answer.Goals as goal

pub returns : goal.returns
returns c = put_six c.args.answers.now _ c.args.at _ c.args.a c.requires (omega arith) c.copy_from_slice.ensures.after

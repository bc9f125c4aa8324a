-- `flush_exact` promises what is proved in Flush.
use Rattle.rules.proofs.Flush.{flush-counts, flushes-after-start, flushes-from-state}
use Rattle.rules.proofs.flush_exact.Goals as goal

pub returns : goal.returns
returns c = record { by-flush = flush-counts; after-start = flushes-after-start; from-state = flushes-from-state }

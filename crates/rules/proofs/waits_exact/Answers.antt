-- `waits_exact` promises what is proved in Waits and Values.
use Rattle.rules.proofs.Waits.{load-waits, retry-waits}
use Rattle.rules.proofs.Values.{inquiries-after-start, inquiries-from-state}
use Rattle.rules.proofs.waits_exact.Goals as goal

pub returns : goal.returns
returns c = record { by-load = load-waits; by-inquiry = retry-waits; after-start = inquiries-after-start; from-state = inquiries-from-state }

-- `wait_status_exact` promises what is proved in Waits.
use Rattle.rules.proofs.Waits.{load-status, retry-status, load-wait-leaves, retry-wait-leaves, no-other-waits}
use Rattle.rules.proofs.wait_status_exact.Goals as goal

pub returns : goal.returns
returns c = record { by-load = load-status; by-inquiry = retry-status; load-leaves = load-wait-leaves; inquiry-leaves = retry-wait-leaves; by-others = no-other-waits }

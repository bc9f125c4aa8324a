-- `refusals_exact` promises what is proved in Checks.
use Rattle.rules.proofs.Checks.{refused-exactly}
use Rattle.rules.proofs.refusals_exact.Goals as goal

pub returns : goal.returns
returns c = refused-exactly

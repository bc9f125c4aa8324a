-- `wait_status_of_code` promises what is proved in Values.
use Rattle.runs.proofs.Values.{wait-status-of-code}
use Rattle.runs.proofs.wait_status_of_code.Goals as goal

pub returns : goal.returns
returns c = wait-status-of-code

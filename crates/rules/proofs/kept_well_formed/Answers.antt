-- `kept_well_formed` promises what is proved in Kept.
use Rattle.rules.proofs.Kept.{start-formed, next-kept, run-kept, admitted-after-start}
use Rattle.rules.proofs.kept_well_formed.Goals as goal

pub returns : goal.returns
returns c = record { by-start = start-formed; by_call = next-kept; by-run = run-kept; admitted = admitted-after-start }

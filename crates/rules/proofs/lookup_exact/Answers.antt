-- `lookup_exact` promises what is proved in TagLookup.
use Rattle.rules.proofs.TagLookup.{lookup-exact}
use Rattle.rules.proofs.lookup_exact.Goals as goal

pub returns : goal.returns
returns c = lookup-exact

-- `access_passes` meets its contract: the checked access is good exactly if the checks pass.
use mathlib.Core.Path.{◌∙◌, ap}
use Rattle.std.proofs.Common.{is_ok}
use Rattle.access.specs.AccessChecks.{checked_access}
use Rattle.access.proofs.AccessChecks.{numbered-ok, checks-ok}
use Rattle.access.proofs.access_passes.Goals as goal

pub returns : goal.returns
unfolding checked_access
returns c = c.is_ok.ensures.value ∙ numbered-ok _ ∙ ap is_ok c.check_access.ensures ∙ checks-ok _ _

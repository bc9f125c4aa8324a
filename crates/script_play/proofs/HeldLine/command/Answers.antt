-- `command` meets its contract.
use mathlib.Core.Path.{◌∙◌}
use Rattle.script_play.proofs.InputPlays.{held-command}
use Rattle.script_play.proofs.HeldLine.command.Goals as goal

pub returns : goal.returns
returns c = c.command-2.ensures ∙ held-command c.args.self _ _ c.hold-length.ensures

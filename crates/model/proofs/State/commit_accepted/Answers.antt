-- `State::commit_accepted` meets its contract.
use Rattle.rules.specs.Calls.{commit_rule}
use mathlib.Core.Path.{sym, ◌∙◌}
use Rattle.lists.proofs.Cond.{cond-then}
use Rattle.model.proofs.Facts.{shaped-room}
use Rattle.model.proofs.Moves.{used-each}
use Rattle.model.proofs.State.commit_accepted.Goals as goal

pub returns : goal.returns
unfolding commit_rule
returns c = λ k m. rw (c.use_answered.ensures ∙ sym (cond-then _ _ (shaped-room _ _ c.requires)), c.remove_answered.ensures, c.forget_up_to-left.ensures, used-each)

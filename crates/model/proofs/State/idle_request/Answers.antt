-- `State::idle_request` meets its contract.
use mathlib.Core.Path.{sym, ◌∙◌}
use Rattle.lists.proofs.Cond.{cond-then}
use Rattle.model.proofs.Moves.{idle-busy, idle-load, idle-store, idle-nothing}
use Rattle.model.proofs.Facts.{shaped-room}
use Rattle.model.proofs.State.idle_request.Goals as goal

pub returns-in-Line : goal.returns-in-Line
returns-in-Line c = λ k m. idle-busy _ _ _ _ c.in-Line.is

pub returns-then-l-ne0 : goal.returns-then-l-ne0
returns-then-l-ne0 c = λ k m. c.request_line.ensures k m ∙ idle-load _ _ _ c.in_default.is _ (c.lowest_wanting-l.ensures ∙ sym (cond-then _ _ (shaped-room _ _ c.requires.0))) c.if-l-ne0.true

pub returns-then-missing : goal.returns-then-missing
returns-then-missing c = λ k m. c.request_line-then-missing.ensures k m ∙ idle-store _ _ _ c.in_default.is _ (c.lowest_wanting-l.ensures ∙ sym (cond-then _ _ (shaped-room _ _ c.requires.0))) c.if-l-ne0.false _ c.requires.1 (sym c.requires.2 ∙ c.if-missing.true)

pub returns : goal.returns
returns c = λ k m. idle-nothing _ _ _ c.in_default.is _ (c.lowest_wanting-l.ensures ∙ sym (cond-then _ _ (shaped-room _ _ c.requires.0))) c.if-l-ne0.false _ c.requires.1 (sym c.requires.2 ∙ c.if-missing.false)

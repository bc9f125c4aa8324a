-- `State::is_request_good` meets its contract.
use mathlib.Core.Path.{◌≡◌, sym, ◌∙◌}
use mathlib.Core.Bool.{true, false}
use mathlib.Core.List.{[]}
use Rattle.rules.specs.WellFormed.{request_absent, request_inside, request_wanted}
use Rattle.access.specs.AccessChecks.{sized}
use Rattle.records.specs.Records.{tabled}
use Rattle.records.proofs.Answers.{present-known}
use Rattle.model.proofs.Checking.{wanted-at}
use Rattle.model.proofs.Facts.{shaped-room}
use Rattle.model.proofs.State.is_request_good.Goals as goal
use Rattle.model.proofs.State.is_request_good.Goals.{then-not-is_present, else-not-is_present}

pub returns-in_default : goal.returns-in_default
unfolding request_absent request_inside request_wanted
returns-in_default c = rw c.in_default.is

pub returns-then-from : goal.returns-then-from
unfolding request_absent request_inside
returns-then-from c =
    let s = c.args.self in
    let told = c.request_wanted.ensures ∙ wanted-at s [] [] _ _ in
    elim c.if-not-is_present.branch [
      | then-not-is_present w ↦
          let inside = rw (w.from.ensures, w.from-then-not-is_present.ensures, w.from-then-not-is_present-2.ensures) at (sym w.value-is ∙ c.if-from.true) in
          let x : request_absent s.request (tabled s.figures s.tags) ≡ true = rw (c.in-Line.is, sym (present-known _ _ _ _ (shaped-room _ _ c.requires) c.is_present.ensures) ∙ w.if-not-is_present.true) in
          let y : request_inside s.request (sized s.size) ≡ true = rw c.in-Line.is inside in
          rw (x, y) told
      | else-not-is_present w ↦ cc w.if-not-is_present.false
    ]

pub returns-else-from : goal.returns-else-from
unfolding request_absent request_inside
returns-else-from c =
    let s = c.args.self in
    elim c.if-not-is_present.branch [
      | then-not-is_present w ↦
          let inside = rw (w.from.ensures, w.from-then-not-is_present.ensures, w.from-then-not-is_present-2.ensures) at (sym w.value-is ∙ c.if-from.false) in
          let x : request_absent s.request (tabled s.figures s.tags) ≡ true = rw (c.in-Line.is, sym (present-known _ _ _ _ (shaped-room _ _ c.requires) c.is_present.ensures) ∙ w.if-not-is_present.true) in
          let y : request_inside s.request (sized s.size) ≡ false = rw c.in-Line.is inside in
          rw (x, y) c.if-from.false
      | else-not-is_present w ↦ rw (c.in-Line.is, sym (present-known _ _ _ _ (shaped-room _ _ c.requires) c.is_present.ensures) ∙ w.if-not-is_present.false) c.if-from.false
    ]

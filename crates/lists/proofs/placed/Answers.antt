-- `lists::placed` meets its contract. The entry is set at the place that was found.
use Rattle.std.proofs.Common.{◌≡◌, ◌∙◌, sym, rules}
use Rattle.std.specs.List.{position_from}
use Rattle.lists.proofs.Library.{position-chain, position-some, position-none}
use Rattle.lists.proofs.placed.Goals as goal
use Rattle.lists.proofs.placed.Goals.{in-Some, in_default}

pub returns : goal.returns
returns g c = λ test h.
    let found : c.position.result ≡ position_from test 0 c.args.places =
    position-chain _ test _ _ c.args.places c.iter.ensures.rest (λ x b q k. search (rules, h)) c.position.result c.position.ensures.ran in
    elim c.match-position.branch [
      | in-Some w ↦ w.next-is ∙ position-some test w.in-Some.i c.args.entry c.args.places (sym w.in-Some.is ∙ found)
      | in_default w ↦ w.next-is ∙ position-none test c.args.entry c.args.places (sym w.in_default.is ∙ found)
    ]

-- `State::load_accepted` meets its contract.
use Rattle.std.proofs.Common.{rules, ◌≡◌, false, MatchOption}
use Rattle.rules.specs.Calls.{load_rule}
use Rattle.model.specs.State.{queues_of, hierarchy_of}
use Rattle.model.proofs.Reading.{answer-read, waiting-is, forwarded-is}
use Rattle.model.proofs.State.load_accepted.Goals as goal

pub returns : goal.returns
unfolding load_rule
returns c =
    λ m.
    let forwarded : MatchOption c.read-r.result.read (c.is_some_and.result ≡ false) (λ l. c.is_some_and.result ≡ l.forwarded) = search rules in
    let waits = waiting-is _ _ _ (queues_of c.args.self) (hierarchy_of c.args.self c.args.cache.now m) _ (c.read-r.ensures m) c.is_none.result c.is_none.ensures in
    let told = forwarded-is _ _ _ (queues_of c.args.self) (hierarchy_of c.args.self c.args.cache.now m) _ (c.read-r.ensures m) c.is_some_and.result forwarded in
    rw (c.answer_to.ensures, c.place_load.ensures, waits, told, c.read-r.ensures m, answer-read)

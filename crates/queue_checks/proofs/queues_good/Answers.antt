-- `queue_checks::queues_good` meets its contract. The tests of the code are the clauses (proofs/Good).
use Rattle.std.proofs.Common.{◌≡◌, ◌∙◌, arith}
use Rattle.std.proofs.lemmas.Bool.Decides.{nat_tests}
use Rattle.queue_checks.proofs.Good.{tested, tested-good}
use Rattle.queue_checks.proofs.queues_good.Goals as goal

pub returns-then-loads_good : goal.returns-then-loads_good
returns-then-loads_good c =
    let e : c.numbers_apart.result ≡ tested c.args.last c.args.committed c.args.size c.args.stores c.args.loads = grind (arith, nat_tests) in
    e ∙ tested-good c.args.last c.args.committed c.args.size c.args.stores c.args.loads

pub returns-else-loads_good : goal.returns-else-loads_good
returns-else-loads_good c =
    let e : _ ≡ tested c.args.last c.args.committed c.args.size c.args.stores c.args.loads = grind (arith, nat_tests) in
    e ∙ tested-good c.args.last c.args.committed c.args.size c.args.stores c.args.loads

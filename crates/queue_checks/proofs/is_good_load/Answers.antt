-- `queue_checks::is_good_load` meets its contract. By the tests.
use Rattle.std.proofs.Common.{◌∙◌, sym, arith}
use Rattle.std.proofs.lemmas.Bool.Decides.{nat_tests}
use Rattle.queue_checks.proofs.Good.{passes-end, load-tests}
use Rattle.queue_checks.proofs.is_good_load.Goals as goal

pub returns-then-l-m : goal.returns-then-l-m
returns-then-l-m c = rw load-tests (grind (arith, nat_tests))

pub has_uncovered-requires : goal.has_uncovered-requires
has_uncovered-requires c = omega (arith, passes-end c.args.size c.args.l.address c.args.l.width (sym c.access_passes.ensures ∙ c.if-not-access_passes.false))

pub returns-then-not-l : goal.returns-then-not-l
returns-then-not-l c = rw load-tests (grind (arith, nat_tests))

pub returns-else-not-l : goal.returns-else-not-l
returns-else-not-l c = rw load-tests (grind (arith, nat_tests))

pub returns-else-l : goal.returns-else-l
returns-else-l c = rw load-tests (grind (arith, nat_tests))

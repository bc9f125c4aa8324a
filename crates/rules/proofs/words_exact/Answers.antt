-- `words_exact` promises what is proved in Words.
use Rattle.rules.proofs.Words.{marks-exact, marked-only}
use Rattle.rules.proofs.words_exact.Goals as goal

pub returns : goal.returns
returns c = record { by_call = marks-exact; written = marked-only }

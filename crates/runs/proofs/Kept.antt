-- Kept well formed for runs of the code, and never 1 or 10 after an accepted start.
use mathlib.Core.Path.{sym, ◌∙◌, ap, subst}
use mathlib.Core.List.{List}
use Rattle.rules.specs.Kept.{Formed}
use Rattle.rules.specs.Kept as of-rules
use Rattle.rules.proofs.Kept.{next-kept, run-kept, start-formed, admitted}
use Rattle.model.specs.State.{answer_of}
use Rattle.model.specs.declared.Answer as code
use Rattle.runs.specs.Machines.{Machine, Made, RunFrom, StartMade, AcceptedStart, world_at, left, end, call_made, calls_of, start_left, EachMade}
use Rattle.runs.specs.Kept.{FormedAt, KeptOfCode, StateChecksPass, AdmittedOfCode}
use Rattle.runs.proofs.Machines.{Follows, ends, Reached, reached, each-call, start-ready}

start-kept : (s : StartMade) → AcceptedStart s → FormedAt (start_left s)
start-kept s a = subst Formed (sym a.promised.1) (start-formed s.figures s.found s.memory (start-ready s a))

call_kept : (m : Machine) (c : Made) → Follows (call_made c) m c → FormedAt m → FormedAt (left c)
call_kept m c f w = subst Formed (sym f.leaves) (next-kept (call_made c) (world_at m) w)

runs-kept : (m : Machine) (run : List Made) → RunFrom m run → FormedAt m → FormedAt (end m run)
runs-kept m run r w = subst Formed (sym (ends m run r)) (run-kept (calls_of run) (world_at m) w)

pub kept-of-code : KeptOfCode
kept-of-code = record {
  by-start = start-kept;
  by_call = each-call (λ m c. FormedAt m → FormedAt (left c)) call_kept;
  by-run = runs-kept;
}

-- a call on a well-formed machine
call-admitted : (m : Machine) (c : Made) → Follows (call_made c) m c → FormedAt m → StateChecksPass m c
call-admitted m c f w = record {
  not-1 = λ g. by.not-1 (sym f.answers ∙ ap (λ (a : code.Answer). answer_of a c.cache) g);
  not-10 = λ g. by.not-10 (sym f.answers ∙ ap (λ (a : code.Answer). answer_of a c.cache) g);
  own = f.outcome-is ∙ by.own;
}
  where
    by : of-rules.Admitted (call_made c) (world_at m)
    by = admitted (call_made c) (world_at m) w

runs-admitted : (m : Machine) (run : List Made) → RunFrom m run → FormedAt m → EachMade run (λ before c. StateChecksPass (end m before) c)
runs-admitted m run r w before c later e =
    call-admitted (end m before) c at.follows-there (subst Formed (sym at.world_is) (run-kept (calls_of before) (world_at m) w))
  where
    at : Reached m before c
    at = reached m run r before c later e

pub admitted-of-code : AdmittedOfCode
admitted-of-code = record {
  after-start = λ s a run r. runs-admitted (start_left s) run r (start-kept s a);
  from-state = λ m w run r. runs-admitted m run r w;
}

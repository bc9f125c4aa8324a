-- Demand 2 for runs of the code: the claims of the rules, carried over call by call.
use Prim.Native.Nat.{ℕ}
use mathlib.Core.Path.{◌≡◌, refl, sym, ◌∙◌, ap, subst}
use mathlib.Core.Bool.{true, false≢true}
use mathlib.Core.List.{[], ◌∷◌, ◌++◌}
use mathlib.Core.Logic.{inl, inr, ⊎_elim}
use Rattle.rules.specs.Shape.{World, tag_at}
use Rattle.rules.specs.Calls as rules
use Rattle.rules.specs.Calls.{Outcome, is_accepted, flush_rule}
use Rattle.rules.specs.Lines.{dirty_words}
use Rattle.rules.specs.Runs.{answer, next}
use Rattle.rules.specs.Flat.{History, flat_of, applied_all, held_stores, flat_with_held, flat_committed}
use Rattle.rules.specs.Values.{ValuesRight, RightValue, IsWait, InquiriesRight, InquiryAbout, FlushesRight, FlatAfter, FlatNext}
use Rattle.rules.specs.Values as of-rules
use Rattle.rules.specs.TagLookup.{StatusExactly}
use Rattle.rules.proofs.Checks.{outcome-by}
use Rattle.rules.proofs.Values.{values-after-start, values-from-state, inquiries-after-start, inquiries-from-state, flat-after-start, flat-from-state}
use Rattle.rules.proofs.Waits.{load-waits, load-status, retry-waits, retry-status, no-other-waits}
use Rattle.rules.proofs.Flush.{flush-counts, flushes-after-start, flushes-from-state}
use Rattle.rules.proofs.FlatCalls.{flat-call}
use Rattle.model.specs.State.{answer_of, call_of}
use Rattle.model.specs.declared.Call.{Call}
use Rattle.model.specs.declared.Call.TheVariants.{Load, Store, Retry, Commit, Abort, Idle, Reply, Flush, Show, Checkpoint, Restore, Preview}
use Rattle.model.specs.declared.Answer as code
use Rattle.model.specs.declared.Answer.TheVariants.{Waits, WaitsRequested}
use Rattle.runs.specs.Machines.{Machine, Made, world_at, left, call_made, calls_of}
use Rattle.runs.specs.Values.{EachValueRight, WaitsGiven, GivesWaits, LoadGivesWaits, RetryGivesWaits, GivesStatus, LoadGivesStatus, RetryGivesStatus, OtherNeverWaits, EachInquiryRight, FlushMade, EachFlushRight, FlatMoves, FlatMoved, FlatAtEnd, ValuesOfCode, WaitsOfCode, WaitStatusOfCode, FlushesOfCode, FlatMemoryOfCode}
use Rattle.runs.proofs.Machines.{answer_as, Follows, follows-as, ends, history-is, Reached, reached, each-call, Carried, carried-start, carried-state}

-- ---- values

values-carried : Carried ValuesRight EachValueRight
values-carried found h m run r p before c later e i v g =
    subst (λ (g : History). RightValue found g (call_made c) i v) (sym (at.history-with h))
    (p (calls_of before ++ call_made c ∷ []) (calls_of before) (call_made c) [] refl i v
    (sym at.answers-there ∙ ap (λ (a : code.Answer). answer_of a c.cache) g))
  where
    at : Reached m before c
    at = reached m run r before c later e

pub values-of-code : ValuesOfCode
values-of-code = record {
  after-start = carried-start ValuesRight EachValueRight values-carried values-after-start;
  from-state = carried-state ValuesRight EachValueRight values-carried values-from-state;
}

-- ---- waits

-- what the code answers, the rules answer
answer-there :
    (k : rules.Call) (m : Machine) (c : Made) → Follows k m c → (a : code.Answer) → c.gave.answer ≡ a → answer k (world_at m) ≡ answer_of a c.cache
answer-there k m c f a g = sym f.answers ∙ ap (λ (a : code.Answer). answer_of a c.cache) g

wait-there : (k : rules.Call) (m : Machine) (c : Made) → Follows k m c → (j : ℕ) → WaitsGiven j c → IsWait j (answer k (world_at m))
wait-there k m c f j = ⊎_elim (λ g. inl (answer-there k m c f (Waits j) g)) (λ g. inr (answer-there k m c f (WaitsRequested j) g))

-- where the rules' answer waits exactly, so does the code's
waits-given :
    (k : rules.Call) (i a n : ℕ) (m : Machine) (c : Made) → Follows k m c
    → of-rules.WaitsExactly i a n (world_at m) (answer k (world_at m)) → GivesWaits i a n m c
waits-given k i a n m c f w = record {
  only = λ j g. w.only j (wait-there k m c f j g);
  whenever = λ l. ⊎_elim (λ e. inl (f.gives ∙ ap answer_as e)) (λ e. inr (f.gives ∙ ap answer_as e)) (w.whenever l);
  otherwise = λ l. ((w.otherwise l).0, f.gives ∙ ap answer_as (w.otherwise l).1);
}

load_given : (m : Machine) (c : Made) → Follows (call_made c) m c → LoadGivesWaits m c
load_given m c f a n g t = waits-given (rules.load a n) _ a n m c there (load-waits a n (world_at m) (ap is_accepted (sym there.answers) ∙ t))
  where
    there : Follows (rules.load a n) m c
    there = follows-as m c f (Load a n) g

retry-given : (m : Machine) (c : Made) → Follows (call_made c) m c → RetryGivesWaits m c
retry-given m c f i g t = waits-given (rules.retry i) i _ _ m c there (retry-waits i (world_at m) (ap is_accepted (sym there.answers) ∙ t))
  where
    there : Follows (rules.retry i) m c
    there = follows-as m c f (Retry i) g

about-same : (i : ℕ) {g h : History} {v w : World} → g ≡ h → v ≡ w → InquiryAbout h i w → InquiryAbout g i v
about-same i p q a = rw (p, q) a

inquiries-carried : Carried InquiriesRight EachInquiryRight
inquiries-carried found h m run r p before c later e i g t =
    about-same i (at.history-before h) at.world_is
    (p (calls_of before ++ call_made c ∷ []) (calls_of before) (call_made c) [] refl i (ap call_of g) (ap is_accepted (sym at.answers-there) ∙ t))
  where
    at : Reached m before c
    at = reached m run r before c later e

pub waits-of-code : WaitsOfCode
waits-of-code = record {
  by-load = each-call LoadGivesWaits load_given;
  by-inquiry = each-call RetryGivesWaits retry-given;
  after-start = carried-start InquiriesRight EachInquiryRight inquiries-carried inquiries-after-start;
  from-state = carried-state InquiriesRight EachInquiryRight inquiries-carried inquiries-from-state;
}

-- ---- which of the two words

status-given :
    (k : rules.Call) (i a n : ℕ) (m : Machine) (c : Made) → Follows k m c
    → StatusExactly i a n (world_at m) (answer k (world_at m)) → GivesStatus i a n m c
status-given k i a n m c f s = record {
  requested-only = λ j g. s.requested-only j (answer-there k m c f (WaitsRequested j) g);
  requested-whenever = λ l r. f.gives ∙ ap answer_as (s.requested-whenever l r);
  waits-only = λ j g. s.waits-only j (answer-there k m c f (Waits j) g);
  waits-whenever = λ l r. f.gives ∙ ap answer_as (s.waits-whenever l r);
}

load-gives-status : (m : Machine) (c : Made) → Follows (call_made c) m c → LoadGivesStatus m c
load-gives-status m c f a n g t =
    let there = follows-as m c f (Load a n) g in
    status-given (rules.load a n) _ a n m c there (load-status a n (world_at m) (ap is_accepted (sym there.answers) ∙ t))

retry-gives-status : (m : Machine) (c : Made) → Follows (call_made c) m c → RetryGivesStatus m c
retry-gives-status m c f i g t =
    let there = follows-as m c f (Retry i) g in
    status-given (rules.retry i) i _ _ m c there (retry-status i (world_at m) (ap is_accepted (sym there.answers) ∙ t))

other-never-waits : (m : Machine) (c : Made) → Follows (call_made c) m c → OtherNeverWaits m c
other-never-waits m c f other j g = no-other-waits (call_made c) (world_at m) other j (wait-there (call_made c) m c f j g)

pub wait-status-of-code : WaitStatusOfCode
wait-status-of-code = record {
  by-load = each-call LoadGivesStatus load-gives-status;
  by-inquiry = each-call RetryGivesStatus retry-gives-status;
  by-others = each-call OtherNeverWaits other-never-waits;
}

-- ---- flush

-- an accepted flush answers the number of dirty words
flush-answer : (w : World) → is_accepted (answer rules.flush w) ≡ true → answer rules.flush w ≡ rules.flushed (dirty_words w.hierarchy)
unfolding answer flush_rule
flush-answer w =
    outcome-by rules.flush w.queues w.hierarchy
    (λ (o : Outcome). is_accepted o.answer ≡ true → o.answer ≡ rules.flushed (dirty_words w.hierarchy))
    (λ k e. absurd (false≢true e)) (λ e f p r. refl)

flush-given : (m : Machine) (c : Made) → Follows (call_made c) m c → FlushMade m c
flush-given m c f g t = record {
  counts = there.gives ∙ ap answer_as flushed-is;
  in_use = exact.in_use;
  cleans = λ k. ap (λ (w : World). (tag_at w.hierarchy.tags k).dirty) there.leaves ∙ exact.cleans k;
  flattens = ap (λ (w : World). w.hierarchy.memory) there.leaves ∙ exact.flattens;
}
  where
    there : Follows rules.flush m c
    there = follows-as m c f Flush g

    flushed-is : answer rules.flush (world_at m) ≡ rules.flushed (dirty_words (world_at m).hierarchy)
    flushed-is = flush-answer (world_at m) (ap is_accepted (sym there.answers) ∙ t)

    exact : of-rules.FlushExact (world_at m) (dirty_words (world_at m).hierarchy)
    exact = flush-counts (world_at m) (dirty_words (world_at m).hierarchy) flushed-is

flushes-carried : Carried FlushesRight EachFlushRight
flushes-carried found h m run r p before c later e g t =
    ap (λ (w : World). w.hierarchy.memory) at.leaves-there
    ∙ p (calls_of before ++ call_made c ∷ []) (calls_of before) (call_made c) [] refl (ap call_of g) (ap is_accepted (sym at.answers-there) ∙ t)
    ∙ ap (λ (h : History). flat_committed h found) (sym (at.history-before h))
  where
    at : Reached m before c
    at = reached m run r before c later e

pub flushes-of-code : FlushesOfCode
flushes-of-code = record {
  by-flush = each-call FlushMade flush-given;
  after-start = carried-start FlushesRight EachFlushRight flushes-carried flushes-after-start;
  from-state = carried-state FlushesRight EachFlushRight flushes-carried flushes-from-state;
}

-- ---- flat memory

-- what the rules' call does to flat memory, of the machine that the code's call left
flat-moves : (j : Call) (m d : Machine) → world_at d ≡ next (call_of j) (world_at m) → FlatNext (call_of j) (world_at m) → FlatMoves j m d
flat-moves (Load a n) m d e f = ap flat_with_held e ∙ f
flat-moves (Store a n v) m d e f = ap flat_with_held e ∙ f
flat-moves (Retry i) m d e f = ap flat_with_held e ∙ f
flat-moves (Commit k) m d e f = ap flat_with_held e ∙ f
flat-moves (Abort n) m d e f = (ap (λ (w : World). flat_of w.hierarchy) e ∙ f.0, ap held_stores e ∙ f.1)
flat-moves Idle m d e f = ap flat_with_held e ∙ f
flat-moves Reply m d e f = ap flat_with_held e ∙ f
flat-moves Flush m d e f = ap flat_with_held e ∙ f
flat-moves (Show a) m d e f = ap flat_with_held e ∙ f
flat-moves (Checkpoint x) m d e f = ap flat_with_held e ∙ f
flat-moves (Restore x) m d e f = (ap (λ (w : World). flat_of w.hierarchy) e ∙ f.0, ap held_stores e ∙ f.1)
flat-moves Preview m d e f = ap flat_with_held e ∙ f

flat-given : (m : Machine) (c : Made) → Follows (call_made c) m c → FlatMoved m c
flat-given m c f t =
    flat-moves c.call m (left c) f.leaves (flat-call (call_made c) (world_at m) (ap is_accepted (sym f.answers) ∙ t))

flat-carried : Carried FlatAfter FlatAtEnd
flat-carried found h m run r p =
    ap flat_with_held (ends m run r) ∙ p (calls_of run)
    ∙ ap (λ (h : History). applied_all h.stores found) (sym (history-is h m run r))

pub flat-memory-of-code : FlatMemoryOfCode
flat-memory-of-code = record {
  by_call = each-call FlatMoved flat-given;
  after-start = carried-start FlatAfter FlatAtEnd flat-carried flat-after-start;
  from-state = carried-state FlatAfter FlatAtEnd flat-carried flat-from-state;
}

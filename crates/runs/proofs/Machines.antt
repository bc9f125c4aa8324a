-- Runs of the code are runs of the rules: by the promise of `step` each call moves the world as the rules do and answers what they say,
-- and by the promise of `start` a run after a start begins at the rules' start.
use Prim.Native.Nat.{ℕ, ◌+◌}
use mathlib.Core.Path.{◌≡◌, refl, sym, ◌∙◌, ap, ap₂, subst}
use mathlib.Core.List.{List, [], ◌∷◌, ◌++◌}
use mathlib.Core.Option.{Option, some, none}
use lib.ListN.{length, replicate, get_or, length-replicate}
use Rattle.std.specs.Prelude.{Some, None}
use Rattle.std.specs.Prelude as std
use Rattle.lists.proofs.Counting.{each-length}
use Rattle.rules.specs.declared.Figures.{Figures}
use Rattle.rules.specs.Shape.{World, world}
use Rattle.rules.specs.Calls.{Call, Answer, Outcome}
use Rattle.rules.specs.Lines.{Preview}
use Rattle.rules.specs.Calls as rules
use Rattle.rules.specs.Runs.{outcome, answer, next, answers, after, ready, start_answer}
use Rattle.rules.specs.Flat.{History, no_history, history, history_of, flat_of}
use Rattle.rules.specs.Values.{history_at, Claim, AfterStart, FromState}
use Rattle.records.specs.Records.{eviction_given, preview_given}
use Rattle.records.specs.declared.Preview as previews
use Rattle.model.specs.State.{bytes_from, outcome_of, answer_of, call_of}
use Rattle.model.specs.Starts.{start_answer_of}
use Rattle.model.specs.declared.Call as code
use Rattle.model.specs.declared.Answer as codes
use Rattle.model.specs.declared.Answer.TheVariants.{Refused, Stored, Value, Waits, WaitsRequested, Committed, Kept, Drained, Requested, Idled, Filled, Flushed, Shown, Checkpointed, Previewed}
use Rattle.runs.specs.Machines.{Machine, Made, StartMade, AcceptedStart, world_at, left, AsPromised, call_made, answer_given, RunFrom, end, calls_of, answers_of, history_by, EachMade, EveryCall, start_left, RunClaim, RunsAfterStart, RunsFromState}

-- ---- a machine and its world

-- the machine of a world
abbrev pub machine_at : World → Machine
machine_at w = record {
  state = record {
    figures = w.hierarchy.figures;
    size = w.hierarchy.size;
    last = w.queues.last;
    committed = w.queues.committed;
    request = w.queues.request;
    stores = w.queues.stores;
    loads = w.queues.loads;
    checkpoints = w.queues.checkpoints;
    tags = w.hierarchy.tags;
  };
  cache = w.hierarchy.cache;
  memory = w.hierarchy.memory;
}

-- a machine is known by its world
pub machine-of : (m d : Machine) → world_at m ≡ world_at d → m ≡ d
machine-of m d e = ap machine_at e

-- ---- an answer

-- the code's preview of a paper's preview
abbrev eviction_as : Option ℕ → std.Option ℕ
eviction_as none = None
eviction_as (some l) = Some l

abbrev preview_as : Preview → previews.Preview
preview_as p = record {
  way = p.way;
  evicted = eviction_as p.evicted;
  words = p.words;
  ages = p.ages;
}

eviction-back : (e : std.Option ℕ) → e ≡ eviction_as (eviction_given e)
eviction-back None = refl
eviction-back (Some l) = refl

preview-back : (p : previews.Preview) → p ≡ preview_as (preview_given p)
preview-back p = λ i. record { way = p.way; evicted = eviction-back p.evicted i; words = p.words; ages = p.ages }

-- the code's answer of a paper's answer
abbrev pub answer_as : Answer → codes.Answer
answer_as (rules.refused k) = Refused k
answer_as (rules.stored i) = Stored i
answer_as (rules.value i v) = Value i v
answer_as (rules.waits i) = Waits i
answer_as (rules.waits_requested i) = WaitsRequested i
answer_as (rules.committed k) = Committed k
answer_as (rules.kept k) = Kept k
answer_as (rules.drained i) = Drained i
answer_as (rules.requested a) = Requested a
answer_as rules.idled = Idled
answer_as (rules.filled a) = Filled a
answer_as (rules.flushed k) = Flushed k
answer_as (rules.shown p bs) = Shown p (length bs)
answer_as (rules.checkpointed n) = Checkpointed n
answer_as (rules.previewed p) = Previewed (preview_as p)

length-bytes : (p n : ℕ) (cache : List ℕ) → length (bytes_from p n cache) ≡ n
unfolding bytes_from
length-bytes p n cache = each-length (λ i x. get_or cache (p + i) 0) 0 (replicate n 0) ∙ length-replicate n 0

-- the paper's answer tells the code's: a part by its place and its bytes
answer_back : (a : codes.Answer) (cache : List ℕ) → a ≡ answer_as (answer_of a cache)
answer_back (Refused k) cache = refl
answer_back (Stored i) cache = refl
answer_back (Value i v) cache = refl
answer_back (Waits i) cache = refl
answer_back (WaitsRequested i) cache = refl
answer_back (Committed k) cache = refl
answer_back (Kept k) cache = refl
answer_back (Drained i) cache = refl
answer_back (Requested a) cache = refl
answer_back Idled cache = refl
answer_back (Filled a) cache = refl
answer_back (Flushed k) cache = refl
answer_back (Shown p n) cache = ap (Shown p) (sym (length-bytes p n cache))
answer_back (Checkpointed n) cache = refl
answer_back (Previewed p) cache = ap Previewed (preview-back p)

-- ---- one call

-- the call c on m answers and leaves what the rules' call k does
pub record Follows (k : Call) (m : Machine) (c : Made) : Type 0 where
  pub answers : answer_given c ≡ answer k (world_at m)
  pub gives : c.gave.answer ≡ answer_as (answer k (world_at m))
  pub leaves : world_at (left c) ≡ next k (world_at m)
  pub outcome-is : outcome_of c.gave c.cache c.memory ≡ outcome k (world_at m).queues (world_at m).hierarchy

pub follows : (m : Machine) (c : Made) → AsPromised m c → Follows (call_made c) m c
unfolding answer next
follows m c p = record {
  answers = ap (λ (o : Outcome). o.answer) p;
  gives = answer_back c.gave.answer c.cache ∙ ap (λ (o : Outcome). answer_as o.answer) p;
  leaves = ap (λ (o : Outcome). world o.queues o.hierarchy) p;
  outcome-is = p;
}

pub follows-as : (m : Machine) (c : Made) → Follows (call_made c) m c → (j : code.Call) → c.call ≡ j → Follows (call_of j) m c
follows-as m c f j e = subst (λ (i : code.Call). Follows (call_of i) m c) e f

-- ---- a run

pub ends : (m : Machine) (run : List Made) → RunFrom m run → world_at (end m run) ≡ after (calls_of run) (world_at m)
unfolding after
ends m [] r = refl
ends m (c ∷ cs) r = ends (left c) cs r.1 ∙ ap (after (calls_of cs)) (follows m c r.0).leaves

pub answers-are : (m : Machine) (run : List Made) → RunFrom m run → answers_of run ≡ answers (calls_of run) (world_at m)
unfolding answers
answers-are m [] r = refl
answers-are m (c ∷ cs) r =
    ap₂ (λ (a : Answer) (l : List Answer). a ∷ l) (follows m c r.0).answers
    (answers-are (left c) cs r.1 ∙ ap (answers (calls_of cs)) (follows m c r.0).leaves)

pub history-is : (h : History) (m : Machine) (run : List Made) → RunFrom m run → history_by h run ≡ history_of h (calls_of run) (world_at m)
history-is h m run r = ap (λ (rs : List Answer). history (calls_of run) rs h) (answers-are m run r)

pub calls-append : (xs ys : List Made) → calls_of (xs ++ ys) ≡ calls_of xs ++ calls_of ys
calls-append [] ys = refl
calls-append (c ∷ xs) ys = ap (λ (l : List Call). call_made c ∷ l) (calls-append xs ys)

pub run-first : (m : Machine) (xs ys : List Made) → RunFrom m (xs ++ ys) → RunFrom m xs
run-first m [] ys r = tt
run-first m (c ∷ xs) ys r = (r.0, run-first (left c) xs ys r.1)

pub run-rest : (m : Machine) (xs ys : List Made) → RunFrom m (xs ++ ys) → RunFrom (end m xs) ys
run-rest m [] ys r = r
run-rest m (c ∷ xs) ys r = run-rest (left c) xs ys r.1

-- ---- a call of a run

-- the call c that a run makes after these
pub record Reached (m : Machine) (before : List Made) (c : Made) : Type 0 where
  pub world_is : world_at (end m before) ≡ after (calls_of before) (world_at m)
  pub follows-there : Follows (call_made c) (end m before) c
  pub answers-there : answer_given c ≡ answer (call_made c) (after (calls_of before) (world_at m))
  pub leaves-there : world_at (left c) ≡ next (call_made c) (after (calls_of before) (world_at m))
  pub history-before : (h : History) → history_by h before ≡ history_of h (calls_of before) (world_at m)
  pub history-with : (h : History) → history_by h (before ++ c ∷ []) ≡ history_of h (calls_of before ++ call_made c ∷ []) (world_at m)

pub reached : (m : Machine) (run : List Made) → RunFrom m run → EachMade run (Reached m)
reached m run r before c later e = record {
  world_is = here;
  follows-there = there;
  answers-there = there.answers ∙ ap (answer (call_made c)) here;
  leaves-there = there.leaves ∙ ap (next (call_made c)) here;
  history-before = λ h. history-is h m before first;
  history-with = λ h. history-is h m (before ++ c ∷ []) with_it ∙ ap (λ (cs : List Call). history_of h cs (world_at m)) (calls-append before (c ∷ []));
}
  where
    split : RunFrom m (before ++ c ∷ later)
    split = subst (RunFrom m) e r

    first : RunFrom m before
    first = run-first m before (c ∷ later) split

    rest : RunFrom (end m before) (c ∷ later)
    rest = run-rest m before (c ∷ later) split

    here : world_at (end m before) ≡ after (calls_of before) (world_at m)
    here = ends m before first

    there : Follows (call_made c) (end m before) c
    there = follows (end m before) c rest.0

    with_it : RunFrom m (before ++ c ∷ [])
    with_it = joined m before first (rest.0, tt)
      where
        joined : (m : Machine) (xs : List Made) → RunFrom m xs → RunFrom (end m xs) (c ∷ []) → RunFrom m (xs ++ c ∷ [])
        joined m [] r s = s
        joined m (d ∷ xs) r s = (r.0, joined (left d) xs r.1 s)

-- what holds of every call that follows the rules holds of every call of every run
pub each-call : (P : Machine → Made → Type 0) → ((m : Machine) (c : Made) → Follows (call_made c) m c → P m c) → EveryCall P
each-call P p m run r before c later e = p (end m before) c (reached m run r before c later e).follows-there

-- ---- a start

pub start-ready : (s : StartMade) → AcceptedStart s → start_answer s.figures s.found s.memory ≡ ready
start-ready s a = sym a.promised.0 ∙ ap start_answer_of a.ready

-- a claim about runs of the rules after a start, at the machine that a start of the code left
pub at-start :
    (claim : Claim) → ((f : Figures) (cache memory : List ℕ) → AfterStart claim f cache memory)
    → (s : StartMade) → AcceptedStart s → (run : List Call) → claim s.memory no_history (world_at (start_left s)) run
at-start claim p s a run =
    subst (λ (w : World). claim s.memory no_history w run) (sym a.promised.1)
    (p s.figures s.found s.memory (start-ready s a) run)

-- ---- claims about runs

-- a claim about runs of the code that follows from one about the runs of the rules from its world on
abbrev pub Carried : Claim → RunClaim → Type 0
Carried of_rules of_code =
    (found : List ℕ) (h : History) (m : Machine) (run : List Made) → RunFrom m run
    → ((calls : List Call) → of_rules found h (world_at m) calls) → of_code found h m run

pub carried-start :
    (of_rules : Claim) (of_code : RunClaim) → Carried of_rules of_code
    → ((f : Figures) (cache memory : List ℕ) → AfterStart of_rules f cache memory) → RunsAfterStart of_code
carried-start of_rules of_code carry p s a run r = carry s.memory no_history (start_left s) run r (at-start of_rules p s a)

pub carried-state :
    (of_rules : Claim) (of_code : RunClaim) → Carried of_rules of_code → ((w : World) → FromState of_rules w) → RunsFromState of_code
carried-state of_rules of_code carry p m f run r =
    carry (flat_of (world_at m).hierarchy) (history_at (world_at m)) m run r (p (world_at m) f)

-- Demand 3 for runs of the code: a run of the code is a run of the rules, and a machine is known by its world.
use Prim.Native.Nat.{ℕ, ◌<◌}
use mathlib.Core.Path.{◌≡◌, refl, sym, ◌∙◌, ap, ap₂, subst}
use mathlib.Core.Bool.{Bool, true, false, not}
use mathlib.Core.List.{List, [], ◌∷◌, ◌++◌, map}
use lib.Dec.{T, ltb→lt}
use borrow.Author.Tests.{eqb-true}
use Rattle.lists.specs.Padded.{every, select}
use Rattle.lists.proofs.Cond.{truth}
use Rattle.rules.specs.Shape.{World}
use Rattle.rules.specs.Calls as rules
use Rattle.rules.specs.Calls.{is_accepted}
use Rattle.rules.specs.Runs.{answer, next, after, answers, started}
use Rattle.rules.specs.Dropped.{Dropped, Restored, aborts_below, is_checkpoint_call, sets_checkpoint, NoneAccepted, NoTrace, struck, struck_too}
use Rattle.rules.proofs.Dropped.{dropped-stretch}
use Rattle.rules.proofs.Restored.{restored-stretch}
use Rattle.rules.proofs.Kept.{start-leaves}
use Rattle.model.specs.State.{call_of, answer_of}
use Rattle.model.specs.declared.Call.{Call}
use Rattle.model.specs.declared.Call.TheVariants.{Load, Store, Retry, Commit, Abort, Idle, Reply, Flush, Show, Checkpoint, Restore, Preview}
use Rattle.model.specs.declared.Answer.{Answer}
use Rattle.runs.specs.Machines.{Machine, Made, RunFrom, StartMade, AcceptedStart, world_at, left, end, call_made, accepted_call, calls_of, answers_of, start_left, EachMade}
use Rattle.runs.specs.Dropped.{DroppedFor, RestoredTo, remaining_of, gave_all, NoTraceOf, LeavesNoTrace, DroppedOfCode, RestoredOfCode}
use Rattle.runs.proofs.Machines.{machine-of, answer_as, Follows, follows, follows-as, ends, answers-are, calls-append, run-first, run-rest, Reached, reached, start-ready}

-- ---- a stretch of the code that is dropped is dropped in the rules

-- what holds of each call of a stretch holds of each after the first
later-made : (c : Made) (cs : List Made) (P : List Made → Made → Type 0) → EachMade (c ∷ cs) P → EachMade cs (λ before. P (c ∷ before))
later-made c cs P h before d later e = h (c ∷ before) d later (ap (λ (l : List Made). c ∷ l) e)

-- an abort naming less than n
record AbortBelow (n : ℕ) (j : Call) : Type 0 where
  names : ℕ
  call-is : j ≡ Abort names
  less : names < n

abort-below : (n : ℕ) (j : Call) → T (aborts_below n (call_of j)) → AbortBelow n j
abort-below n (Load a w) t = absurd t
abort-below n (Store a w v) t = absurd t
abort-below n (Retry i) t = absurd t
abort-below n (Commit k) t = absurd t
abort-below n (Abort k) t = record { names = k; call-is = refl; less = ltb→lt k n t }
abort-below n Idle t = absurd t
abort-below n Reply t = absurd t
abort-below n Flush t = absurd t
abort-below n (Show a) t = absurd t
abort-below n (Checkpoint x) t = absurd t
abort-below n (Restore x) t = absurd t
abort-below n Preview t = absurd t

-- no call of a stretch that passes the test is accepted
none-accepted :
    (test : rules.Call → Bool) (m : Machine) (stretch : List Made) → RunFrom m stretch
    → EachMade stretch (λ before c. T (test (call_made c)) → accepted_call c ≡ true → ⊥) → NoneAccepted test (calls_of stretch) (world_at m)
none-accepted test m [] r a = tt
none-accepted test m (c ∷ cs) r a = (
  λ b t. a [] c cs refl b (ap is_accepted f.answers ∙ truth _ t),
  subst (NoneAccepted test (calls_of cs)) f.leaves (none-accepted test (left c) cs r.1 (later-made c cs _ a)),
)
  where
    f : Follows (call_made c) m c
    f = follows m c r.0

-- no set or return call is in it
silent : (j : Call) → ((x : ℕ) → (j ≡ Checkpoint x → ⊥) × (j ≡ Restore x → ⊥)) → is_checkpoint_call (call_of j) ≡ false
silent (Load a w) h = refl
silent (Store a w v) h = refl
silent (Retry i) h = refl
silent (Commit k) h = refl
silent (Abort n) h = refl
silent Idle h = refl
silent Reply h = refl
silent Flush h = refl
silent (Show a) h = refl
silent (Checkpoint x) h = absurd ((h x).0 refl)
silent (Restore x) h = absurd ((h x).1 refl)
silent Preview h = refl

all-silent :
    (stretch : List Made) → EachMade stretch (λ before c. (x : ℕ) → (c.call ≡ Checkpoint x → ⊥) × (c.call ≡ Restore x → ⊥))
    → every (λ c. not (is_checkpoint_call c)) (calls_of stretch) ≡ true
unfolding every
all-silent [] h = refl
all-silent (c ∷ cs) h = rw (silent c.call (h [] c cs refl)) (all-silent cs (later-made c cs _ h))

dropped-as : (n : ℕ) (m : Machine) (stretch : List Made) → RunFrom m stretch → DroppedFor n m stretch → Dropped n (calls_of stretch) (world_at m)
dropped-as n m stretch r d = record {
  opens = d.opens;
  body = calls_of d.body;
  ends = ap calls_of d.ends ∙ calls-append d.body (d.final ∷ []) ∙ ap (λ (k : rules.Call). calls_of d.body ++ k ∷ []) aborts-n;
  accepted =
      subst T (sym d.passes ∙ ap is_accepted at.answers-there ∙ ap (λ (k : rules.Call). is_accepted (answer k (after (calls_of d.body) (world_at m)))) aborts-n) tt;
  above =
      none-accepted (aborts_below n) m stretch r
      (λ before c later e b. let k = abort-below n c.call b in λ t. d.above before c later e k.names k.call-is t k.less);
  quiet = all-silent stretch d.quiet;
}
  where
    at : Reached m d.body d.final
    at = reached m stretch r d.body d.final [] d.ends

    aborts-n : call_made d.final ≡ rules.abort n
    aborts-n = ap call_of d.aborts

-- ---- a stretch of the code to the return to a mark is one in the rules

set-again : (x : ℕ) (j : Call) → T (sets_checkpoint x (call_of j)) → j ≡ Checkpoint x
set-again x (Load a w) t = absurd t
set-again x (Store a w v) t = absurd t
set-again x (Retry i) t = absurd t
set-again x (Commit k) t = absurd t
set-again x (Abort n) t = absurd t
set-again x Idle t = absurd t
set-again x Reply t = absurd t
set-again x Flush t = absurd t
set-again x (Show a) t = absurd t
set-again x (Checkpoint y) t = ap Checkpoint (eqb-true y x (truth _ t))
set-again x (Restore y) t = absurd t
set-again x Preview t = absurd t

module _ (x n : ℕ) (m : Machine) (stretch : List Made) (r : RunFrom m stretch) (d : RestoredTo x n m stretch) where
  set_is : call_made d.first ≡ rules.checkpoint x
  set_is = ap call_of d.sets

  return-is : call_made d.final ≡ rules.restore x
  return-is = ap call_of d.returns

  -- the stretch, as it was made
  made : RunFrom m (d.first ∷ (d.body ++ d.final ∷ []))
  made = subst (RunFrom m) d.shape r

  f : Follows (rules.checkpoint x) m d.first
  f = follows-as m d.first (follows m d.first made.0) (Checkpoint x) d.sets

  at : Reached m (d.first ∷ d.body) d.final
  at = reached m stretch r (d.first ∷ d.body) d.final [] d.shape

  -- the world after the setting
  set-left : world_at (left d.first) ≡ next (rules.checkpoint x) (world_at m)
  set-left = f.leaves

  restored-as : Restored x n (calls_of stretch) (world_at m)
  unfolding after
  restored-as = record {
    body = calls_of d.body;
    shape =
        ap calls_of d.shape
        ∙ ap₂ (λ (k : rules.Call) (l : List rules.Call). k ∷ l) set_is
        (calls-append d.body (d.final ∷ []) ∙ ap (λ (k : rules.Call). calls_of d.body ++ k ∷ []) return-is);
    sets = sym f.answers ∙ ap (λ (a : Answer). answer_of a d.first.cache) d.remembers;
    returns =
        subst T (sym d.accepted ∙ ap is_accepted at.answers-there
        ∙ ap₂ (λ (k j : rules.Call). is_accepted (answer j (after (calls_of d.body) (next k (world_at m))))) set_is return-is) tt;
    set-once =
        subst (NoneAccepted (sets_checkpoint x) (calls_of d.body)) set-left
        (none-accepted (sets_checkpoint x) (left d.first) d.body (run-first (left d.first) d.body (d.final ∷ []) made.1)
        (λ before c later e b. d.set-once before c later e (set-again x c.call b)));
  }

-- ---- no trace

-- what a run gave, of its answers
gave-are : (m : Machine) (run : List Made) → RunFrom m run → gave_all run ≡ map answer_as (answers_of run)
gave-are m [] r = refl
gave-are m (c ∷ cs) r =
    ap₂ (λ (a : Answer) (l : List Answer). a ∷ l) ((follows m c r.0).gives ∙ ap answer_as (sym (follows m c r.0).answers))
    (gave-are (left c) cs r.1)

select-map : {A B : Type 0} (f : A → B) (ks : List Bool) (xs : List A) → select ks (map f xs) ≡ map f (select ks xs)
unfolding select
select-map f [] [] = refl
select-map f [] (x ∷ xs) = refl
select-map f (k ∷ ks) [] = refl
select-map f (true ∷ ks) (x ∷ xs) = ap (λ l. f x ∷ l) (select-map f ks xs)
select-map f (false ∷ ks) (x ∷ xs) = select-map f ks xs

-- a stretch of the code that is one in the rules, where it leaves no trace
module _ (Stretch : Machine → List Made → Type 0) (strike : rules.Call → Bool) (Ruled : List rules.Call → World → Type 0)
    (judged : (m : Machine) (stretch : List Made) → RunFrom m stretch → Stretch m stretch → Ruled (calls_of stretch) (world_at m))
    (ruled : (w : World) (pre stretch post : List rules.Call) → Ruled stretch (after pre w) → NoTrace strike pre stretch post w) where
  no-trace-from : (m : Machine) → NoTraceOf Stretch strike m m
  no-trace-from m pre stretch post rest run d other e =
      record {
        same-answers =
            ap (select remains) (gave-are m whole run) ∙ select-map answer_as remains (answers_of whole)
            ∙ ap (map answer_as) same ∙ sym (gave-are m rest other);
        same_parts = same;
        same_end = machine-of (end m whole) (end m rest) (whole-ends ∙ no-trace.same_end ∙ sym rest-ends);
      }
    where
      whole : List Made
      whole = pre ++ (stretch ++ post)

      w : World
      w = world_at m

      remains : List Bool
      remains = remaining_of strike pre stretch post

      calls : List rules.Call
      calls = calls_of pre ++ (calls_of stretch ++ calls_of post)

      parted : calls_of whole ≡ calls
      parted = calls-append pre (stretch ++ post) ∙ ap (λ (l : List rules.Call). calls_of pre ++ l) (calls-append stretch post)

      chosen : calls_of rest ≡ select remains calls
      chosen = e ∙ ap (select remains) parted

      no-trace : NoTrace strike (calls_of pre) (calls_of stretch) (calls_of post) w
      no-trace =
          ruled w (calls_of pre) (calls_of stretch) (calls_of post)
          (subst (Ruled (calls_of stretch)) (ends m pre (run-first m pre (stretch ++ post) run))
          (judged (end m pre) stretch (run-first (end m pre) stretch post (run-rest m pre (stretch ++ post) run)) d))

      whole-ends : world_at (end m whole) ≡ after calls w
      whole-ends = ends m whole run ∙ ap (λ (cs : List rules.Call). after cs w) parted

      rest-ends : world_at (end m rest) ≡ after (select remains calls) w
      rest-ends = ends m rest other ∙ ap (λ (cs : List rules.Call). after cs w) chosen

      whole-answers : answers_of whole ≡ answers calls w
      whole-answers = answers-are m whole run ∙ ap (λ (cs : List rules.Call). answers cs w) parted

      rest-answers : answers_of rest ≡ answers (select remains calls) w
      rest-answers = answers-are m rest other ∙ ap (λ (cs : List rules.Call). answers cs w) chosen

      same : select remains (answers_of whole) ≡ answers_of rest
      same = ap (select remains) whole-answers ∙ no-trace.same-answers ∙ sym rest-answers

-- ---- after a start

-- what a start leaves depends on its figures and the memory that it found alone
started-at : (s : StartMade) → AcceptedStart s → world_at (start_left s) ≡ started s.figures s.memory
started-at s a = a.promised.1 ∙ start-leaves s.figures s.found s.memory (start-ready s a)

same_start : (s t : StartMade) → AcceptedStart s → AcceptedStart t → s.figures ≡ t.figures → s.memory ≡ t.memory → start_left s ≡ start_left t
same_start s t a b f e = machine-of (start_left s) (start_left t) (started-at s a ∙ ap₂ started f e ∙ sym (started-at t b))

module _ (Stretch : Machine → List Made → Type 0) (strike : rules.Call → Bool) where
  no-trace-left : ((m : Machine) → NoTraceOf Stretch strike m m) → LeavesNoTrace Stretch strike
  no-trace-left h = record {
    from-any = h;
    after-start = λ s t a b f e. subst (NoTraceOf Stretch strike (start_left s)) (same_start s t a b f e) (h (start_left s));
  }

pub dropped-of-code : DroppedOfCode
dropped-of-code n =
    no-trace-left (DroppedFor n) (struck n)
    (no-trace-from (DroppedFor n) (struck n) (Dropped n) (dropped-as n) (λ w. dropped-stretch w n))

pub restored-of-code : RestoredOfCode
restored-of-code x n =
    no-trace-left (RestoredTo x n) (struck_too n)
    (no-trace-from (RestoredTo x n) (struck_too n) (Restored x n) (restored-as x n) (λ w. restored-stretch w x n))

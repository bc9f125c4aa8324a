-- Demand 3: the dropped stretch leaves no trace.
-- The struck run stands, at each call, at the whole run's world with everything numbered n or more squashed. A world that is not well
-- formed refuses every call and stays as it is, so a stretch that ends in an accepted abort was well formed throughout.
use Prim.Native.Nat.{ℕ, ◌+◌, ◌≤◌, ◌<◌}
use mathlib.Core.Path.{◌≡◌}
use mathlib.Core.Bool.{true, false, not, ◌||◌, false≢true}
use mathlib.Core.List.{List, [], ◌∷◌}
use native.Mathlib.Omega.{arith}
use lib.Dec.{ltb, leb}
use borrow.Author.Tests.{ltb-false, leb-false, not-true}
use Rattle.lists.specs.Padded.{every}
use Rattle.lists.proofs.Cond.{and_left, and_right, or_left, or_right, truth}
use Rattle.rules.specs.declared.Figures.{Figures}
use Rattle.rules.specs.Shape.{Queues, Hierarchy, World}
use Rattle.rules.specs.Calls.{Call, Outcome, abort, is_accepted, next_number, squash, abort_rule}
use Rattle.rules.specs.WellFormed.{well_formed}
use Rattle.rules.specs.Runs.{outcome, answer, next, after, start_world}
use Rattle.rules.specs.Kept.{Formed}
use Rattle.rules.specs.Dropped.{struck, NoAbortBelow, Dropped, DroppedStretch, DroppedAfterStart, is_checkpoint_call, aborts_below}
use Rattle.rules.proofs.Checks.{outcome-by}
use Rattle.rules.proofs.QueueView.{parts}
use Rattle.rules.specs.Checkpoints.{forget_above}
use Rattle.rules.proofs.Checkpoints.{checkpoints-tell, checkpoints-are, above-formed, above-forgets, above-none}
use Rattle.rules.proofs.InForce.{checkpoints-of}
use Rattle.rules.proofs.SquashFormed.{squash-formed}
use Rattle.rules.proofs.Struck.{Above, outcome-steady}
use Rattle.rules.proofs.Squashed.{squashed, squashed-self, Inside, inside-struck, inside-same, none_first, formed-before}
use Rattle.rules.proofs.RunLaws.{after-append, Agree, agree, Alone, alone, within}

module _ (n : ℕ) (w : World) (low : n ≤ next_number w.queues) (c : Call) (quiet : is_checkpoint_call c ≡ false) (f : Above n c (answer c w)) where
  next_low : n ≤ next_number (next c w).queues
  unfolding next answer
  next_low = (outcome-steady n w.queues w.hierarchy low c quiet f).low

  next-rises : w.queues.committed ≤ (next c w).queues.committed
  unfolding next answer
  next-rises = (outcome-steady n w.queues w.hierarchy low c quiet f).rises

-- ---- a stretch

-- no set or return call is in it
abbrev Quiet : List Call → Type 0
Quiet cs = every (λ c. not (is_checkpoint_call c)) cs ≡ true

quiet-first : (c : Call) (cs : List Call) → Quiet (c ∷ cs) → is_checkpoint_call c ≡ false
unfolding every
quiet-first c cs e = not-true (is_checkpoint_call c) (and_left _ _ e)

quiet-rest : (c : Call) (cs : List Call) → Quiet (c ∷ cs) → Quiet cs
unfolding every
quiet-rest c cs e = and_right (not (is_checkpoint_call c)) _ e

module _ (n : ℕ) where
  rises :
      (cs : List Call) (w : World) → Formed (after cs w) → n ≤ next_number w.queues → NoAbortBelow n cs w → Quiet cs
      → w.queues.committed ≤ (after cs w).queues.committed
  unfolding after
  rises [] w wf low nb quiet = omega arith
  rises (c ∷ cs) w wf low nb quiet =
      omega (arith, next-rises n w low c (quiet-first c cs quiet) a, rises cs (next c w) wf (next_low n w low c (quiet-first c cs quiet) a) nb.1 (quiet-rest c cs quiet))
    where
      a : Above n c (answer c w)
      a = none_first (aborts_below n) c cs w nb

  -- what holds of the rest of a dropped stretch
  record Live (cs : List Call) (w : World) : Type 0 where
    ends-formed : Formed (after cs w)
    low : n ≤ next_number w.queues
    above : NoAbortBelow n cs w
    quiet : Quiet cs
    early : (after cs w).queues.committed < n

  module _ (c : Call) (cs : List Call) (w : World) (l : Live (c ∷ cs) w) where
    no_lower : Above n c (answer c w)
    no_lower = none_first (aborts_below n) c cs w l.above

    silent : is_checkpoint_call c ≡ false
    silent = quiet-first c cs l.quiet

    later : Live cs (next c w)
    unfolding after
    later = record {
      ends-formed = l.ends-formed;
      low = next_low n w l.low c silent no_lower;
      above = l.above.1;
      quiet = quiet-rest c cs l.quiet;
      early = l.early;
    }

    next-early : (next c w).queues.committed < n
    next-early = omega (arith, later.early, rises cs (next c w) later.ends-formed later.low later.above later.quiet)

    inside : Inside (forget_above n) n c w
    inside =
        let wf : Formed w = formed-before (c ∷ cs) w l.ends-formed in
        let behind : w.queues.committed < n = omega (arith, next-early, next-rises n w l.low c silent no_lower) in
        record {
          formed = wf;
          behind = behind;
          low = l.low;
          next-early = next-early;
          no_lower = no_lower;
          marks = above-forgets n w.queues.checkpoints;
          left-formed = checkpoints-are _ _ _ (above-formed w.queues.committed w.queues.last n w.queues.checkpoints (omega arith) (checkpoints-of w wf));
        }

    hides : struck n c ≡ true → squashed (forget_above n) n (next c w) ≡ squashed (forget_above n) n w
    hides s = inside-struck (forget_above n) n c w inside s

    same : struck n c ≡ false → (answer c (squashed (forget_above n) n w) ≡ answer c w) × (next c (squashed (forget_above n) n w) ≡ squashed (forget_above n) n (next c w))
    same s = inside-same (forget_above n) n c w inside s silent

-- ---- the whole run

-- an accepted abort naming n makes n the next operation number, and leaves a well-formed world
record Landed (n : ℕ) (o : Outcome) : Type 0 where
  lands : next_number o.queues ≡ n
  stays-formed : well_formed o.queues o.hierarchy ≡ true

landing : (n : ℕ) (q : Queues) (b : Hierarchy) → is_accepted (outcome (abort n) q b).answer ≡ true → Landed n (outcome (abort n) q b)
unfolding abort_rule every
landing n q b =
    outcome-by (abort n) q b (λ o. is_accepted o.answer ≡ true → Landed n o) (λ k e. absurd (false≢true e))
    (λ fit wf p e.
    let t = not-true (leb n q.committed || ltb (q.last + 1) n) (and_left _ true p) in
    let behind : q.committed < n = leb-false n q.committed (or_left _ _ t) in
    let low : n ≤ q.last + 1 = ltb-false (q.last + 1) n (or_right (leb n q.committed) _ t) in
    record {
      lands = unfold squash in omega arith;
      stays-formed =
          squash-formed (forget_above n) n q b behind low
          (checkpoints-are _ _ _ (above-formed q.committed q.last n q.checkpoints (omega arith) (checkpoints-tell _ _ _ (parts q b wf).marks))) wf;
    })

module _ (n : ℕ) where
  -- a dropped stretch ends with n as the next operation number
  ends_at : (cs : List Call) (w : World) → Dropped n cs w → (next_number (after cs w).queues ≡ n) × Formed (after cs w)
  unfolding after next answer
  ends_at cs w d =
      let v : World = after d.body w in
      let l : Landed n (outcome (abort n) v.queues v.hierarchy) = landing n v.queues v.hierarchy (truth _ d.accepted) in
      rw (d.ends, after-append d.body (abort n ∷ []) w) (l.lands, l.stays-formed)

  stretch-alone : (cs : List Call) (w : World) → Dropped n cs w → Alone (struck n) cs w
  stretch-alone cs w d = alone (struck n) (squashed (forget_above n) n) cs w before behind both-agree
    where
      formed-end : Formed (after cs w)
      formed-end = (ends_at cs w d).1

      self : (v : World) → Formed v → next_number v.queues ≡ n → squashed (forget_above n) n v ≡ v
      self v wf e = squashed-self (forget_above n) n v wf e (above-none v.queues.committed v.queues.last n v.queues.checkpoints e (checkpoints-of v wf))

      before : squashed (forget_above n) n w ≡ w
      before = self w (formed-before cs w formed-end) d.opens

      behind : squashed (forget_above n) n (after cs w) ≡ after cs w
      behind = self (after cs w) formed-end (ends_at cs w d).0

      both-agree : Agree (struck n) (squashed (forget_above n) n) cs w
      both-agree = agree (struck n) (squashed (forget_above n) n) (Live n) (later n) (hides n) (same n) cs w (record {
        ends-formed = formed-end;
        low = omega (arith, d.opens);
        above = d.above;
        quiet = d.quiet;
        early = omega (arith, (ends_at cs w d).0, (parts (after cs w).queues (after cs w).hierarchy formed-end).order);
      })

-- Demand 3, from any world on
pub dropped-stretch : (w : World) → DroppedStretch w
dropped-stretch w n pre stretch post d = within (struck n) pre stretch post w (stretch-alone n stretch (after pre w) d)

-- Demand 3, after an accepted start, whatever memory and cache bytes it found
pub dropped-after-start : (f : Figures) (cache memory : List ℕ) → DroppedAfterStart f cache memory
dropped-after-start f cache memory e = dropped-stretch (start_world f cache memory)

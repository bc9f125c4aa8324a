-- Worlds from which the entries numbered n or more are squashed and some checkpoints forgotten (`forget`): one call of a stretch, on them
-- and on the whole world. A world that is not well formed refuses every call and stays as it is.
use Prim.Native.Nat.{ℕ, ◌-◌, ◌≤◌, ◌<◌}
use mathlib.Core.Path.{◌≡◌, refl, sym, ap, ap₂, subst}
use mathlib.Core.Bool.{Bool, true, false}
use mathlib.Core.List.{List, [], ◌∷◌}
use native.Mathlib.Omega.{arith}
use lib.Dec.{T}
use borrow.Author.Tests.{lt-leb}
use Rattle.lists.proofs.Cond.{cases, wrong}
use Rattle.lists.proofs.Sweep.{sweep-none}
use Rattle.rules.specs.declared.Checkpoint.{Checkpoint}
use Rattle.rules.specs.Shape.{World, world, no_store, no_load}
use Rattle.rules.specs.Calls.{Call, Outcome, is_accepted, next_number, young_store, young_load, squash}
use Rattle.rules.specs.WellFormed.{well_formed, checkpoints_formed}
use Rattle.rules.specs.Runs.{outcome, answer, next, after}
use Rattle.rules.specs.Kept.{Formed}
use Rattle.rules.specs.Dropped.{struck, is_checkpoint_call, NoneAccepted}
use Rattle.rules.proofs.Checks.{outcome-by}
use Rattle.rules.proofs.Checkpoints.{Forgets}
use Rattle.rules.proofs.QueueView.{parts, good_store, good_load, store_low, load_low}
use Rattle.rules.proofs.Squash.{squashed_outcome}
use Rattle.rules.proofs.SquashFormed.{squash-formed}
use Rattle.rules.proofs.Struck.{Hidden, Above, outcome-hidden, outcome-squash}

-- the world without what is numbered n or more, and without the checkpoints that are forgotten
abbrev pub squashed : (List Checkpoint → List Checkpoint) → ℕ → World → World
squashed forget n w = world (squash forget n w.queues) w.hierarchy

-- where n is the next number, nothing is squashed
pub squashed-self :
    (forget : List Checkpoint → List Checkpoint) (n : ℕ) (w : World) → Formed w → next_number w.queues ≡ n
    → forget w.queues.checkpoints ≡ w.queues.checkpoints → squashed forget n w ≡ w
unfolding squash
squashed-self forget n w wf e f =
    let p = parts w.queues w.hierarchy wf in
    let last = w.queues.last in
    let h = w.queues.committed in
    λ i. world
    (record {
      last = numbers i;
      committed = h;
      request = w.queues.request;
      stores =
          sweep-none (young_store n) no_store (good_store w.hierarchy last) (λ s g. lt-leb n s.number (omega (arith, store_low w.hierarchy last s g)))
          w.queues.stores p.stores-good i;
      loads =
          sweep-none (young_load n) no_load (good_load w.hierarchy last h w.queues.stores)
          (λ l g. lt-leb n l.number (omega (arith, load_low w.hierarchy last h w.queues.stores l g))) w.queues.loads p.loads-good i;
      checkpoints = f i;
    })
    w.hierarchy
  where
    numbers : n - 1 ≡ w.queues.last
    numbers = omega arith

-- ---- one call of a stretch

pub record Inside (forget : List Checkpoint → List Checkpoint) (n : ℕ) (c : Call) (w : World) : Type 0 where
  pub formed : Formed w
  -- h is below n, before and after the call, and the next number is not
  pub behind : w.queues.committed < n
  pub low : n ≤ next_number w.queues
  pub next-early : (next c w).queues.committed < n
  -- it is no accepted abort naming less than n
  pub no_lower : Above n c (answer c w)
  pub marks : Forgets forget n w.queues.checkpoints
  pub left-formed : checkpoints_formed w.queues.committed (n - 1) (forget w.queues.checkpoints) ≡ true

module _ (forget : List Checkpoint → List Checkpoint) (n : ℕ) (c : Call) (w : World) (i : Inside forget n c w) where
  pub inside-struck : struck n c ≡ true → squashed forget n (next c w) ≡ squashed forget n w
  unfolding next
  inside-struck s =
      let o : Hidden forget n w.queues w.hierarchy (outcome c w.queues w.hierarchy) = outcome-hidden forget n w.queues w.hierarchy i.behind i.low i.formed i.marks c s in
      ap₂ world o.same-queues o.same-hierarchy

  module _ (s : struck n c ≡ false) (quiet : is_checkpoint_call c ≡ false) where
    outcome-same : outcome c (squash forget n w.queues) w.hierarchy ≡ squashed_outcome forget n (outcome c w.queues w.hierarchy)
    unfolding next answer
    outcome-same =
        outcome-squash n w.queues w.hierarchy i.low forget i.behind i.marks i.formed
        (squash-formed forget n w.queues w.hierarchy i.behind i.low i.left-formed i.formed) c s quiet i.no_lower i.next-early

    pub inside-same : (answer c (squashed forget n w) ≡ answer c w) × (next c (squashed forget n w) ≡ squashed forget n (next c w))
    unfolding answer next
    inside-same = (ap (λ (o : Outcome). o.answer) outcome-same, ap (λ (o : Outcome). world o.queues o.hierarchy) outcome-same)

-- ---- a stretch

holds : {t : Bool} → t ≡ true → T t
holds e = subst T (sym e) tt

-- of a stretch in which no call that passes the test is accepted, the first call
pub none_first : (test : Call → Bool) (c : Call) (cs : List Call) (w : World) → NoneAccepted test (c ∷ cs) w → test c ≡ true → is_accepted (answer c w) ≡ false
none_first test c cs w nb t = cases (is_accepted (answer c w)) (λ e. absurd (nb.0 (holds t) (holds e))) (λ e. e)

-- a world that is not well formed refuses every call and stays as it is
stuck : (c : Call) (w : World) → well_formed w.queues w.hierarchy ≡ false → next c w ≡ w
unfolding next
stuck c w e =
    outcome-by c w.queues w.hierarchy (λ o. world o.queues o.hierarchy ≡ w) (λ k. refl) (λ fit wf p. wrong wf e)

all-stuck : (cs : List Call) (w : World) → well_formed w.queues w.hierarchy ≡ false → after cs w ≡ w
unfolding after
all-stuck [] w e = refl
all-stuck (c ∷ cs) w e = rw (stuck c w e) (all-stuck cs w e)

-- so a run that ends well formed was well formed at each call
pub formed-before : (cs : List Call) (w : World) → Formed (after cs w) → Formed w
formed-before cs w h =
    cases (well_formed w.queues w.hierarchy) (λ e. e) (λ e. subst Formed (all-stuck cs w e) h)

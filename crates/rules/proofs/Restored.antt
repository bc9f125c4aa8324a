-- 02: a stretch from setting a mark to the accepted return to it leaves no trace.
-- The struck run stands, at each call between them, at the whole run's world with everything numbered n or more squashed, and the mark
-- and all set later forgotten. The mark is in force throughout, since it is at the end and is not set again: so h is below n, and the next
-- number is n or more.
use Prim.Native.Nat.{ℕ, ◌+◌, ◌-◌, ◌≤◌, ◌<◌}
use mathlib.Core.Path.{◌≡◌, refl, sym, ◌∙◌, ap, ap₂, subst}
use mathlib.Core.Bool.{Bool, true, false, not, false≢true}
use mathlib.Core.List.{List, [], ◌∷◌, ◌++◌}
use mathlib.Core.Option.{Option, some, none}
use native.Mathlib.Omega.{arith}
use lib.Dec.{leb, eqb}
use borrow.Author.Tests.{ltb-true, eqb-true, eqb-false, ne_eqb, eq-eqb, not-true}
use Rattle.lists.specs.Padded.{every, first}
use Rattle.lists.proofs.Cond.{either, cases, and_left, or_left, or_right, or-one, or-two, or-then, truth, wrong}
use Rattle.lists.proofs.Every.{every-imp, every-placed, every-without, every-changed}
use Rattle.lists.proofs.Some.{any-first, any-every, none-every}
use Rattle.lists.proofs.Cut.{every-cut, every-each, none-cut}
use Rattle.rules.specs.declared.LoadEntry.{LoadEntry}
use Rattle.rules.specs.declared.Figures.{Figures}
use Rattle.rules.specs.declared.Checkpoint.{Checkpoint}
use Rattle.rules.specs.Shape.{Queues, Hierarchy, World, world, no_load, no_checkpoint, is_free_checkpoint}
use Rattle.rules.specs.Forward.{load_value}
use Rattle.rules.specs.Checkpoints.{named, in_use, number_of, rank_at, add_checkpoint, above, forget_above, at_most, forget_up_to, forget_from}
use Rattle.rules.specs.Calls.{Call, Answer, Outcome, load, store, retry, commit, abort, idle, reply, flush, show, checkpoint, restore, preview, kept, checkpointed, is_accepted, next_number, waiting_at, load_rule, store_rule, answer_load, retry_with, retry_rule, commit_rule, squash, abort_rule, checkpoint_rule, restore_rule, can_drain, can_request_load, can_request_store, idle_rule, reply_rule, flush_rule, show_rule, rule, preview_rule}
use Rattle.rules.specs.WellFormed.{well_formed}
use Rattle.rules.specs.Runs.{outcome, answer, next, after, start_world}
use Rattle.rules.specs.Numbers.{number_after}
use Rattle.rules.specs.Kept.{Formed}
use Rattle.rules.specs.Dropped.{struck, struck_too, is_checkpoint_call, sets_checkpoint, aborts_below, NoneAccepted, RestoredStretch, RestoredAfterStart}
use Rattle.rules.proofs.Checks.{outcome-by, rule-accepts}
use Rattle.rules.proofs.Numbers.{next-number}
use Rattle.rules.proofs.Checkpoints.{checkpoints-tell, checkpoints-are, numbered_at, before-sets, before-restores, before-again, before-set, before-none}
use Rattle.rules.proofs.QueueView.{parts}
use Rattle.rules.proofs.Struck.{Hidden, squash-hidden}
use Rattle.rules.proofs.Squashed.{squashed, squashed-self, Inside, inside-struck, inside-same, none_first, formed-before}
use Rattle.rules.proofs.RunLaws.{after-append, Agree, agree-none, agree-struck, agree_then, Alone, alone, within}
use Rattle.rules.proofs.Entries.{checkpoint-checked, restore-checked}
use Rattle.rules.proofs.InForce.{checkpoints-of, Standing, mark-number, stands-behind, stands-low, stands-forgets, stands-left, stands-formed}

-- ---- a test that every mark passes is kept, if other names pass it and ranks do not count

module _ (x : ℕ) (r : Checkpoint → Bool) (others : (c : Checkpoint) → named x c ≡ false → r c ≡ true) (unranked : (i : ℕ) (c : Checkpoint) → r c ≡ true → r (rank_at i c) ≡ true) where
  hollow : r no_checkpoint ≡ true
  hollow = others no_checkpoint refl

  module _ (q : Queues) (b : Hierarchy) (g : every r q.checkpoints ≡ true) where
    abbrev Kept : Outcome → Type 0
    Kept o = every r o.queues.checkpoints ≡ true

    retry-kept : (i : ℕ) (l : LoadEntry) (v : Option ℕ) → Kept (retry_with i l v q b)
    unfolding retry_with answer_load
    retry-kept i l none = g
    retry-kept i l (some v) = either Kept (leb i q.committed) (λ e. g) (λ e. g)

    other_name : (y i : ℕ) → eqb y x ≡ false → named x (record { name = y; number = i; rank = 0 }) ≡ false
    other_name y i e = cases (eqb i 0) (λ f. rw f) (λ f. rw (f, e))

    rule-kept : (c : Call) → sets_checkpoint x c ≡ false → Kept (rule c q b)
    unfolding load_rule store_rule retry_rule commit_rule forget_up_to abort_rule squash forget_above idle_rule reply_rule flush_rule show_rule preview_rule checkpoint_rule add_checkpoint restore_rule forget_from
    rule-kept (load a w) s = g
    rule-kept (store a w v) s = g
    rule-kept (retry i) s =
        let l = first (waiting_at i) no_load q.loads in
        retry-kept i l (load_value i l.address l.width q.stores b)
    rule-kept (commit k) s = every-each rank_at r r unranked 0 _ (every-without r r (at_most k) no_checkpoint hollow (λ c t j. t) q.checkpoints g)
    rule-kept (abort n) s = every-changed r r (above n) (λ c. no_checkpoint) (λ c t j. hollow) (λ c t j. t) q.checkpoints g
    rule-kept idle s =
        either Kept (can_drain q b) (λ e. g)
        (λ e. either Kept (can_request_load q b) (λ e. g) (λ e. either Kept (can_request_store q b) (λ e. g) (λ e. g)))
    rule-kept reply s = g
    rule-kept flush s = g
    rule-kept (show a) s = g
    rule-kept (checkpoint y) s = every-each rank_at r r unranked 0 _ (every-placed r is_free_checkpoint _ q.checkpoints (others _ (other_name y (next_number q) s)) g)
    rule-kept (restore y) s = every-cut (named y) no_checkpoint r hollow q.checkpoints g
    rule-kept preview s = g

  next-keeps : (c : Call) (w : World) → (sets_checkpoint x c ≡ true → is_accepted (answer c w) ≡ false) → every r w.queues.checkpoints ≡ true → every r (next c w).queues.checkpoints ≡ true
  unfolding next answer
  next-keeps c w f g =
      outcome-by c w.queues w.hierarchy (λ o. (sets_checkpoint x c ≡ true → is_accepted o.answer ≡ false) → every r o.queues.checkpoints ≡ true)
      (λ k h. g)
      (λ fit wf p h. rule-kept w.queues w.hierarchy g c (cases (sets_checkpoint x c) (λ t. wrong (rule-accepts w.queues w.hierarchy c) (h t)) (λ t. t)))
      f

  after-keeps : (cs : List Call) (w : World) → NoneAccepted (sets_checkpoint x) cs w → every r w.queues.checkpoints ≡ true → every r (after cs w).queues.checkpoints ≡ true
  unfolding after
  after-keeps [] w s g = g
  after-keeps (c ∷ cs) w s g = after-keeps cs (next c w) s.1 (next-keeps c w (none_first (sets_checkpoint x) c cs w s) g)

-- the squashed queues, with other marks
abbrev with-marks : ℕ → ℕ → Queues → List Checkpoint → Queues
with-marks x n q cs = record {
  last = n - 1;
  committed = q.committed;
  request = q.request;
  stores = (squash (forget_from x) n q).stores;
  loads = (squash (forget_from x) n q).loads;
  checkpoints = cs;
}

-- ---- the mark, while it is in force

-- a number after an accepted abort naming less than n is below n
lower-number : (n : ℕ) (c : Call) (r : Answer) (i : ℕ) → aborts_below n c ≡ true → number_after c r i < n
lower-number n (load a w) r i t = absurd (false≢true t)
lower-number n (store a w v) r i t = absurd (false≢true t)
lower-number n (retry j) r i t = absurd (false≢true t)
lower-number n (commit k) r i t = absurd (false≢true t)
lower-number n (abort m) r i t = ltb-true m n t
lower-number n idle r i t = absurd (false≢true t)
lower-number n reply r i t = absurd (false≢true t)
lower-number n flush r i t = absurd (false≢true t)
lower-number n (show a) r i t = absurd (false≢true t)
lower-number n (checkpoint x) r i t = absurd (false≢true t)
lower-number n (restore x) r i t = absurd (false≢true t)
lower-number n preview r i t = absurd (false≢true t)

module _ (x n : ℕ) where
  -- ---- one call, between two worlds where the mark is in force

  module _ (c : Call) (w : World) (s : Standing x n w) (s' : Standing x n (next c w)) where
    inside : Inside (forget_from x) n c w
    inside = record {
      formed = s.well;
      behind = stands-behind x n w s;
      low = stands-low x n w s;
      next-early = stands-behind x n (next c w) s';
      no_lower = λ t. cases (is_accepted (answer c w))
          (λ e. let no : ⊥ = omega (arith, lower-number n c (answer c w) (next_number w.queues) t, next-number c w e, stands-low x n (next c w) s') in absurd no)
          (λ e. e);
      marks = stands-forgets x n w s;
      left-formed = checkpoints-are _ _ _ (stands-left x n w s);
    }

  module _ (q : Queues) (b : Hierarchy) (s : Standing x n (world q b)) where
    set-hidden : (y : ℕ) → Hidden (forget_from x) n q b (checkpoint_rule y q b)
    unfolding checkpoint_rule squash
    set-hidden y = record {
      same-queues =
          ap (with-marks x n q)
          (before-sets x n q.committed q.last q.checkpoints (omega (arith, stands-behind x n (world q b) s)) (checkpoints-of (world q b) s.well) s.numbered s.used y (next_number q));
      same-hierarchy = refl;
    }

    -- a return to a mark set later, after which x is in force
    return-hidden :
        (y : ℕ) → in_use y q.checkpoints ≡ true → in_use x (restore_rule y q b).queues.checkpoints ≡ true → n ≤ next_number (restore_rule y q b).queues
        → Hidden (forget_from x) n q b (restore_rule y q b)
    unfolding restore_rule
    return-hidden y u still low = record {
      same-queues =
          squash-hidden (forget_from x) n q b (stands-behind x n (world q b) s) (stands-low x n (world q b) s) s.well (stands-forgets x n (world q b) s) (forget_from y) (number_of y q.checkpoints) later
          (before-restores x y q.checkpoints other (unfold squash in still));
      same-hierarchy = refl;
    }
      where
        other : eqb y x ≡ false
        other = cases (eqb y x) (λ e. wrong (subst (λ (z : ℕ). in_use x (forget_from z q.checkpoints) ≡ true) (eqb-true y x e) (unfold squash in still)) (unfold forget_from in (none-cut (named x) no_checkpoint refl q.checkpoints))) (λ e. e)

        later : n ≤ number_of y q.checkpoints
        later =
            let after-it : n ≤ number_of y q.checkpoints - 1 + 1 = unfold squash in low in
            omega (arith, after-it, eqb-false (number_of y q.checkpoints) 0 (not-true _ (and_left _ _ (any-first (named y) no_checkpoint q.checkpoints u))))

    -- every set or return call is hidden, if x is in force after it
    mark-hidden :
        (c : Call) → is_checkpoint_call c ≡ true → in_use x (outcome c q b).queues.checkpoints ≡ true → n ≤ next_number (outcome c q b).queues
        → Hidden (forget_from x) n q b (outcome c q b)
    unfolding every
    mark-hidden (load a w) t = absurd (false≢true t)
    mark-hidden (store a w v) t = absurd (false≢true t)
    mark-hidden (retry i) t = absurd (false≢true t)
    mark-hidden (commit k) t = absurd (false≢true t)
    mark-hidden (abort m) t = absurd (false≢true t)
    mark-hidden idle t = absurd (false≢true t)
    mark-hidden reply t = absurd (false≢true t)
    mark-hidden flush t = absurd (false≢true t)
    mark-hidden (show a) t = absurd (false≢true t)
    mark-hidden (checkpoint y) t =
        outcome-by (checkpoint y) q b (λ o. in_use x o.queues.checkpoints ≡ true → n ≤ next_number o.queues → Hidden (forget_from x) n q b o)
        (λ k u l. record { same-queues = refl; same-hierarchy = refl }) (λ fit wf p u l. set-hidden y)
    mark-hidden (restore y) t =
        outcome-by (restore y) q b (λ o. in_use x o.queues.checkpoints ≡ true → n ≤ next_number o.queues → Hidden (forget_from x) n q b o)
        (λ k u l. record { same-queues = refl; same-hierarchy = refl })
        (λ fit wf p u l. return-hidden y (restore-checked q b y p) u l)
    mark-hidden preview t = absurd (false≢true t)

  -- ---- the calls between the setting and the return

  record Live (cs : List Call) (w : World) : Type 0 where
    ends-formed : Formed (after cs w)
    ends-used : in_use x (after cs w).queues.checkpoints ≡ true
    at : every (numbered_at x n) w.queues.checkpoints ≡ true
    same : NoneAccepted (sets_checkpoint x) cs w

  -- it is in force, since it is at the end
  standing : (cs : List Call) (w : World) → Live cs w → Standing x n w
  standing cs w l = record {
    well = formed-before cs w l.ends-formed;
    used = cases (in_use x w.queues.checkpoints) (λ t. t)
        (λ t. wrong l.ends-used (none-every (λ c. not (named x c)) (named x) (λ c k. not-true _ k) (after cs w).queues.checkpoints
        (after-keeps x (λ c. not (named x c)) (λ c k. ap not k) (λ i c k. k) cs w l.same (any-every (named x) w.queues.checkpoints t))));
    numbered = l.at;
  }

  module _ (c : Call) (cs : List Call) (w : World) (l : Live (c ∷ cs) w) where
    later : Live cs (next c w)
    unfolding after
    later = record {
      ends-formed = l.ends-formed;
      ends-used = l.ends-used;
      at = next-keeps x (numbered_at x n) (λ d k. or-one (not (named x d)) _ (ap not k)) (λ i d k. k) c w (none_first (sets_checkpoint x) c cs w l.same) l.at;
      same = l.same.1;
    }

    here : Standing x n w
    here = standing (c ∷ cs) w l

    there : Standing x n (next c w)
    there = standing cs (next c w) later

    hides : struck_too n c ≡ true → squashed (forget_from x) n (next c w) ≡ squashed (forget_from x) n w
    unfolding next
    hides t =
        cases (struck n c) (λ s. inside-struck (forget_from x) n c w (inside c w here there) s)
        (λ s.
        let o : Hidden (forget_from x) n w.queues w.hierarchy (outcome c w.queues w.hierarchy) = mark-hidden w.queues w.hierarchy here c (or-then (struck n c) _ t s) there.used (stands-low x n (next c w) there) in
        ap₂ world o.same-queues o.same-hierarchy)

    alike : struck_too n c ≡ false → (answer c (squashed (forget_from x) n w) ≡ answer c w) × (next c (squashed (forget_from x) n w) ≡ squashed (forget_from x) n (next c w))
    alike t = inside-same (forget_from x) n c w (inside c w here there) (or_left _ _ t) (or_right (struck n c) _ t)

-- ---- the setting and the return

module _ (x n : ℕ) (q : Queues) (b : Hierarchy) where
  -- what an accepted setting tells and leaves
  record Opened (o : Outcome) : Type 0 where
    well : well_formed q b ≡ true
    number : next_number q ≡ n
    unused : in_use x q.checkpoints ≡ false
    hidden : Hidden (forget_from x) n q b o
    numbered : every (numbered_at x n) o.queues.checkpoints ≡ true

  set-opens : well_formed q b ≡ true → next_number q ≡ n → in_use x q.checkpoints ≡ false → Opened (checkpoint_rule x q b)
  unfolding checkpoint_rule squash
  set-opens wf e unused = record {
    well = wf;
    number = e;
    unused = unused;
    hidden = record {
      same-queues =
          ap (with-marks x n q)
          (before-set x (next_number q) q.committed q.last q.checkpoints (checkpoints-tell _ _ _ (parts q b wf).marks) (ne_eqb (next_number q) 0 (λ z. omega arith)) unused
          ∙ sym (before-none x q.checkpoints unused));
      same-hierarchy = refl;
    };
    numbered = unfold add_checkpoint in (every-each rank_at (numbered_at x n) (numbered_at x n) (λ i c k. k) 0 _
        (every-placed (numbered_at x n) is_free_checkpoint _ q.checkpoints (or-two (not (named x (record { name = x; number = next_number q; rank = 0 }))) _ (eq-eqb (next_number q) n e))
        (every-imp (λ c. not (named x c)) (numbered_at x n) (λ c k. or-one (not (named x c)) _ k) q.checkpoints (any-every (named x) q.checkpoints unused))));
  }

  opening : (outcome (checkpoint x) q b).answer ≡ checkpointed n → Opened (outcome (checkpoint x) q b)
  unfolding every
  opening =
      outcome-by (checkpoint x) q b (λ o. o.answer ≡ checkpointed n → Opened o)
      (λ k e. let z : ◌≡◌ {A = ℕ} 0 1 = cc in let no : ⊥ = omega arith in absurd no)
      (λ fit wf p e.
      let given : checkpointed (next_number q) ≡ checkpointed n = unfold checkpoint_rule in e in
      set-opens wf (cc) (checkpoint-checked q b x p).1)

  -- what an accepted return tells
  return-used : is_accepted (outcome (restore x) q b).answer ≡ true → (well_formed q b ≡ true) × (in_use x q.checkpoints ≡ true)
  unfolding every
  return-used =
      outcome-by (restore x) q b (λ o. is_accepted o.answer ≡ true → (well_formed q b ≡ true) × (in_use x q.checkpoints ≡ true)) (λ k e. absurd (false≢true e))
      (λ fit wf p e. (wf, restore-checked q b x p))

  -- and leaves, where the mark remembers n
  record Closed (o : Outcome) : Type 0 where
    lands : next_number o.queues ≡ n
    stays-formed : well_formed o.queues o.hierarchy ≡ true
    forgotten : forget_from x o.queues.checkpoints ≡ o.queues.checkpoints
    hidden : Hidden (forget_from x) n q b o

  module _ (s : Standing x n (world q b)) where
    number_at : number_of x q.checkpoints ≡ n
    number_at = mark-number x n (world q b) s

    squash-closes : Closed (record { answer = kept (n - 1); queues = squash (forget_from x) n q; hierarchy = b })
    squash-closes =
        let behind : q.committed < n = stands-behind x n (world q b) s in
        let low : n ≤ next_number q = stands-low x n (world q b) s in
        record {
          lands = unfold squash in omega arith;
          stays-formed = stands-formed x n (world q b) s;
          forgotten = unfold squash in (before-again x q.checkpoints);
          hidden = record {
            same-queues =
                squash-hidden (forget_from x) n q b behind low s.well (stands-forgets x n (world q b) s) (forget_from x) n (omega arith) (before-again x q.checkpoints);
            same-hierarchy = refl;
          };
        }

    closing : is_accepted (outcome (restore x) q b).answer ≡ true → Closed (outcome (restore x) q b)
    unfolding restore_rule
    closing =
        outcome-by (restore x) q b (λ o. is_accepted o.answer ≡ true → Closed o) (λ k e. absurd (false≢true e))
        (λ fit wf p e.
        subst (λ (m : ℕ). Closed (record { answer = kept (m - 1); queues = squash (forget_from x) m q; hierarchy = b })) (sym number_at) squash-closes)

-- ---- the whole stretch

module _
    (x n : ℕ) (w : World) (body : List Call) (sets : answer (checkpoint x) w ≡ checkpointed n)
    (returns : is_accepted (answer (restore x) (after body (next (checkpoint x) w))) ≡ true)
    (same : NoneAccepted (sets_checkpoint x) body (next (checkpoint x) w))
  where
    abbrev first-world : World
    first-world = next (checkpoint x) w

    abbrev last-world : World
    last-world = after body first-world

    opened : Opened x n w.queues w.hierarchy (outcome (checkpoint x) w.queues w.hierarchy)
    unfolding answer
    opened = opening x n w.queues w.hierarchy sets

    live : Live x n body first-world
    unfolding answer next
    live =
        let u = return-used x n last-world.queues last-world.hierarchy returns in
        record { ends-formed = u.0; ends-used = u.1; at = opened.numbered; same = same }

    -- the last world of the body
    ends-standing : Standing x n last-world
    unfolding after
    ends-standing = standing x n [] last-world (record {
      ends-formed = live.ends-formed;
      ends-used = live.ends-used;
      at = after-keeps x (numbered_at x n) (λ d k. or-one (not (named x d)) _ (ap not k)) (λ i d k. k) body first-world same live.at;
      same = tt;
    })

    closed : Closed x n last-world.queues last-world.hierarchy (outcome (restore x) last-world.queues last-world.hierarchy)
    unfolding answer
    closed = closing x n last-world.queues last-world.hierarchy ends-standing returns

    abbrev whole-stretch : List Call
    whole-stretch = checkpoint x ∷ (body ++ restore x ∷ [])

    ends_at : after whole-stretch w ≡ next (restore x) last-world
    unfolding after
    ends_at = after-append body (restore x ∷ []) first-world

    before : squashed (forget_from x) n w ≡ w
    before = squashed-self (forget_from x) n w opened.well opened.number (before-none x w.queues.checkpoints opened.unused)

    behind : squashed (forget_from x) n (next (restore x) last-world) ≡ next (restore x) last-world
    unfolding next
    behind = squashed-self (forget_from x) n (next (restore x) last-world) closed.stays-formed closed.lands closed.forgotten

    both-agree : Agree (struck_too n) (squashed (forget_from x) n) whole-stretch w
    unfolding next
    both-agree =
        agree-struck (struck_too n) (squashed (forget_from x) n) (checkpoint x) (body ++ restore x ∷ []) w refl (ap₂ world opened.hidden.same-queues opened.hidden.same-hierarchy)
        (agree_then (struck_too n) (squashed (forget_from x) n) (Live x n) (later x n) (hides x n) (alike x n) (restore x ∷ []) body first-world live
        (agree-struck (struck_too n) (squashed (forget_from x) n) (restore x) [] last-world refl (ap₂ world closed.hidden.same-queues closed.hidden.same-hierarchy)
        (agree-none (struck_too n) (squashed (forget_from x) n))))

    stretch-alone : Alone (struck_too n) whole-stretch w
    stretch-alone =
        alone (struck_too n) (squashed (forget_from x) n) whole-stretch w before
        (rw ends_at behind) both-agree

-- 02's claim, from any world on
pub restored-stretch : (w : World) → RestoredStretch w
restored-stretch w x n pre stretch post d =
    within (struck_too n) pre stretch post w
    (subst (λ (cs : List Call). Alone (struck_too n) cs (after pre w)) (sym d.shape)
    (stretch-alone x n (after pre w) d.body d.sets (truth _ d.returns) d.set-once))

-- and after an accepted start, whatever memory and cache bytes it found
pub restored-after-start : (f : Figures) (cache memory : List ℕ) → RestoredAfterStart f cache memory
restored-after-start f cache memory e = restored-stretch (start_world f cache memory)

-- Which marks each call leaves: an accepted call does its rule, and the laws of CheckpointRanks say what that makes of the list.
use Prim.Native.Nat.{ℕ, suc, ◌+◌, ◌≤◌, ◌<◌}
use mathlib.Core.Path.{◌≡◌, refl, sym, ◌∙◌, ap}
use mathlib.Core.Bool.{false}
use mathlib.Core.List.{List, [], ◌∷◌, ◌++◌, map}
use mathlib.Core.Option.{Option, some, none}
use native.Mathlib.Omega.{arith}
use lib.Dec.{leb, ltb, eqb}
use lib.ListN.{length}
use borrow.Author.Tests.{lt-leb, le-ltb, ne_eqb}
use Rattle.lists.specs.Padded.{every, filter}
use Rattle.lists.proofs.Cond.{either, wrong}
use Rattle.rules.specs.declared.Checkpoint.{Checkpoint}
use Rattle.rules.specs.declared.LoadEntry.{LoadEntry}
use Rattle.rules.specs.Shape.{Queues, Hierarchy, World}
use Rattle.rules.specs.Forward.{load_value}
use Rattle.rules.specs.Checkpoints.{number_of, add_checkpoint, forget_up_to, forget_from}
use Rattle.rules.specs.Calls.{Call, Answer, Outcome, load, store, retry, commit, abort, idle, reply, flush, show, checkpoint, restore, preview, is_accepted, call_checks, next_number, squash, load_rule, store_rule, answer_load, retry_with, retry_rule, commit_rule, abort_rule, checkpoint_rule, restore_rule, can_drain, can_request_load, can_request_store, idle_rule, reply_rule, flush_rule, show_rule, rule, preview_rule}
use Rattle.rules.specs.Runs.{outcome, answer, next}
use Rattle.rules.specs.Kept.{Formed}
use Rattle.rules.specs.CheckpointClaims.{checkpoints_of, committed_checkpoints, lowered, changes_checkpoints, SetsExactly, ReturnsExactly, AbortsExactly, CommitsExactly, CheckpointsStay, CheckpointsRanked}
use Rattle.rules.proofs.Checks.{outcome-by, done, opened, guarded-passes}
use Rattle.rules.proofs.QueueView.{parts}
use Rattle.rules.proofs.Entries.{checkpoint-checked, restore-checked, tried}
use Rattle.rules.proofs.InForce.{checkpoints-of, stands-behind, stands-low, in-force}
use Rattle.rules.proofs.Kept.{next-kept}
use Rattle.rules.proofs.Checkpoints.{ranks-stay}
use Rattle.rules.proofs.CheckpointRanks.{marks_of, place-free, set-marks, before-marks, above-marks, upto-marks}

-- ---- an accepted call

-- an abort at a number above h, the next one at most, is accepted
abort-there : (n : ℕ) (w : World) → Formed w → w.queues.committed < n → n ≤ next_number w.queues → outcome (abort n) w.queues w.hierarchy ≡ abort_rule n w.queues w.hierarchy
unfolding every
abort-there n w wf behind low =
    let q = w.queues in
    let b = w.hierarchy in
    opened (abort n) q b tt (parts q b wf).fit wf
    ∙ guarded-passes _ (call_checks (abort n) q b) (abort_rule n q b) (rw (lt-leb n q.committed behind, le-ltb (q.last + 1) n low))

-- an outcome's answer, and the marks that it leaves
abbrev answer_of : Outcome → Answer
answer_of o = o.answer

abbrev marks_after : Outcome → List Checkpoint
marks_after o = marks_of o.queues.checkpoints

-- ---- the claims

-- a setting: the new mark comes last, with the next rank
pub sets-exactly : (x : ℕ) (w : World) → SetsExactly x w
unfolding answer next checkpoint_rule add_checkpoint
sets-exactly x w e =
    let d = done (checkpoint x) w refl e in
    let cs = w.queues.checkpoints in
    let m = checkpoints-of w d.well in
    let c = checkpoint-checked w.queues w.hierarchy x d.passed in
    let pos : eqb (next_number w.queues) 0 ≡ false = ne_eqb (next_number w.queues) 0 (λ z. omega arith) in
    let place = place-free x w.queues.committed w.queues.last cs m c.0 c.1 in
    let from-0 : suc (0 + length (marks_of cs)) ≡ suc (length (marks_of cs)) = omega arith in
    record {
      answers = ap answer_of d.same;
      marks =
          ap marks_after d.same ∙ set-marks x (next_number w.queues) 0 cs pos m.last-free m.ranks place
          ∙ (λ k. marks_of cs ++ record { name = x; number = next_number w.queues; rank = from-0 k } ∷ []);
      rest = rw d.same;
    }

-- a return: the abort at its number, and the marks of a lower rank stay
pub returns-exactly : (x : ℕ) (w : World) → ReturnsExactly x w
unfolding answer next restore_rule abort_rule squash forget_from
returns-exactly x w e =
    let n : ℕ = number_of x w.queues.checkpoints in
    let d = done (restore x) w refl e in
    let m = checkpoints-of w d.well in
    let u = restore-checked w.queues w.hierarchy x d.passed in
    let s = in-force x w.queues w.hierarchy d.well u in
    let behind : w.queues.committed < n = stands-behind x n w s in
    let a = abort-there n w d.well behind (stands-low x n w s) in
    let before = before-marks x 0 w.queues.checkpoints m.last-free m.ranks u in
    record {
      answers = ap answer_of d.same ∙ sym (ap answer_of a);
      accepted = ap (λ (o : Outcome). is_accepted o.answer) a;
      rest = rw (d.same, a);
      marks = ap marks_after d.same ∙ before.lower;
      left = rw d.same (omega (arith, before.count));
      number = rw d.same (omega (arith, behind));
    }

-- an abort: the marks at or below n stay
pub aborts-exactly : (n : ℕ) (w : World) → AbortsExactly n w
unfolding answer next abort_rule squash
aborts-exactly n w e = ap marks_after (done (abort n) w refl e).same ∙ above-marks n w.queues.checkpoints

-- a commit: the marks above k stay, with lower ranks
pub commits-exactly : (k : ℕ) (w : World) → CommitsExactly k w
unfolding answer next commit_rule forget_up_to
commits-exactly k w e =
    let d = done (commit k) w refl e in
    let m = checkpoints-of w d.well in
    let cs = w.queues.checkpoints in
    let from-0 : 0 + length (committed_checkpoints k w) ≡ length (committed_checkpoints k w) = omega arith in
    ap marks_after d.same ∙ upto-marks k 0 0 0 cs m.climbs m.ranks
    ∙ ap (λ (j : ℕ). map (lowered j) (filter (λ c. ltb k c.number) (marks_of cs))) from-0

-- the rules of the other calls leave the list of checkpoints
module _ (q : Queues) (b : Hierarchy) where
  abbrev Stay : Outcome → Type 0
  Stay o = o.queues.checkpoints ≡ q.checkpoints

  retry-stays : (i : ℕ) (l : LoadEntry) (v : Option ℕ) → Stay (retry_with i l v q b)
  unfolding retry_with answer_load
  retry-stays i l none = refl
  retry-stays i l (some v) = either Stay (leb i q.committed) (λ e. refl) (λ e. refl)

  idle-stays : Stay (idle_rule q b)
  unfolding idle_rule
  idle-stays =
      either Stay (can_drain q b) (λ e. refl)
      (λ e. either Stay (can_request_load q b) (λ e. refl)
      (λ e. either Stay (can_request_store q b) (λ e. refl) (λ e. refl)))

  rule-stays : (c : Call) → changes_checkpoints c ≡ false → Stay (rule c q b)
  unfolding load_rule store_rule retry_rule reply_rule flush_rule show_rule preview_rule
  rule-stays (load a w) n = refl
  rule-stays (store a w v) n = refl
  rule-stays (retry i) n = retry-stays i (tried i q) (load_value i (tried i q).address (tried i q).width q.stores b)
  rule-stays (commit k) n = wrong refl n
  rule-stays (abort m) n = wrong refl n
  rule-stays idle n = idle-stays
  rule-stays reply n = refl
  rule-stays flush n = refl
  rule-stays (show a) n = refl
  rule-stays (checkpoint x) n = wrong refl n
  rule-stays (restore x) n = wrong refl n
  rule-stays preview n = refl

-- so every other call does
pub marks_stay : (c : Call) (w : World) → CheckpointsStay c w
unfolding next
marks_stay c w n = outcome-by c w.queues w.hierarchy (Stay w.queues w.hierarchy) (λ k. refl) (λ fit wf p. rule-stays w.queues w.hierarchy c n)

-- what a call leaves is well formed, so its ranks are right
pub marks-ranked : (c : Call) (w : World) → CheckpointsRanked c w
marks-ranked c w wf = ranks-stay 0 (checkpoints_of (next c w)) (checkpoints-of (next c w) (next-kept c w wf)).ranks

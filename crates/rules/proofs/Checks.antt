-- Checks: the first refusal that applies is given. What a call does by its checks; a refused call changes nothing; each refusal is given
-- exactly under its condition, when no earlier condition holds.
use Prim.Native.Nat.{ℕ}
use mathlib.Core.Path.{◌≡◌, refl, sym, ◌∙◌, ap, subst}
use mathlib.Core.Bool.{Bool, true, false, cond, not, ◌&&◌, false≢true}
use mathlib.Core.List.{List, [], ◌∷◌, ◌++◌}
use mathlib.Core.Option.{Option, some, none}
use lib.Dec.{leb, ltb}
use Rattle.lists.specs.Padded.{every, first}
use Rattle.lists.proofs.Cond.{either, cases, and_left, and_right, wrong}
use Rattle.lists.proofs.Every.{every-split}
use Rattle.rules.specs.declared.LoadEntry.{LoadEntry}
use Rattle.rules.specs.declared.Lookup.{Lookup}
use Rattle.rules.specs.declared.Lookup.TheVariants.{Hit, Pending, Miss}
use Rattle.rules.specs.Shape.{Queues, Hierarchy, World, fits, no_load, line_of}
use Rattle.rules.specs.Lines.{present, lookup}
use Rattle.rules.specs.Forward.{load_value}
use Rattle.rules.specs.Calls.{Call, Answer, Outcome, Check, load, store, retry, commit, abort, idle, reply, flush, show, refused, waits, waits_requested, is_accepted, unchanged, empty_part, guarded, passes, early_checks, call_checks, rule, wait_answer, load_answer, load_rule, store_rule, answer_load, retry_with, retry_rule, commit_rule, abort_rule, can_drain, can_request_load, can_request_store, idle_rule, reply_rule, flush_rule, show_rule, waiting_at, next_number, checkpoint, restore, preview, checkpoint_rule, restore_rule, preview_rule}
use Rattle.rules.specs.WellFormed.{well_formed}
use Rattle.rules.specs.Runs.{formed_check, names_refusal, refusal, outcome, answer, next}
use Rattle.rules.specs.Kept.{Formed}
use Rattle.rules.specs.Refusals.{all_checks, FirstFailing, RefusedExactly, RefusedKeeps}

-- ---- guarded

module _ {A : Type 0} (refuse : ℕ → A) where
  pub guarded-append : (ks js : List Check) (x : A) → guarded (ks ++ js) refuse x ≡ guarded ks refuse (guarded js refuse x)
  unfolding guarded
  guarded-append [] js x = refl
  guarded-append (k ∷ ks) js x = ap (cond k.applies (refuse k.number)) (guarded-append ks js x)

  -- what a call does matters only if every check passes
  pub guarded-same : (ks : List Check) (x y : A) → (passes ks ≡ true → x ≡ y) → guarded ks refuse x ≡ guarded ks refuse y
  unfolding guarded every
  guarded-same [] x y h = h refl
  guarded-same (k ∷ ks) x y h =
      cases k.applies (λ e. rw e) (λ e. rw e (guarded-same ks x y (λ p. h (rw e p))))

  pub guarded-passes : (ks : List Check) (x : A) → passes ks ≡ true → guarded ks refuse x ≡ x
  unfolding guarded every
  guarded-passes [] x p = refl
  guarded-passes (k ∷ ks) x p =
      cases k.applies (λ e. wrong refl (sym (rw e at p))) (λ e. rw e (guarded-passes ks x (rw e at p)))

  -- a fact of every refusal, and of what is done if every check passes
  pub guarded-by : (P : A → Type 0) (ks : List Check) (x : A) → ((k : ℕ) → P (refuse k)) → (passes ks ≡ true → P x) → P (guarded ks refuse x)
  unfolding guarded every
  guarded-by P [] x r h = h refl
  guarded-by P (k ∷ ks) x r h =
      cases k.applies (λ e. rw e (r k.number)) (λ e. rw e (guarded-by P ks x r (λ p. h (rw e p))))

  -- a fact of the refusals whose numbers pass a test, as those of all the checks do
  pub guarded-numbered :
      (P : A → Type 0) (t : ℕ → Bool) (ks : List Check) (x : A) → every (λ k. t k.number) ks ≡ true → ((k : ℕ) → t k ≡ true → P (refuse k)) → P x
      → P (guarded ks refuse x)
  unfolding guarded every
  guarded-numbered P t [] x n r h = h
  guarded-numbered P t (k ∷ ks) x n r h =
      either P k.applies (λ e. r k.number (and_left _ _ n))
      (λ e. guarded-numbered P t ks x (and_right (t k.number) _ n) r h)

pub guarded-map : {A B : Type 0} (f : A → B) (refuse : ℕ → A) (ks : List Check) (x : A) → f (guarded ks refuse x) ≡ guarded ks (λ k. f (refuse k)) (f x)
unfolding guarded
guarded-map f refuse [] x = refl
guarded-map f refuse (k ∷ ks) x = cases k.applies (λ e. rw e) (λ e. rw e (guarded-map f refuse ks x))

-- ---- checks 1 and 10, and the call's own between them and after them

-- none of the checks applies, one by one
abbrev pub EachPasses : List Check → Type 0
EachPasses [] = Unit {0}
EachPasses (k ∷ ks) = (k.applies ≡ false) × EachPasses ks

each-passes : (ks : List Check) → EachPasses ks → passes ks ≡ true
unfolding every
each-passes [] e = refl
each-passes (k ∷ ks) e = rw e.0 (each-passes ks e.1)

module _ (c : Call) (q : Queues) (b : Hierarchy) where
  abbrev refuse : ℕ → Outcome
  refuse k = unchanged (refusal c k) q b

  -- what the checks after 10 let the call do
  abbrev pub checked : Outcome
  checked = guarded (call_checks c q b) (λ k. unchanged (refusal c k) q b) (rule c q b)

  -- what all of the call's own checks let it do
  abbrev pub own_checks : List Check
  own_checks = early_checks c b ++ call_checks c q b

  abbrev pub decided : Outcome
  decided = guarded own_checks (λ k. unchanged (refusal c k) q b) (rule c q b)

  pub shut : fits b ≡ false → outcome c q b ≡ unchanged (refusal c 1) q b
  unfolding outcome guarded
  shut e = rw e

  after-fits : fits b ≡ true → outcome c q b ≡ guarded (early_checks c b) refuse (guarded (formed_check q b ∷ call_checks c q b) refuse (rule c q b))
  unfolding outcome guarded
  after-fits e = rw e (guarded-append refuse (early_checks c b) (formed_check q b ∷ call_checks c q b) (rule c q b))

  malformed-by : fits b ≡ true → well_formed q b ≡ false → outcome c q b ≡ guarded (early_checks c b) refuse (refuse 10)
  unfolding guarded
  malformed-by e f = after-fits e ∙ rw f

  pub opened-by : fits b ≡ true → well_formed q b ≡ true → outcome c q b ≡ decided
  unfolding guarded
  opened-by e f = after-fits e ∙ rw f (sym (guarded-append refuse (early_checks c b) (call_checks c q b) (rule c q b)))

  -- where the call's early checks pass
  module _ (early : EachPasses (early_checks c b)) where
    pub malformed : fits b ≡ true → well_formed q b ≡ false → outcome c q b ≡ unchanged (refusal c 10) q b
    malformed e f = malformed-by e f ∙ guarded-passes refuse (early_checks c b) (refuse 10) (each-passes (early_checks c b) early)

    pub opened : fits b ≡ true → well_formed q b ≡ true → outcome c q b ≡ checked
    opened e f =
        opened-by e f ∙ guarded-append refuse (early_checks c b) (call_checks c q b) (rule c q b) ∙ guarded-passes refuse (early_checks c b) checked (each-passes (early_checks c b) early)

  pub own-passes : passes own_checks ≡ true → passes (call_checks c q b) ≡ true
  own-passes p = (every-split (λ k. not k.applies) (early_checks c b) (call_checks c q b) p).1

  -- a fact of every refusal, and of the rule where every check passes
  pub outcome-by :
      (P : Outcome → Type 0) → ((k : ℕ) → P (unchanged (refusal c k) q b))
      → (fits b ≡ true → well_formed q b ≡ true → passes (call_checks c q b) ≡ true → P (rule c q b)) → P (outcome c q b)
  outcome-by P r h = cases (fits b)
      (λ e. cases (well_formed q b)
      (λ f. subst P (sym (opened-by e f)) (guarded-by refuse P own_checks (rule c q b) r (λ p. h e f (own-passes p))))
      (λ f. subst P (sym (malformed-by e f)) (guarded-by refuse P (early_checks c b) (refuse 10) r (λ p. r 10))))
      (λ e. subst P (sym (shut e)) (r 1))

-- a fact of every refusal: of its number, and of show line, which names none
pub refusal-by :
    (P : Call → Answer → Type 0) → ((c : Call) (k : ℕ) → P c (refused k)) → ((a : ℕ) → P (show a) empty_part) → (c : Call) (k : ℕ) → P c (refusal c k)
refusal-by P r h (load a w) k = r (load a w) k
refusal-by P r h (store a w v) k = r (store a w v) k
refusal-by P r h (retry i) k = r (retry i) k
refusal-by P r h (commit n) k = r (commit n) k
refusal-by P r h (abort n) k = r (abort n) k
refusal-by P r h idle k = r idle k
refusal-by P r h reply k = r reply k
refusal-by P r h flush k = r flush k
refusal-by P r h (show a) k = h a
refusal-by P r h (checkpoint x) k = r (checkpoint x) k
refusal-by P r h (restore x) k = r (restore x) k
refusal-by P r h preview k = r preview k

-- ---- a load that waits answers one of two words

pub either-word : (P : Answer → Type 0) (i : ℕ) → P (waits i) → P (waits_requested i) → (f : Lookup) → P (wait_answer i f)
either-word P i p q (Hit w) = p
either-word P i p q Pending = q
either-word P i p q Miss = p

-- ---- a rule refuses nothing

module _ (q : Queues) (b : Hierarchy) where
  abbrev Accepts : Outcome → Type 0
  Accepts o = is_accepted o.answer ≡ true

  load-accepts : (i : ℕ) (f : Lookup) (v : Option ℕ) → is_accepted (load_answer i f v) ≡ true
  load-accepts i f none = either-word (λ r. is_accepted r ≡ true) i refl refl f
  load-accepts i f (some v) = refl

  retry-accepts : (i : ℕ) (l : LoadEntry) (v : Option ℕ) → Accepts (retry_with i l v q b)
  unfolding retry_with answer_load
  retry-accepts i l none = load-accepts i (lookup q.request b (line_of l.address)) none
  retry-accepts i l (some v) = either Accepts (leb i q.committed) (λ e. refl) (λ e. refl)

  idle-accepts : Accepts (idle_rule q b)
  unfolding idle_rule
  idle-accepts =
      either Accepts (can_drain q b) (λ e. refl)
      (λ e. either Accepts (can_request_load q b) (λ e. refl)
      (λ e. either Accepts (can_request_store q b) (λ e. refl) (λ e. refl)))

  pub rule-accepts : (c : Call) → is_accepted (rule c q b).answer ≡ true
  unfolding load_rule store_rule retry_rule commit_rule abort_rule checkpoint_rule restore_rule reply_rule flush_rule show_rule preview_rule
  rule-accepts (load a w) = load-accepts (next_number q) (lookup q.request b (line_of a)) (load_value (next_number q) a w q.stores b)
  rule-accepts (store a w v) = refl
  rule-accepts (retry i) =
      let l = first (waiting_at i) no_load q.loads in
      retry-accepts i l (load_value i l.address l.width q.stores b)
  rule-accepts (commit k) = refl
  rule-accepts (abort n) = refl
  rule-accepts idle = idle-accepts
  rule-accepts reply = refl
  rule-accepts flush = refl
  rule-accepts (show a) =
      either (λ (r : Answer). is_accepted r ≡ true) (ltb a b.size && present b (line_of a)) (λ e. refl) (λ e. refl)
  rule-accepts (checkpoint x) = refl
  rule-accepts (restore x) = refl
  rule-accepts preview = refl

-- ---- an accepted call

-- o is what the rule of c does, on a well-formed state that passes its checks
pub record Done (c : Call) (w : World) (o : Outcome) : Type 0 where
  pub well : Formed w
  pub passed : passes (call_checks c w.queues w.hierarchy) ≡ true
  pub same : o ≡ rule c w.queues w.hierarchy

-- so does a call that names its refusals, where it is accepted
pub done : (c : Call) (w : World) → names_refusal c ≡ true → is_accepted (answer c w) ≡ true → Done c w (outcome c w.queues w.hierarchy)
unfolding answer
done c w n =
    outcome-by c w.queues w.hierarchy (λ o. is_accepted o.answer ≡ true → Done c w o) (λ k e. absurd (false≢true (rw n at e)))
    (λ fit wf p e. record { well = wf; passed = p; same = refl })

-- ---- a refused call changes nothing

pub refused-keeps : (c : Call) (w : World) → RefusedKeeps c w
unfolding answer next
refused-keeps c w =
    outcome-by c w.queues w.hierarchy
    (λ o. is_accepted o.answer ≡ false → ◌≡◌ {A = World} (record { queues = o.queues; hierarchy = o.hierarchy }) w)
    (λ k e. refl) (λ e f p r. wrong (rule-accepts w.queues w.hierarchy c) r)

-- ---- each refusal exactly under its condition

refusal-names : (c : Call) (k : ℕ) → names_refusal c ≡ true → refusal c k ≡ refused k
refusal-names c k e = rw e

-- the first that applies is what is given
pub first-refuses : {A : Type 0} (refuse : ℕ → A) (done : A) (k : ℕ) (ks : List Check) → FirstFailing k ks → guarded ks refuse done ≡ refuse k
unfolding guarded every
first-refuses {A} refuse done k ks f = rw f.splits (go f.earlier f.pass)
  where
    go : (es : List Check) → passes es ≡ true → guarded (es ++ f.here ∷ f.later) refuse done ≡ refuse k
    go [] p = rw (f.holds, f.names)
    go (e ∷ es) p = cases e.applies (λ t. wrong refl (sym (rw t at p))) (λ t. rw t (go es (rw t at p)))

-- some refusal applies, the first of them with number k; or none does
data Tried (ks : List Check) : Type 0 where
  applies-at : (k : ℕ) → FirstFailing k ks → Tried ks
  all_pass : passes ks ≡ true → Tried ks

tried : (ks : List Check) → Tried ks
unfolding every
tried [] = all_pass refl
tried (k ∷ ks) = cases k.applies
    (λ e. applies-at k.number (record { earlier = []; here = k; later = ks; splits = refl; pass = refl; holds = e; names = refl }))
    (λ e. go e (tried ks))
  where
    go : k.applies ≡ false → Tried ks → Tried (k ∷ ks)
    go e (all_pass p) = all_pass (rw e p)
    go e (applies-at j f) = applies-at j (record {
      earlier = k ∷ f.earlier;
      here = f.here;
      later = f.later;
      splits = ap (λ (r : List Check). k ∷ r) f.splits;
      pass = rw e f.pass;
      holds = f.holds;
      names = f.names;
    })

-- a refusal's answer names its number
pub refusal-number : (c : Call) (j k : ℕ) → refusal c j ≡ refused k → j ≡ k
refusal-number c j k =
    either (λ (r : Answer). r ≡ refused k → j ≡ k) (names_refusal c) (λ e f. cc) (λ e f. cc)

module _ (c : Call) (w : World) where
  answer-first : (k : ℕ) → FirstFailing k (all_checks c w) → answer c w ≡ refusal c k
  unfolding answer outcome
  answer-first k f =
      ap (λ (o : Outcome). o.answer)
      (first-refuses (λ k. unchanged (refusal c k) w.queues w.hierarchy) (rule c w.queues w.hierarchy) k (all_checks c w) f)

  answer-rule : passes (all_checks c w) ≡ true → answer c w ≡ (rule c w.queues w.hierarchy).answer
  unfolding answer outcome
  answer-rule p =
      ap (λ (o : Outcome). o.answer)
      (guarded-passes (λ k. unchanged (refusal c k) w.queues w.hierarchy) (all_checks c w) (rule c w.queues w.hierarchy) p)

  pub refused-exactly : RefusedExactly c w
  refused-exactly = record {
    only = λ k e. go k e (tried (all_checks c w));
    whenever = λ k n f. answer-first k f ∙ refusal-names c k n;
  }
    where
      go : (k : ℕ) → answer c w ≡ refused k → Tried (all_checks c w) → FirstFailing k (all_checks c w)
      go k e (applies-at j f) =
          subst (λ (i : ℕ). FirstFailing i (all_checks c w)) (refusal-number c j k (sym (answer-first j f) ∙ e)) f
      go k e (all_pass p) =
          wrong (rule-accepts w.queues w.hierarchy c) (ap is_accepted (sym (answer-rule p) ∙ e))

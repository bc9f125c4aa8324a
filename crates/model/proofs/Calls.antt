-- Calls by their checks: what a call's outcome is, when checks 1 and 10 refuse it, and when they pass and its own checks follow.
use Prim.Native.Nat.{ℕ, ◌^◌}
use mathlib.Core.Path.{◌≡◌, refl, sym, ◌∙◌, ap}
use mathlib.Core.Bool.{Bool, true, false, not, ◌&&◌}
use mathlib.Core.List.{List, [], ◌∷◌, ◌++◌}
use lib.Dec.{ltb}
use borrow.Author.Tests.{ltb-true, ltb-false, le-leb, lt-leb, eq-eqb, ne_eqb}
use Rattle.lists.proofs.Cond.{cases, and_left}
use Rattle.rules.specs.Shape.{Queues, Hierarchy, fits, top_number, is_free_store, is_free_load}
use Rattle.lists.specs.Padded.{any, every}
use Rattle.rules.specs.Calls.{Call, Answer, Check, load, store, retry, commit, abort, idle, reply, flush, show, checkpoint, restore, preview, refused, check, number_check, load_rule, store_rule, checkpoint_rule, restore_rule, guarded, passes, unchanged, access_checks, early_checks, call_checks, rule}
use Rattle.rules.specs.Checkpoints.{name_allowed, in_use}
use Rattle.rules.specs.WellFormed.{lines_formed, queues_formed, checkpoints_formed, well_formed}
use Rattle.rules.specs.Runs.{state_checks, refusal, outcome}
use Rattle.rules.proofs.Checks.{EachPasses, shut, malformed, opened, checked, guarded-append, guarded-passes}
use Rattle.access.specs.AccessChecks.{sized, checked_access}
use Rattle.access.proofs.AccessChecks.{numbered-ok, checks-ok, checks-refuse, checks-pass}
use Rattle.model.specs.State.{checked_state, store_rest}
use Rattle.access.specs.declared.Access.{Access}
use Rattle.rules.specs.declared.Refusal.{Refusal}
use Rattle.rules.specs.RefusalNumbers.{numbered}
use Rattle.std.specs.Bool.{⊤}
use Rattle.std.proofs.Common.{Result, Ok, Err, is_ok}

-- checks 1 and 10 pass exactly if the state is well formed
pub state-passes : (q : Queues) (b : Hierarchy) → passes (state_checks q b) ≡ well_formed q b
unfolding every well_formed
state-passes q b =
    cases (fits b)
    (λ f. cases (lines_formed b && (queues_formed q b && checkpoints_formed q.committed q.last q.checkpoints)) (λ g. rw (f, g)) (λ g. rw (f, g)))
    (λ f. rw f)

-- what is found by them where they pass
pub state-formed : (q : Queues) (b : Hierarchy) → Ok tt ≡ checked_state q b → well_formed q b ≡ true
state-formed q b e = sym (state-passes q b) ∙ (checks-pass (state_checks q b) (tt {0}) (tt {0}) (sym e)).0

pub state-judged : (q : Queues) (b : Hierarchy) (r : Result ⊤ Refusal) → numbered r ≡ checked_state q b → is_ok r ≡ well_formed q b
state-judged q b r e = numbered-ok r ∙ ap is_ok e ∙ checks-ok (state_checks q b) tt ∙ state-passes q b

-- the number of the one that refuses
pub state-number : (q : Queues) (b : Hierarchy) (k : ℕ) → k ≡ guarded (state_checks q b) (λ j. j) 0 → (k ≡ 0 → ⊥) → Err k ≡ checked_state q b
unfolding guarded
state-number q b k e n =
    cases (fits b)
    (λ f. cases (well_formed q b)
    (λ g. let z : k ≡ 0 = rw (f, g) at e in absurd (n z))
    (λ g. let z : k ≡ 10 = rw (f, g) at e in rw (f, g, z)))
    (λ f. let z : k ≡ 1 = rw f at e in rw (f, z))

module _ (c : Call) (q : Queues) (b : Hierarchy) where
  -- checks 1 and 10 pass
  pub record Open : Type 0 where
    pub fit : fits b ≡ true
    pub formed : well_formed q b ≡ true
    pub does : outcome c q b ≡ checked c q b

  -- and where one refuses a call whose early checks pass
  pub state-refuses : (k : ℕ) → Err k ≡ checked_state q b → EachPasses (early_checks c b) → outcome c q b ≡ unchanged (refusal c k) q b
  unfolding guarded
  state-refuses k e early =
      cases (fits b)
      (λ f. cases (well_formed q b)
      (λ g. let z : ◌≡◌ {A = Result ⊤ ℕ} (Err k) (Ok tt) = rw (f, g) at e in cc)
      (λ g. let z : ◌≡◌ {A = Result ⊤ ℕ} (Err k) (Err 10) = rw (f, g) at e in let y : k ≡ 10 = cc in rw y (malformed c q b early f g)))
      (λ f. let z : ◌≡◌ {A = Result ⊤ ℕ} (Err k) (Err 1) = rw f at e in let y : k ≡ 1 = cc in rw y (shut c q b f))

  -- what a call does that names no refusal, on any other state
  pub unformed-refuses : (r : Answer) → ((k : ℕ) → refusal c k ≡ r) → well_formed q b ≡ false → EachPasses (early_checks c b) → outcome c q b ≡ unchanged r q b
  unformed-refuses r same g early = cases (fits b) (λ f. malformed c q b early f g ∙ ap (λ (a : Answer). unchanged a q b) (same 10)) (λ f. shut c q b f ∙ ap (λ (a : Answer). unchanged a q b) (same 1))

  -- a well-formed state passes both
  pub formed-opens : well_formed q b ≡ true → EachPasses (early_checks c b) → Open
  unfolding well_formed
  formed-opens e early = let f = and_left (fits b) _ e in record { fit = f; formed = e; does = opened c q b early f e }

-- no call of a run has a check between 1 and 10
pub early : (c : Call) (b : Hierarchy) → EachPasses (early_checks c b)
early (load a w) b = tt
early (store a w v) b = tt
early (retry i) b = tt
early (commit k) b = tt
early (abort n) b = tt
early idle b = tt
early reply b = tt
early flush b = tt
early (show a) b = tt
early (checkpoint x) b = tt
early (restore x) b = tt
early preview b = tt

-- ---- load, store: the access, then the rest of the checks

-- a call whose checks begin with those of an access
module _ (c : Call) (q : Queues) (b : Hierarchy) (a w : ℕ) (rest : List Check) (starts : call_checks c q b ≡ access_checks b a w ++ rest) (o : Open c q b) where
  after-access : checked c q b ≡ guarded (access_checks b a w) (λ k. unchanged (refusal c k) q b) (guarded rest (λ k. unchanged (refusal c k) q b) (rule c q b))
  after-access =
      ap (λ (ks : List Check). guarded ks (λ k. unchanged (refusal c k) q b) (rule c q b)) starts
      ∙ guarded-append (λ k. unchanged (refusal c k) q b) (access_checks b a w) rest (rule c q b)

  pub access-refuses : (k : ℕ) → checked_access b.size a w ≡ Err k → outcome c q b ≡ unchanged (refusal c k) q b
  unfolding checked_access
  access-refuses k e = o.does ∙ after-access ∙ checks-refuse _ _ (access_checks b a w) (record { address = a; width = w }) k e

  pub access-goes : (x : Access) → checked_access b.size a w ≡ Ok x → outcome c q b ≡ guarded rest (λ k. unchanged (refusal c k) q b) (rule c q b)
  unfolding checked_access
  access-goes x e =
      o.does ∙ after-access
      ∙ guarded-passes (λ k. unchanged (refusal c k) q b) (access_checks b a w) _ (checks-pass (access_checks b a w) (record { address = a; width = w }) x e).0

-- ---- load

module _ (a w : ℕ) (q : Queues) (b : Hierarchy) (o : Open (load a w) q b) (x : Access) (e : checked_access b.size a w ≡ Ok x) where
  rest-of-load : outcome (load a w) q b ≡ guarded (number_check q ∷ check 12 (not (any is_free_load q.loads)) ∷ []) (λ k. unchanged (refused k) q b) (load_rule a w q b)
  rest-of-load = access-goes (load a w) q b a w _ refl o x e

  pub load-numbers : q.last ≡ top_number → outcome (load a w) q b ≡ unchanged (refused 13) q b
  unfolding guarded
  load-numbers t = rest-of-load ∙ rw (eq-eqb q.last top_number t)

  module _ (n : q.last ≡ top_number → ⊥) where
    pub load_full : any is_free_load q.loads ≡ false → outcome (load a w) q b ≡ unchanged (refused 12) q b
    unfolding guarded
    load_full t = rest-of-load ∙ rw (ne_eqb q.last top_number n, t)

    module _ (t : any is_free_load q.loads ≡ true) where
      pub load_does : outcome (load a w) q b ≡ load_rule a w q b
      unfolding guarded
      load_does = rest-of-load ∙ rw (ne_eqb q.last top_number n, t)

-- ---- the calls with one check of their own, or none

module _ (c : Call) (q : Queues) (b : Hierarchy) (o : Open c q b) where
  pub one-refuses : (k : ℕ) (t : Bool) → call_checks c q b ≡ check k t ∷ [] → t ≡ true → outcome c q b ≡ unchanged (refusal c k) q b
  unfolding guarded
  one-refuses k t e f =
      o.does ∙ ap (λ (ks : List Check). guarded ks (λ j. unchanged (refusal c j) q b) (rule c q b)) e ∙ rw f

  pub one-does : (k : ℕ) (t : Bool) → call_checks c q b ≡ check k t ∷ [] → t ≡ false → outcome c q b ≡ rule c q b
  unfolding guarded
  one-does k t e f =
      o.does ∙ ap (λ (ks : List Check). guarded ks (λ j. unchanged (refusal c j) q b) (rule c q b)) e ∙ rw f

  pub none-does : call_checks c q b ≡ [] → outcome c q b ≡ rule c q b
  unfolding guarded
  none-does e = o.does ∙ ap (λ (ks : List Check). guarded ks (λ j. unchanged (refusal c j) q b) (rule c q b)) e

-- ---- set a mark, and return to it

module _ (x : ℕ) (q : Queues) (b : Hierarchy) (o : Open (checkpoint x) q b) where
  pub set-misnamed : name_allowed x ≡ false → outcome (checkpoint x) q b ≡ unchanged (refused 19) q b
  unfolding guarded
  set-misnamed t = o.does ∙ rw t

  module _ (name : name_allowed x ≡ true) where
    pub set-used : in_use x q.checkpoints ≡ true → outcome (checkpoint x) q b ≡ unchanged (refused 20) q b
    unfolding guarded
    set-used t = o.does ∙ rw (name, t)

    module _ (unused : in_use x q.checkpoints ≡ false) where
      pub set-numbers : q.last ≡ top_number → outcome (checkpoint x) q b ≡ unchanged (refused 21) q b
      unfolding guarded
      set-numbers t = o.does ∙ rw (name, unused, eq-eqb q.last top_number t)

      pub set_does : (q.last ≡ top_number → ⊥) → outcome (checkpoint x) q b ≡ checkpoint_rule x q b
      unfolding guarded
      set_does t = o.does ∙ rw (name, unused, ne_eqb q.last top_number t)

module _ (x : ℕ) (q : Queues) (b : Hierarchy) (o : Open (restore x) q b) where
  pub return-misnamed : name_allowed x ≡ false → outcome (restore x) q b ≡ unchanged (refused 19) q b
  unfolding guarded
  return-misnamed t = o.does ∙ rw t

  module _ (name : name_allowed x ≡ true) where
    pub return-unused : in_use x q.checkpoints ≡ false → outcome (restore x) q b ≡ unchanged (refused 21) q b
    unfolding guarded
    return-unused t = o.does ∙ rw (name, t)

    pub return-does : in_use x q.checkpoints ≡ true → outcome (restore x) q b ≡ restore_rule x q b
    unfolding guarded
    return-does t = o.does ∙ rw (name, t)

-- ---- a store's checks after the access

module _ (a w v : ℕ) (q : Queues) (b : Hierarchy) where
  pub store_goes : (o : Open (store a w v) q b) (x : Access) → checked_access b.size a w ≡ Ok x → store_rest a w v q b ≡ outcome (store a w v) q b
  unfolding store_rest
  store_goes o x e = sym (access-goes (store a w v) q b a w _ refl o x e)

  pub rest-values : ltb v (256 ^ w) ≡ false → unchanged (refused 5) q b ≡ store_rest a w v q b
  unfolding store_rest guarded
  rest-values t = rw (le-leb (256 ^ w) v (ltb-false v (256 ^ w) t))

  module _ (s : ltb v (256 ^ w) ≡ true) where
    pub rest-numbers : q.last ≡ top_number → unchanged (refused 13) q b ≡ store_rest a w v q b
    unfolding store_rest guarded
    rest-numbers t = rw (lt-leb (256 ^ w) v (ltb-true v (256 ^ w) s), eq-eqb q.last top_number t)

    module _ (n : q.last ≡ top_number → ⊥) where
      pub rest-full : any is_free_store q.stores ≡ false → unchanged (refused 11) q b ≡ store_rest a w v q b
      unfolding store_rest guarded
      rest-full t = rw (lt-leb (256 ^ w) v (ltb-true v (256 ^ w) s), ne_eqb q.last top_number n, t)

      pub rest-does : any is_free_store q.stores ≡ true → store_rule a w v q b ≡ store_rest a w v q b
      unfolding store_rest guarded
      rest-does t = rw (lt-leb (256 ^ w) v (ltb-true v (256 ^ w) s), ne_eqb q.last top_number n, t)

-- the access that passed is the one that was checked
pub passed-access : (size a w : ℕ) (x : Access) → checked_access size a w ≡ Ok x → (passes (access_checks (sized size) a w) ≡ true) × (x ≡ record { address = a; width = w })
unfolding checked_access
passed-access size a w x e =
    let p = checks-pass (access_checks (sized size) a w) (record { address = a; width = w }) x e in (p.0, sym p.1)

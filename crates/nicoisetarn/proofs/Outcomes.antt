-- What the functions leave is what the definitions say; and a refusal leaves everything as it was.
use Prim.Native.Nat.{ℕ, ◌≤◌}
use mathlib.Core.Path.{◌≡◌, refl, sym, ◌∙◌, ap}
use mathlib.Core.Bool.{Bool, true, false}
use mathlib.Core.List.{List, [], map}
use Rattle.std.specs.Prelude.{Option, Some, None, option_map}
use native.Mathlib.Omega.{arith}
use borrow.Author.Tests.{le-leb, lt-leb}
use Rattle.lists.proofs.Cond.{cases, wrong}
use Rattle.rules.specs.declared.Figures.{Figures}
use Rattle.rules.specs.Shape.{Queues, Hierarchy, World}
use Rattle.rules.specs.Calls as rules
use Rattle.rules.specs.Runs.{ready, start_refused, start_allowed, start_answer, start_world, unstarted, refusal, outcome}
use Rattle.rules.proofs.Checks.{outcome-by, rule-accepts}
use Rattle.model.specs.State.{queues_of, hierarchy_of, world_of, answer_of, outcome_of, call_of}
use Rattle.model.specs.Starts.{start_answer_of}
use Rattle.model.specs.declared.Call.{Call}
use Rattle.model.specs.declared.Call.TheVariants.{Load, Store, Retry, Commit, Abort, Idle, Reply, Flush, Show, Checkpoint, Restore, Preview}
use Rattle.model.specs.declared.State.{State}
use Rattle.model.specs.declared.Step.{Step}
use Rattle.model.specs.declared.Started.{Started}
use Rattle.std.specs.Bool.{⊤}
use Rattle.std.proofs.Common.{Ok, Err}
use Rattle.rules.specs.declared.Refusal.{Refusal}
use Rattle.rules.specs.RefusalNumbers.{refusal_number}
use Rattle.images.specs.declared.Image.{Image}
use Rattle.images.specs.declared.TagImage.{TagImage}
use Rattle.nicoisetarn.specs.declared.AnswerImage.{AnswerImage}
use Rattle.nicoisetarn.specs.declared.ImageStep.{ImageStep}
use Rattle.images.specs.Images.{is_profile, imaged_tag, figures_with, opened_of, imaged_with, imaged_of, stands_for}
use Rattle.images.proofs.Standing.{imaged-opened}
use Rattle.nicoisetarn.specs.Answers.{call_numbered, coded, imaged_answer, ready_answer, no_such_call}
use Rattle.nicoisetarn.specs.Steps.{Left, left_of, kept, leaves, started_by, started_with, started, image_refusal, outcome_from, called, stepped, line_shown, changes_records, next_image}
use Rattle.nicoisetarn.specs.Claims.{Keeps, RefusedImagesKept, UnknownCallsKept, LooksKept}
use Rattle.nicoisetarn.proofs.CallNumbers.{no_number, some_number}
use Rattle.nicoisetarn.proofs.ShownPart.{image-over}

-- ---- a refusal

-- any other call than show line names its refusal
named : (k : ℕ) (c : Call) → ((x : ℕ) → c ≡ Show x → ⊥) → coded 0 k 0 ≡ imaged_answer (refusal (call_of c) k)
named k (Load a w) h = refl
named k (Store a w v) h = refl
named k (Retry i) h = refl
named k (Commit n) h = refl
named k (Abort n) h = refl
named k Idle h = refl
named k Reply h = refl
named k Flush h = refl
named k (Show a) h = absurd (h a refl)
named k (Checkpoint x) h = refl
named k (Restore x) h = refl
named k Preview h = refl

-- ---- the records that a call may change

module _ (q : Queues) (b : Hierarchy) where
  rule-keeps : (c : rules.Call) → changes_records c ≡ false → (rules.rule c q b).hierarchy.tags ≡ b.tags
  unfolding rules.load_rule rules.store_rule rules.abort_rule rules.show_rule rules.preview_rule rules.checkpoint_rule rules.restore_rule
  rule-keeps (rules.load a w) e = refl
  rule-keeps (rules.store a w v) e = refl
  rule-keeps (rules.retry i) e = wrong refl e
  rule-keeps (rules.commit k) e = wrong refl e
  rule-keeps (rules.abort n) e = refl
  rule-keeps rules.idle e = wrong refl e
  rule-keeps rules.reply e = wrong refl e
  rule-keeps rules.flush e = wrong refl e
  rule-keeps (rules.show a) e = refl
  rule-keeps (rules.checkpoint x) e = refl
  rule-keeps (rules.restore x) e = refl
  rule-keeps rules.preview e = refl

  outcome-keeps : (c : rules.Call) → changes_records c ≡ false → (outcome c q b).hierarchy.tags ≡ b.tags
  outcome-keeps c e = outcome-by c q b (λ o. o.hierarchy.tags ≡ b.tags) (λ k. refl) (λ f g p. rule-keeps c e)

-- records that do not change have their images in the image before the call
module _ (c : rules.Call) (i : Image) (cache memory : List ℕ) (stands : stands_for i ≡ true) where
  next-imaged :
      (s : State) (r : Step) (cache' memory' : List ℕ) → s ≡ opened_of i → outcome_of r cache' memory' ≡ outcome c (queues_of s) (hierarchy_of s cache memory)
      → next_image c i r.next ≡ imaged_of r.next
  unfolding imaged_of imaged_with
  next-imaged s r cache' memory' o e = cases (changes_records c)
      (λ t. rw t)
      (λ t. rw t (ap (λ (tags : List TagImage). imaged_with tags r.next) (sym (ap (map imaged_tag) (tags-kept t) ∙ ap (λ (j : Image). j.tags) (imaged-opened i stands)))))
    where
      tags-kept : changes_records c ≡ false → r.next.tags ≡ (opened_of i).tags
      tags-kept t =
          ap (λ (o : rules.Outcome). o.hierarchy.tags) e
          ∙ outcome-keeps (queues_of s) (hierarchy_of s cache memory) c t
          ∙ ap (λ (s : State). s.tags) o

-- ---- a call

abbrev Leaves : rules.Outcome → Left
Leaves o = leaves (imaged_answer o.answer) o.queues o.hierarchy

module _ (c : rules.Call) (i : Image) (cache memory : List ℕ) where
  abbrev outcome_at : State → rules.Outcome
  outcome_at s = outcome c (queues_of s) (hierarchy_of s cache memory)

  -- the state that the image stands for is stepped
  pub state-stepped :
      (r : Step) (cache' memory' : List ℕ) (s : State) → outcome_of r cache' memory' ≡ outcome_at s → (t : ImageStep) → t.answer ≡ imaged_answer (answer_of r.answer [])
      → s ≡ opened_of i → stands_for i ≡ true → t.next ≡ next_image c i r.next → left_of t cache' memory' ≡ called (Some c) i cache memory
  unfolding called outcome_from
  state-stepped r cache' memory' s e t answer o stands next =
      (λ j. record {
        answer = image-over t.answer r.answer cache' answer j;
        image = (next ∙ next-imaged c i cache memory stands s r cache' memory' o e) j;
        cache = cache';
        memory = memory';
      })
      ∙ ap Leaves (e ∙ ap outcome_at o) ∙ rw stands

  -- the image stands for none: refused, and it stays
  pub image-refused :
      stands_for i ≡ false → (k : ℕ) → k ≡ image_refusal i cache memory → (t : ImageStep) → t.answer ≡ imaged_answer (refusal c k) → t.next ≡ i
      → left_of t cache memory ≡ called (Some c) i cache memory
  unfolding called
  image-refused stands k e t answer next =
      (λ j. record { answer = (answer ∙ ap (λ (k : ℕ). imaged_answer (refusal c k)) e) j; image = next j; cache = cache; memory = memory })
      ∙ rw stands

-- ---- a call by its number

module _ (call x y z : ℕ) (i : Image) (cache memory : List ℕ) (n : Option Call) (e : option_map call_of n ≡ call_numbered call x y z) where
  pub known-stepped : (c : Call) → n ≡ Some c → (l : Left) → l ≡ called (Some (call_of c)) i cache memory → l ≡ stepped call x y z i cache memory
  unfolding stepped
  known-stepped c f l g = g ∙ ap (λ (o : Option rules.Call). called o i cache memory) (sym (ap (option_map call_of) f) ∙ e)

  pub unknown-stepped : n ≡ None → (t : ImageStep) → t.answer ≡ no_such_call → t.next ≡ i → left_of t cache memory ≡ stepped call x y z i cache memory
  unfolding called stepped
  unknown-stepped f t answer next =
      (λ j. record { answer = answer j; image = next j; cache = cache; memory = memory })
      ∙ ap (λ (o : Option rules.Call). called o i cache memory) (sym (ap (option_map call_of) f) ∙ e)

-- ---- start

module _ (f : Figures) (i : Image) (cache memory : List ℕ) where
  refused-cache : (k : ℕ) → start_refused k ≡ start_answer f cache memory → (start_world f cache memory).hierarchy.cache ≡ cache
  unfolding start_answer start_world unstarted
  refused-cache k e = cases (start_allowed f cache memory)
      (λ t. let f : start_refused k ≡ ready = rw t at e in let z : ◌≡◌ {A = ℕ} 0 1 = cc in let no : ⊥ = omega arith in absurd no)
      (λ t. rw t)

  module _ (r : Started) (cache' : List ℕ) (a : start_answer_of r.answer ≡ start_answer f cache memory) (w : world_of r.state cache' memory ≡ start_world f cache memory) (t : ImageStep) where
    pub start-ready : (u : ⊤) → r.answer ≡ Ok u → t.answer ≡ ready_answer → t.next ≡ imaged_of r.state → left_of t cache' memory ≡ started_with f i cache memory
    unfolding started_with
    start-ready u told answer next =
        (λ j. record { answer = answer j; image = next j; cache = cache'; memory = memory })
        ∙ (λ j. started_by ((sym (ap start_answer_of told) ∙ a) j) (w j) i cache memory)

    pub start-refused : (why : Refusal) → r.answer ≡ Err why → t.answer ≡ coded 0 (refusal_number why) 0 → t.next ≡ i → left_of t cache' memory ≡ started_with f i cache memory
    unfolding started_with
    start-refused why told answer next =
        let b : start_refused (refusal_number why) ≡ start_answer f cache memory = sym (ap start_answer_of told) ∙ a in
        (λ j. record {
          answer = answer j;
          image = next j;
          cache = (ap (λ (v : World). v.hierarchy.cache) w ∙ refused-cache _ b) j;
          memory = memory;
        })
        ∙ (λ j. started_by (b j) (w j) i cache memory)

-- a start by its numbers, once it is known whether there is such a profile
module _ (sets ways profile : ℕ) (i : Image) (cache memory : List ℕ) (known : Bool) (e : known ≡ is_profile profile) where
  pub start-known :
      known ≡ true → (f : Figures) → f ≡ figures_with sets ways profile → (l : Left) → l ≡ started_with f i cache memory
      → l ≡ started sets ways profile i cache memory
  unfolding started
  start-known t f o l g = g ∙ (ap (λ (f : Figures). started_with f i cache memory) o ∙ rw (sym e ∙ t))

  pub start-unknown : known ≡ false → (t : ImageStep) → t.answer ≡ no_such_call → t.next ≡ i → left_of t cache memory ≡ started sets ways profile i cache memory
  unfolding started
  start-unknown f t answer next =
      (λ j. record { answer = answer j; image = next j; cache = cache; memory = memory }) ∙ rw (sym e ∙ f)

-- ---- a refusal leaves everything as it was

-- a refusal by its kind
kind-refused : (a : rules.Answer) → (imaged_answer a).kind ≡ 0 → rules.is_accepted a ≡ false
kind-refused (rules.refused k) e = refl
kind-refused (rules.stored i) e = let no : ⊥ = omega arith in absurd no
kind-refused (rules.value i v) e = let no : ⊥ = omega arith in absurd no
kind-refused (rules.waits i) e = let no : ⊥ = omega arith in absurd no
kind-refused (rules.waits_requested i) e = let no : ⊥ = omega arith in absurd no
kind-refused (rules.committed k) e = let no : ⊥ = omega arith in absurd no
kind-refused (rules.kept k) e = let no : ⊥ = omega arith in absurd no
kind-refused (rules.drained i) e = let no : ⊥ = omega arith in absurd no
kind-refused (rules.requested a) e = let no : ⊥ = omega arith in absurd no
kind-refused rules.idled e = let no : ⊥ = omega arith in absurd no
kind-refused (rules.filled a) e = let no : ⊥ = omega arith in absurd no
kind-refused (rules.flushed k) e = let no : ⊥ = omega arith in absurd no
kind-refused (rules.shown p bs) e = let no : ⊥ = omega arith in absurd no
kind-refused (rules.checkpointed n) e = let no : ⊥ = omega arith in absurd no
kind-refused (rules.previewed p) e = let no : ⊥ = omega arith in absurd no

module _ (i : Image) (cache memory : List ℕ) where
  state-keeps : (c : rules.Call) → stands_for i ≡ true → Keeps (Leaves (outcome_from c i cache memory)) i cache memory
  unfolding outcome_from
  state-keeps c stands =
      let q = queues_of (opened_of i) in
      let b = hierarchy_of (opened_of i) cache memory in
      outcome-by c q b (λ o. Keeps (Leaves o) i cache memory)
      (λ k e. (imaged-opened i stands, refl, refl))
      (λ f g p e. wrong (rule-accepts q b c) (kind-refused (rules.rule c q b).answer e))

  called-keeps : (o : Option rules.Call) → Keeps (called o i cache memory) i cache memory
  unfolding called
  called-keeps None = λ e. (refl, refl, refl)
  called-keeps (Some c) = cases (stands_for i) (λ t. rw t (state-keeps c t)) (λ t. rw t (λ e. (refl, refl, refl)))

  with-keeps : (f : Figures) → Keeps (started_with f i cache memory) i cache memory
  unfolding started_with start_answer
  with-keeps f = cases (start_allowed f cache memory)
      (λ t. rw t (λ e. let no : ⊥ = omega arith in absurd no)) (λ t. rw t (λ e. (refl, refl, refl)))

  started-keeps : (sets ways profile : ℕ) → Keeps (started sets ways profile i cache memory) i cache memory
  unfolding started
  started-keeps sets ways profile = cases (is_profile profile)
      (λ t. rw t (with-keeps (figures_with sets ways profile))) (λ t. rw t (λ e. (refl, refl, refl)))

pub refused-kept : RefusedImagesKept
unfolding stepped
refused-kept = record {
  by-start = λ sets ways profile i cache memory. started-keeps i cache memory sets ways profile;
  by_call = λ call x y z i cache memory. called-keeps i cache memory (call_numbered call x y z);
}

-- ---- numbers that no call has

kind-known : (a : rules.Answer) → (imaged_answer a).kind ≤ 15
kind-known (rules.refused k) = omega arith
kind-known (rules.stored i) = omega arith
kind-known (rules.value i v) = omega arith
kind-known (rules.waits i) = omega arith
kind-known (rules.waits_requested i) = omega arith
kind-known (rules.committed k) = omega arith
kind-known (rules.kept k) = omega arith
kind-known (rules.drained i) = omega arith
kind-known (rules.requested a) = omega arith
kind-known rules.idled = omega arith
kind-known (rules.filled a) = omega arith
kind-known (rules.flushed k) = omega arith
kind-known (rules.shown p bs) = omega arith
kind-known (rules.checkpointed n) = omega arith
kind-known (rules.previewed p) = omega arith

module _ (i : Image) (cache memory : List ℕ) where
  called-known : (o : Option rules.Call) → (called o i cache memory).answer ≡ no_such_call → o ≡ None
  unfolding called
  called-known None e = refl
  called-known (Some c) e = cases (stands_for i)
      (λ t. no (outcome_from c i cache memory).answer (rw t at e))
      (λ t. no (refusal c (image_refusal i cache memory)) (rw t at e))
    where
      no : (a : rules.Answer) → imaged_answer a ≡ no_such_call → Some c ≡ None
      no a f = let w : ⊥ = omega (arith, kind-known a, ap (λ (r : AnswerImage). r.kind) f) in absurd w

  -- no start with these figures answers so
  with-known : (f : Figures) → (started_with f i cache memory).answer ≡ no_such_call → ⊥
  unfolding started_with start_answer
  with-known f = cases (start_allowed f cache memory)
      (λ t. rw t (λ e. omega (arith, ap (λ (r : AnswerImage). r.kind) e))) (λ t. rw t (λ e. omega (arith, ap (λ (r : AnswerImage). r.kind) e)))

pub unknown-kept : UnknownCallsKept
unfolding stepped called started
unknown-kept = record {
  told = λ call x y z i cache memory h. ap (λ (o : Option rules.Call). called o i cache memory) (no_number call x y z h);
  known = λ call x y z i cache memory h e. let w = some_number call x y z (called-known i cache memory (call_numbered call x y z) e) in omega arith;
  profile-told = λ sets ways profile i cache memory h. rw (lt-leb profile 1 h);
  profile-known = λ sets ways profile i cache memory h e. with-known i cache memory (figures_with sets ways profile) (rw (le-leb profile 1 h) at e);
}

-- ---- show line

module _ (address : ℕ) (i : Image) (cache memory : List ℕ) where
  -- of the state that the image stands for
  pub state-shown :
      (r : Step) (s : State) → outcome_of r cache memory ≡ outcome (rules.show address) (queues_of s) (hierarchy_of s cache memory) → s ≡ opened_of i → stands_for i ≡ true
      → (t : AnswerImage) → t ≡ imaged_answer (answer_of r.answer []) → t ≡ line_shown address i cache memory
  unfolding line_shown outcome_from
  state-shown r s e o stands t f =
      image-over t r.answer cache f
      ∙ ap (λ (o : rules.Outcome). imaged_answer o.answer) (e ∙ ap (λ (s : State). outcome (rules.show address) (queues_of s) (hierarchy_of s cache memory)) o)
      ∙ rw stands

  -- of an image that stands for none
  pub none-shown : stands_for i ≡ false → imaged_answer rules.empty_part ≡ line_shown address i cache memory
  unfolding line_shown
  none-shown stands = rw stands

-- ---- calls that only look

-- a call whose rule changes nothing leaves the image, the cache and the memory as they were
module _ (i : Image) (cache memory : List ℕ) (stands : stands_for i ≡ true) where
  abbrev q : Queues
  q = queues_of (opened_of i)

  abbrev b : Hierarchy
  b = hierarchy_of (opened_of i) cache memory

  same : (a : rules.Answer) → Leaves (rules.unchanged a q b) ≡ kept (imaged_answer a) i cache memory
  same a = λ j. record { answer = imaged_answer a; image = imaged-opened i stands j; cache = cache; memory = memory }

  look-keeps :
      (c : rules.Call) → rules.rule c q b ≡ rules.unchanged (rules.rule c q b).answer q b
      → Leaves (outcome_from c i cache memory) ≡ kept (imaged_answer (outcome_from c i cache memory).answer) i cache memory
  unfolding outcome_from
  look-keeps c e =
      outcome-by c q b (λ o. Leaves o ≡ kept (imaged_answer o.answer) i cache memory) (λ k. same (refusal c k))
      (λ f g p. ap Leaves e ∙ same (rules.rule c q b).answer)

  show-keeps : (a : ℕ) → Leaves (outcome_from (rules.show a) i cache memory) ≡ kept (imaged_answer (outcome_from (rules.show a) i cache memory).answer) i cache memory
  unfolding rules.show_rule
  show-keeps a = look-keeps (rules.show a) refl

  preview-keeps : Leaves (outcome_from rules.preview i cache memory) ≡ kept (imaged_answer (outcome_from rules.preview i cache memory).answer) i cache memory
  unfolding rules.preview_rule
  preview-keeps = look-keeps rules.preview refl

pub looks-kept : LooksKept
unfolding stepped called call_numbered line_shown
looks-kept = record {
  shown = λ address y z i cache memory. cases (stands_for i) (λ t. rw t (show-keeps i cache memory t address)) (λ t. rw t refl);
  previewed = λ x y z i cache memory. cases (stands_for i) (λ t. rw t (preview-keeps i cache memory t)) (λ t. rw t refl);
}

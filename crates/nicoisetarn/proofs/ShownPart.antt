-- The part that show line gives has a place and a length of 32 bits, and the image of an answer needs its bytes' length alone.
use Prim.Native.Nat.{ℕ, ◌+◌, ◌*◌, ◌≤◌}
use mathlib.Core.Path.{◌≡◌, sym, ◌∙◌, ap, subst}
use mathlib.Core.Bool.{true, ◌&&◌}
use mathlib.Core.List.{List, []}
use mathlib.Core.Option.{Option, some, none}
use native.Mathlib.Omega.{arith}
use native.Mathlib.Nat.{mod-lt, mul-le-mul_right}
use lib.Dec.{leb, ltb}
use lib.ListN.{length, drop, length-take}
use borrow.Author.Tests.{ltb-true}
use Rattle.lists.specs.Padded.{first}
use Rattle.lists.proofs.Cond.{either, and_right}
use Rattle.rules.specs.declared.LoadEntry.{LoadEntry}
use Rattle.rules.specs.declared.Lookup.{Lookup}
use Rattle.rules.specs.Shape.{Queues, Hierarchy, fits, top_number, no_load, line_of, set_of, first_slot}
use Rattle.rules.specs.Lines.{present, slot_of, place_of, lookup}
use Rattle.rules.specs.Forward.{load_value}
use Rattle.rules.specs.Calls.{Call, Outcome, load, store, retry, commit, abort, idle, reply, flush, show, checkpoint, restore, preview, rule, load_answer, load_rule, store_rule, answer_load, retry_with, retry_rule, commit_rule, abort_rule, checkpoint_rule, restore_rule, can_drain, can_request_load, can_request_store, idle_rule, reply_rule, flush_rule, preview_rule, show_rule, waiting_at, next_number}
use Rattle.rules.specs.Calls as rules
use Rattle.rules.specs.Runs.{refusal, outcome}
use Rattle.rules.proofs.Checks.{refusal-by, outcome-by, either-word}
use Rattle.rules.proofs.LineFacts.{fits-tells}
use Rattle.model.specs.State.{bytes_from, answer_of, outcome_of}
use Rattle.model.specs.declared.Answer.{Answer}
use Rattle.model.specs.declared.Answer.TheVariants.{Refused, Stored, Value, Waits, WaitsRequested, Committed, Kept, Drained, Requested, Idled, Filled, Flushed, Shown, Checkpointed, Previewed}
use Rattle.model.specs.declared.Step.{Step}
use Rattle.model.proofs.Moves.{bytes-long}
use Rattle.nicoisetarn.specs.declared.AnswerImage.{AnswerImage}
use Rattle.nicoisetarn.specs.Answers.{coded, imaged_answer, PartSmall}

-- ---- every outcome

-- of an answer that shows no part
no_part : (0 ≤ top_number) × (0 ≤ top_number)
no_part = (omega arith, omega arith)

module _ (q : Queues) (b : Hierarchy) where
  abbrev Small : Outcome → Type 0
  Small o = PartSmall o.answer

  load-small : (i : ℕ) (f : Lookup) (v : Option ℕ) → PartSmall (load_answer i f v)
  load-small i f none = either-word PartSmall i no_part no_part f
  load-small i f (some v) = no_part

  retry-small : (i : ℕ) (l : LoadEntry) (v : Option ℕ) → Small (retry_with i l v q b)
  unfolding retry_with answer_load
  retry-small i l none = load-small i (lookup q.request b (line_of l.address)) none
  retry-small i l (some v) = either Small (leb i q.committed) (λ e. no_part) (λ e. no_part)

  idle-small : Small (idle_rule q b)
  unfolding idle_rule
  idle-small =
      either Small (can_drain q b) (λ e. no_part)
      (λ e. either Small (can_request_load q b) (λ e. no_part)
      (λ e. either Small (can_request_store q b) (λ e. no_part) (λ e. no_part)))

  -- a present line stands in one of the 256 slots
  place-small : (a : ℕ) → fits b ≡ true → present b (line_of a) ≡ true → place_of b a ≤ top_number
  unfolding present place_of
  place-small a f e =
      let t = fits-tells b f in
      let set : set_of b (line_of a) * b.figures.ways ≤ b.figures.sets * b.figures.ways = mul-le-mul_right b.figures.ways (omega (arith, mod-lt (line_of a) t.some-set)) in
      let next : set_of b (line_of a) * b.figures.ways + b.figures.ways ≤ b.figures.sets * b.figures.ways = omega (arith, mul-le-mul_right b.figures.ways (mod-lt (line_of a) t.some-set)) in
      omega (arith, ltb-true (slot_of b (line_of a)) (first_slot b (line_of a) + b.figures.ways) e, t.room)

  show-small : (a : ℕ) → fits b ≡ true → Small (show_rule a q b)
  unfolding show_rule
  show-small a f =
      either PartSmall (ltb a b.size && present b (line_of a))
      (λ e. (place-small a f (and_right (ltb a b.size) _ e), omega (arith, length-take 16 (drop (place_of b a) b.cache))))
      (λ e. no_part)

  rule-small : (c : Call) → fits b ≡ true → Small (rule c q b)
  unfolding load_rule store_rule retry_rule commit_rule abort_rule reply_rule flush_rule preview_rule checkpoint_rule restore_rule
  rule-small (load a w) f = load-small (next_number q) (lookup q.request b (line_of a)) (load_value (next_number q) a w q.stores b)
  rule-small (store a w v) f = no_part
  rule-small (retry i) f =
      let l = first (waiting_at i) no_load q.loads in
      retry-small i l (load_value i l.address l.width q.stores b)
  rule-small (commit k) f = no_part
  rule-small (abort n) f = no_part
  rule-small idle f = idle-small
  rule-small reply f = no_part
  rule-small flush f = no_part
  rule-small (show a) f = show-small a f
  rule-small (checkpoint x) f = no_part
  rule-small (restore x) f = no_part
  rule-small preview f = no_part

  refusal-small : (c : Call) (k : ℕ) → PartSmall (refusal c k)
  refusal-small = refusal-by (λ c r. PartSmall r) (λ c k. no_part) (λ a. no_part)

  pub outcome-small : (c : Call) → PartSmall (outcome c q b).answer
  outcome-small c = outcome-by c q b Small (refusal-small c) (λ f g p. rule-small c f)

-- ---- an answer of the code, whatever the cache

-- what holds of a part by its place and its length holds over any cache
over_any : (P : rules.Answer → Type 0) → ((p : ℕ) (bs bs' : List ℕ) → length bs ≡ length bs' → P (rules.shown p bs) → P (rules.shown p bs')) → (a : Answer) (cache cache' : List ℕ) → P (answer_of a cache) → P (answer_of a cache')
over_any P f (Refused k) cache cache' h = h
over_any P f (Stored i) cache cache' h = h
over_any P f (Value i v) cache cache' h = h
over_any P f (Waits i) cache cache' h = h
over_any P f (WaitsRequested i) cache cache' h = h
over_any P f (Committed k) cache cache' h = h
over_any P f (Kept k) cache cache' h = h
over_any P f (Drained i) cache cache' h = h
over_any P f (Requested a) cache cache' h = h
over_any P f Idled cache cache' h = h
over_any P f (Filled a) cache cache' h = h
over_any P f (Flushed k) cache cache' h = h
over_any P f (Shown p n) cache cache' h = f p _ _ (bytes-long p n cache ∙ sym (bytes-long p n cache')) h
over_any P f (Checkpointed n) cache cache' h = h
over_any P f (Previewed p) cache cache' h = h

module _ (c : Call) (q : Queues) (b : Hierarchy) (r : Step) (cache memory : List ℕ) (e : outcome_of r cache memory ≡ outcome c q b) where
  pub step_small : PartSmall (answer_of r.answer [])
  step_small = over_any PartSmall (λ p bs bs' l s. (s.0, omega arith)) r.answer cache [] (subst (λ (o : Outcome). PartSmall o.answer) (sym e) (outcome-small q b c))

pub image-over : (r : AnswerImage) (a : Answer) (cache : List ℕ) → r ≡ imaged_answer (answer_of a []) → r ≡ imaged_answer (answer_of a cache)
image-over r a cache = over_any (λ x. r ≡ imaged_answer x) (λ p bs bs' l f. f ∙ ap (coded 11 p) l) a [] cache

-- ---- the image of a part

module _ (a : Answer) (p n : ℕ) (e : a ≡ Shown p n) where
  pub part-fits : PartSmall (answer_of a []) → (p ≤ top_number) × (n ≤ top_number)
  part-fits s =
      let small : (p ≤ top_number) × (length (bytes_from p n []) ≤ top_number) = rw e at s in
      (small.0, omega (arith, small.1, bytes-long p n []))

  pub part-image : (r : AnswerImage) → r ≡ coded 11 p n → r ≡ imaged_answer (answer_of a [])
  part-image r h = rw e (h ∙ ap (coded 11 p) (sym (bytes-long p n [])))

-- Checks 1 and 10 in the order of the code: the lines with the figures and the lent lengths, the queues' entries, the register, the
-- checkpoints.
use Prim.Native.Nat.{ℕ, ◌≤◌}
use mathlib.Core.Path.{◌≡◌, refl, sym, ◌∙◌, ap}
use mathlib.Core.Bool.{Bool, true, false, ◌&&◌}
use mathlib.Core.List.{List, [], ◌∷◌, ◌++◌}
use lib.ListN.{length}
use borrow.Author.Tests.{le-leb, eq-eqb}
use Rattle.lists.specs.Padded.{every}
use Rattle.lists.proofs.Cond.{cases}
use Rattle.line_checks.specs.Refusal.{checked_lines}
use Rattle.std.specs.Bool.{⊤}
use Rattle.std.proofs.Common.{Result, Ok, Err}
use Rattle.rules.specs.declared.Request.{Request}
use Rattle.rules.specs.declared.WritePolicy.{WritePolicy}
use Rattle.rules.specs.declared.Request.TheVariants.{Free, Line}
use Rattle.rules.specs.Lines.{slot_of, present, use_line}
use Rattle.rules.specs.Shape.{Queues, Hierarchy, fits, top_number}
use Rattle.rules.specs.Calls.{guarded, store_ready}
use Rattle.rules.specs.WellFormed.{free_zero, free_places_last, committed_up_to_last, numbers_rise, numbers_up_to_last, numbers_apart, accesses_pass, committed_wait, waiting_uncovered, forwarded_answered, store_passes, load_passes, request_absent, request_inside, request_wanted, lines_formed, queues_formed, checkpoints_formed, well_formed}
use Rattle.queue_checks.specs.Good.{queues_good, queues_with}
use Rattle.access.specs.AccessChecks.{sized}
use Rattle.records.specs.Records.{tabled, used_tags}
use Rattle.records.proofs.Answers.{used-line}
use Rattle.model.specs.State.{queues_of, hierarchy_of, checked_state}
use Rattle.model.specs.declared.State.{State}

-- the lines pass
pub lines_fit : (b : Hierarchy) → Ok tt ≡ checked_lines b → fits b ≡ true
unfolding checked_lines
lines_fit b e = cases (fits b) (λ t. t) (λ t. let z : ◌≡◌ {A = Result ⊤ ℕ} (Ok tt) (Err 1) = rw t at e in cc)

lines-formed : (b : Hierarchy) → Ok tt ≡ checked_lines b → lines_formed b ≡ true
unfolding checked_lines
lines-formed b e = cases (lines_formed b) (λ t. t)
    (λ t. let z : ◌≡◌ {A = Result ⊤ ℕ} (Ok tt) (Err 10) = rw (lines_fit b e, t) at e in cc)

every-join : (xs ys : List Bool) → every (λ t. t) (xs ++ ys) ≡ (every (λ t. t) xs && every (λ t. t) ys)
unfolding every
every-join [] ys = refl
every-join (true ∷ xs) ys = every-join xs ys
every-join (false ∷ xs) ys = refl

and-true : (a b c : Bool) → (a && (b && (c && true))) ≡ (a && (b && c))
and-true true true true = refl
and-true true true false = refl
and-true true false c = refl
and-true false b c = refl

-- all that is asked of the register
abbrev pub request_good : Queues → Hierarchy → Bool
request_good q b = request_absent q.request b && (request_inside q.request b && request_wanted q.request q b.figures.policy)

-- all that is asked of the checkpoints
abbrev pub checkpoints_good : Queues → Bool
checkpoints_good q = checkpoints_formed q.committed q.last q.checkpoints

-- what checks 1 and 10 find where the lines are refused
pub state-lines : (q : Queues) (b : Hierarchy) (k : ℕ) → Err k ≡ checked_lines b → Err k ≡ checked_state q b
unfolding checked_lines well_formed guarded
state-lines q b k e = cases (fits b)
    (λ f. cases (lines_formed b) (λ l. let z : ◌≡◌ {A = Result ⊤ ℕ} (Err k) (Ok tt) = rw (f, l) at e in cc) (λ l. (rw (f, l) at e) ∙ rw (f, l)))
    (λ f. (rw f at e) ∙ rw f)

module _ (q : Queues) (b : Hierarchy) (ss : length q.stores ≡ 16) (ls : length q.loads ≡ 8) (top : q.last ≤ top_number) where
  -- the queues' clauses are those of their entries and those of the register
  queues-parted : queues_formed q b ≡ (queues_good q b && request_good q b)
  unfolding queues_formed queues_good every
  queues-parted =
      rw (eq-eqb (length q.stores) 16 ss, eq-eqb (length q.loads) 8 ls, le-leb q.last top_number top)
      (every-join entry_clauses (request_absent q.request b ∷ request_inside q.request b ∷ request_wanted q.request q b.figures.policy ∷ [])
      ∙ ap (λ (t : Bool). queues_good q b && t) (and-true (request_absent q.request b) (request_inside q.request b) (request_wanted q.request q b.figures.policy)))
    where
      entry_clauses : List Bool
      entry_clauses =
          free_zero q
          ∷ free_places_last q
          ∷ committed_up_to_last q
          ∷ numbers_rise q
          ∷ numbers_up_to_last q
          ∷ numbers_apart q
          ∷ accesses_pass q b
          ∷ committed_wait q
          ∷ waiting_uncovered q
          ∷ forwarded_answered q
          ∷ []

  -- all that is asked beside the lines
  abbrev rest_good : Bool
  rest_good = (queues_good q b && request_good q b) && checkpoints_good q

  formed-parted : fits b ≡ true → lines_formed b ≡ true → well_formed q b ≡ rest_good
  unfolding well_formed
  formed-parted f l = rw (f, l) (ap (λ (t : Bool). t && checkpoints_good q) queues-parted)

  -- what checks 1 and 10 find where the lines pass, by the queues, the register and the checkpoints
  module _ (e : Ok tt ≡ checked_lines b) where
    state-fits : rest_good ≡ true → Ok tt ≡ checked_state q b
    unfolding guarded
    state-fits g = rw (lines_fit b e, formed-parted (lines_fit b e) (lines-formed b e) ∙ g)

    state-malformed : rest_good ≡ false → Err 10 ≡ checked_state q b
    unfolding guarded
    state-malformed g = rw (lines_fit b e, formed-parted (lines_fit b e) (lines-formed b e) ∙ g)

-- ---- what the functions look at is what the clauses look at

module _ (s : State) (cache memory : List ℕ) where
  pub entries_at :
      queues_good (record { last = s.last; committed = s.committed; request = Free; stores = s.stores; loads = s.loads; checkpoints = [] }) (sized s.size)
      ≡ queues_good (queues_of s) (hierarchy_of s cache memory)
  unfolding queues_good store_passes load_passes
  entries_at = refl

  pub request-at :
      (r : Request)
      → (request_absent r (tabled s.figures s.tags) && (request_inside r (sized s.size) && request_wanted r (queues_of s) s.figures.policy))
      ≡ (request_absent r (hierarchy_of s cache memory) && (request_inside r (hierarchy_of s cache memory) && request_wanted r (queues_of s) s.figures.policy))
  unfolding request_absent request_inside present slot_of
  request-at Free = refl
  request-at (Line l) = refl

  pub wanted-at : (r : Request) (w : WritePolicy) → request_wanted r (queues_with s.committed s.stores s.loads) w ≡ request_wanted r (queues_of s) w
  unfolding request_wanted store_ready
  wanted-at Free w = refl
  wanted-at (Line l) w = refl

  pub ready_at : store_ready (queues_with s.committed s.stores s.loads) ≡ store_ready (queues_of s)
  unfolding store_ready
  ready_at = refl

  pub present-at : (l : ℕ) → present (tabled s.figures s.tags) l ≡ present (hierarchy_of s cache memory) l
  unfolding present slot_of
  present-at l = refl

  -- the records of a used line
  pub used-at : (l : ℕ) → use_line l (hierarchy_of s cache memory) ≡ record { figures = s.figures; size = s.size; tags = used_tags s.figures l s.tags; cache = cache; memory = memory }
  used-at l = used-line l (hierarchy_of s cache memory)

-- ---- what the code finds, in the order in which it looks

module _ (s : State) (cache memory : List ℕ) (ss : length s.stores ≡ 16) (ls : length s.loads ≡ 8) (top : s.last ≤ top_number)
    (e : Ok tt ≡ checked_lines (hierarchy_of s cache memory)) (good : Bool)
    (g : good ≡ queues_good (record { last = s.last; committed = s.committed; request = Free; stores = s.stores; loads = s.loads; checkpoints = [] }) (sized s.size)) where
  abbrev pub Judged : Result ⊤ ℕ → Type 0
  Judged r = r ≡ checked_state (queues_of s) (hierarchy_of s cache memory)

  entries : good ≡ queues_good (queues_of s) (hierarchy_of s cache memory)
  entries = g ∙ entries_at s cache memory

  pub found-entries : good ≡ false → Judged (Err 10)
  found-entries t =
      state-malformed (queues_of s) (hierarchy_of s cache memory) ss ls top e (rw (sym entries ∙ t))

  module _ (t : good ≡ true) (asked : Bool)
      (r : asked ≡ (request_absent s.request (tabled s.figures s.tags) && (request_inside s.request (sized s.size) && request_wanted s.request (queues_of s) s.figures.policy))) where
    register : asked ≡ request_good (queues_of s) (hierarchy_of s cache memory)
    register = r ∙ request-at s cache memory s.request

    pub found-request : asked ≡ false → Judged (Err 10)
    found-request f =
        state-malformed (queues_of s) (hierarchy_of s cache memory) ss ls top e (rw (sym entries ∙ t, sym register ∙ f))

    module _ (f : asked ≡ true) (marks : Bool) (m : marks ≡ checkpoints_good (queues_of s)) where
      pub found-checkpoints : marks ≡ false → Judged (Err 10)
      found-checkpoints g =
          state-malformed (queues_of s) (hierarchy_of s cache memory) ss ls top e (rw (sym entries ∙ t, sym register ∙ f, sym m ∙ g))

      pub found_nothing : marks ≡ true → Judged (Ok tt)
      found_nothing g =
          state-fits (queues_of s) (hierarchy_of s cache memory) ss ls top e (rw (sym entries ∙ t, sym register ∙ f, sym m ∙ g))

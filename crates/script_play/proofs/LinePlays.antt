-- A line played on the front of the lent buffers: a call, a refused line, a start.
use Prim.Native.Nat.{ℕ, ◌+◌, ◌*◌, ◌%◌, ◌≤◌, ◌<◌}
use mathlib.Core.Path.{◌≡◌, refl, sym, ◌∙◌, ap, ap₂, subst}
use mathlib.Core.Bool.{Bool, true, false, ◌&&◌}
use mathlib.Core.List.{List, [], ◌++◌}
use mathlib.Core.Logic.{◌⊎◌, inl, inr}
use mathlib.Core.Option.{Option, some, none}
use native.Mathlib.Nat.{mul-le-mul}
use native.Mathlib.Omega.{arith}
use lib.Dec.{leb, eqb}
use lib.ListN.{length, take, drop, replicate, length-append, length-drop, length-replicate, take-append-drop}
use lib.Seq.{sets, sets-eq, take_at, length-take-le}
use borrow.Author.Tests.{ne_eqb, le-leb, lt-leb, leb-true, leb-false}
use Rattle.std.specs.Bool.{then_some}
use Rattle.std.specs.Prelude.{Some, None, is_some, unwrap_or}
use Rattle.std.specs.Prelude as code
use Rattle.lists.proofs.Cond.{cases, either, and_left, and_right, wrong}
use Rattle.rules.specs.declared.Figures.{Figures}
use Rattle.rules.specs.Shape.{World, world, line_bytes, sets_allowed, ways_allowed, figures_allowed, most_sets}
use Rattle.rules.specs.Calls.{Outcome}
use Rattle.rules.specs.Calls as rules
use Rattle.rules.specs.WellFormed.{well_formed}
use Rattle.rules.specs.Runs.{ready, start_refused, started, start_allowed, unstarted, start_answer, start_world, outcome, answer, next}
use Rattle.model.specs.State.{queues_of, hierarchy_of, world_of, outcome_of, answer_of, call_of}
use Rattle.model.specs.declared.State.{State}
use Rattle.model.specs.declared.Step.{Step}
use Rattle.model.specs.declared.Call.{Call}
use Rattle.model.specs.declared.Answer.{Answer}
use Rattle.model.specs.declared.Answer.TheVariants.{Refused, Stored, Value, Waits, WaitsRequested, Committed, Kept, Drained, Requested, Idled, Filled, Flushed, Shown, Checkpointed, Previewed}
use Rattle.script.specs.Words.{answer_line, ready_line, refused_line}
use Rattle.script.specs.Commands.{Command, start, make}
use Rattle.script.specs.Play.{effect, refused_effect, malformed_line, zeros, zero_cache}
use Rattle.script.specs.Play as script
use Rattle.script_text.specs.Written.{Wrote, line_room, in_room}
use Rattle.script_play.specs.Player.{most_ways, largest_memory, largest_cache, cache_used, memory_used, run_of, run_formed, lent_of, laid_in, RunAt, run_at, PlaysCommand, MakesCall}
use Rattle.script_play.proofs.Figures.{SameFigures, figures-kept}

and_none : (t : Bool) → (t && false) ≡ false
and_none true = refl
and_none false = refl

-- ---- how much is used

module _ (f : Figures) where
  pub slots-room : f.sets ≤ most_sets → f.ways ≤ most_ways → f.sets * f.ways ≤ 256
  slots-room p q = mul-le-mul p q

  pub cache-fits : f.sets ≤ most_sets → f.ways ≤ most_ways → f.sets * f.ways * line_bytes ≡ cache_used f
  unfolding cache_used
  cache-fits p q = rw (le-leb f.sets most_sets p, le-leb f.ways most_ways q)

  pub too-many : (most_sets < f.sets) ⊎ ((f.sets ≤ most_sets) × (most_ways < f.ways)) → 0 ≡ cache_used f
  unfolding cache_used
  too-many (inl p) = rw (lt-leb f.sets most_sets p)
  too-many (inr p) = rw (lt-leb f.ways most_ways p.1, and_none (leb f.sets most_sets))

  cache-room : cache_used f ≤ largest_cache
  unfolding cache_used
  cache-room =
      either (λ (n : ℕ). n ≤ largest_cache) (leb f.sets most_sets && leb f.ways most_ways)
      (λ e. omega (arith, slots-room (leb-true f.sets most_sets (and_left _ _ e)) (leb-true f.ways most_ways (and_right (leb f.sets most_sets) _ e))))
      (λ _. omega arith)

module _ (size : ℕ) where
  pub memory-fits : size ≤ largest_memory → size ≡ memory_used size
  unfolding memory_used
  memory-fits h = rw (le-leb size largest_memory h)

  pub memory-large : largest_memory < size → 0 ≡ memory_used size
  unfolding memory_used
  memory-large h = rw (lt-leb size largest_memory h)

  memory-room : memory_used size ≤ largest_memory
  unfolding memory_used
  memory-room =
      either (λ (n : ℕ). n ≤ largest_memory) (leb size largest_memory) (λ e. leb-true size largest_memory e) (λ _. omega arith)

-- ---- the front of a buffer

module _ (front whole : List ℕ) (n : ℕ) (len : length front ≡ n) (fits : n ≤ length whole) where
  front-laid : front ++ drop n whole ≡ sets whole 0 front
  front-laid =
      sym (sets-eq front whole 0 (omega arith) ∙ ap (λ (k : ℕ). front ++ drop k whole) (let e : 0 + length front ≡ n = omega arith in e))

  front-taken : take n (front ++ drop n whole) ≡ front
  front-taken = take_at front (drop n whole) n len

  pub front_length : length (front ++ drop n whole) ≡ length whole
  front_length = simp (length-append, length-drop) (omega arith)

-- the front of a buffer laid where it stands
laid-self : (n : ℕ) (l : List ℕ) → n ≤ length l → l ≡ sets l 0 (take n l)
laid-self n l h = sym (take-append-drop n l) ∙ front-laid (take n l) l n (length-take-le n l h) h

-- ---- what stands at the front is the run

-- a run as a flag and a state
pub same-run : (run : code.Option State) (d : State) → then_some (is_some run) (unwrap_or run d) ≡ run
same-run None d = refl
same-run (Some s) d = refl

module _
    (s : State) (w : World) (cache memory cache' memory' : List ℕ) (c m : ℕ) (is : world_of s cache' memory' ≡ w)
    (ce : cache_used s.figures ≡ c) (me : memory_used s.size ≡ m)
    (clen : length cache' ≡ c) (mlen : length memory' ≡ m) (cfit : c ≤ length cache) (mfit : m ≤ length memory) where
  front-run : run_of (Some s) (cache' ++ drop c cache) (memory' ++ drop m memory) ≡ some w
  front-run =
      ap₂ (λ (x y : List ℕ). some (world_of s x y))
      (ap (λ (k : ℕ). take k (cache' ++ drop c cache)) ce ∙ front-taken cache' cache c clen cfit)
      (ap (λ (k : ℕ). take k (memory' ++ drop m memory)) me ∙ front-taken memory' memory m mlen mfit)
      ∙ ap some is

  front-lent : lent_of (cache' ++ drop c cache) (memory' ++ drop m memory) ≡ laid_in (some w) (lent_of cache memory)
  front-lent =
      ap₂ lent_of
      (front-laid cache' cache c clen cfit ∙ ap (λ (w : World). sets cache 0 w.hierarchy.cache) is)
      (front-laid memory' memory m mlen mfit ∙ ap (λ (w : World). sets memory 0 w.hierarchy.memory) is)

-- the run is well formed if its state is, with the front of the buffers
pub front-formed : (s : State) (cache memory : List ℕ) (c m : ℕ) → c ≡ cache_used s.figures → m ≡ memory_used s.size
    → well_formed (queues_of s) (hierarchy_of s (take c cache) (take m memory)) ≡ run_formed (run_of (Some s) cache memory)
front-formed s cache memory c m ce me = ap₂ (λ (x y : ℕ). well_formed (queues_of s) (hierarchy_of s (take x cache) (take y memory))) ce me

-- a line is played if the run, the lent bytes and the output after it are those of its effect
effect-plays : (c : Option Command) (before after : RunAt) (e : script.Effect) → effect c before.run ≡ e
    → after.run ≡ e.run → after.lent ≡ laid_in e.run before.lent → Wrote before.at e.says before.out after.out after.at
    → PlaysCommand c before after
effect-plays c before after e is run lent wrote =
    record {
      run-after = run ∙ ap (λ (x : script.Effect). x.run) (sym is);
      lent-after = lent ∙ ap (λ (x : script.Effect). laid_in x.run before.lent) (sym is);
      wrote = subst (λ (l : List ℕ). Wrote before.at l before.out after.out after.at) (ap (λ (x : script.Effect). x.says) (sym is)) wrote;
    }

-- the same line, where it and the run after it have other names
pub line-met :
    {before : RunAt} {c c' : Option Command} {run run' : code.Option State} {cache memory out : List ℕ} {at : ℕ}
    → c ≡ c' → run' ≡ run → PlaysCommand c' before (run_at run' cache memory out at) → PlaysCommand c before (run_at run cache memory out at)
line-met e f p = rw (e, ← f) p

-- ---- a call

-- no line of a script shows a cache line, so what it prints does not depend on the bytes
line_same : (a : Answer) (c d : List ℕ) → answer_line (answer_of a c) ≡ answer_line (answer_of a d)
unfolding answer_line
line_same (Refused k) c d = refl
line_same (Stored i) c d = refl
line_same (Value i v) c d = refl
line_same (Waits i) c d = refl
line_same (WaitsRequested i) c d = refl
line_same (Committed k) c d = refl
line_same (Kept k) c d = refl
line_same (Drained i) c d = refl
line_same (Requested a) c d = refl
line_same Idled c d = refl
line_same (Filled a) c d = refl
line_same (Flushed k) c d = refl
line_same (Shown p n) c d = refl
line_same (Checkpointed n) c d = refl
line_same (Previewed p) c d = refl

in-room : {at r : ℕ} {out bytes o : List ℕ} → at + line_room ≤ length out → Wrote at (in_room at out bytes) out o r → Wrote at bytes out o r
unfolding in_room
in-room {at} {r} {out} h w = rw (le-leb (at + line_room) (length out) h) at w

module _
    (s : State) (call : Call) (cache memory : List ℕ) (c m : ℕ) (r : Step) (cache' memory' : List ℕ)
    (ce : c ≡ cache_used s.figures) (me : m ≡ memory_used s.size)
    (did : outcome_of r cache' memory' ≡ outcome (call_of call) (queues_of s) (hierarchy_of s (take c cache) (take m memory)))
    (clen : length cache' ≡ c) (mlen : length memory' ≡ m) (cfit : c ≤ length cache) (mfit : m ≤ length memory) where
  kept : SameFigures (hierarchy_of s (take c cache) (take m memory)) (hierarchy_of r.next cache' memory')
  kept =
      rw (ap (λ (o : Outcome). o.hierarchy) did)
      (figures-kept (queues_of s) (hierarchy_of s (take c cache) (take m memory)) (call_of call))

  used-cache : cache_used r.next.figures ≡ c
  used-cache = ap cache_used kept.figures ∙ sym ce

  used-memory : memory_used r.next.size ≡ m
  used-memory = ap memory_used kept.size ∙ sym me

  -- the world that the run was
  abbrev old : ℕ → ℕ → World
  old x y = world_of s (take x cache) (take y memory)

  called-world : world_of r.next cache' memory' ≡ next (call_of call) (old (cache_used s.figures) (memory_used s.size))
  unfolding next
  called-world =
      ap (λ (o : Outcome). world o.queues o.hierarchy) did
      ∙ ap₂ (λ (x y : ℕ). next (call_of call) (old x y)) ce me

  called-line :
      answer_line (answer_of r.answer []) ≡ answer_line (answer (call_of call) (old (cache_used s.figures) (memory_used s.size)))
  unfolding answer
  called-line =
      line_same r.answer [] cache' ∙ ap (λ (o : Outcome). answer_line o.answer) did
      ∙ ap₂ (λ (x y : ℕ). answer_line (answer (call_of call) (old x y))) ce me

  pub made :
      MakesCall (call_of call) (run_of (Some s) cache memory) (lent_of cache memory) r (lent_of (cache' ++ drop c cache) (memory' ++ drop m memory))
  unfolding effect
  made =
      record {
        says = called-line;
        run-after = front-run r.next _ cache memory cache' memory' c m called-world used-cache used-memory clen mlen cfit mfit;
        lent-after = front-lent r.next _ cache memory cache' memory' c m called-world used-cache used-memory clen mlen cfit mfit;
      }

-- its answer is written
pub answered : (x : rules.Call) {s : State} {r : Step} {cache memory cache' memory' out out' : List ℕ} {at to : ℕ}
    → MakesCall x (run_of (Some s) cache memory) (lent_of cache memory) r (lent_of cache' memory')
    → at + line_room ≤ length out → Wrote at (in_room at out (answer_line (answer_of r.answer []))) out out' to
    → PlaysCommand (some (make x)) (run_at (Some s) cache memory out at) (run_at (Some r.next) cache' memory' out' to)
answered x {out = out} {out' = out'} {at = at} {to = to} m room w =
    record {
      run-after = m.run-after;
      lent-after = m.lent-after;
      wrote = subst (λ (l : List ℕ). Wrote at l out out' to) m.says (in-room room w);
    }

-- ---- a line that is refused

pub refused-wrote : (k : ℕ) {at r : ℕ} {out o : List ℕ} → at + line_room ≤ length out
    → Wrote at (in_room at out (answer_line (answer_of (Refused k) []))) out o r → Wrote at (refused_line k) out o r
unfolding answer_line
refused-wrote k h w = in-room h w

module _
    (c : Option Command) (run : code.Option State) (cache memory out : List ℕ) (at : ℕ)
    (cfit : largest_cache ≤ length cache) (mfit : largest_memory ≤ length memory) where
  lent-self : (r : code.Option State) → lent_of cache memory ≡ laid_in (run_of r cache memory) (lent_of cache memory)
  lent-self None = refl
  lent-self (Some s) =
      ap₂ lent_of
      (laid-self (cache_used s.figures) cache (omega (arith, cache-room s.figures)))
      (laid-self (memory_used s.size) memory (omega (arith, memory-room s.size)))

  -- the effect of the line is its refusal with k, and the run that it leaves is the one before it
  pub stays :
      (k : ℕ) {out' : List ℕ} {to : ℕ} → effect c (run_of run cache memory) ≡ refused_effect k (run_of run cache memory)
      → Wrote at (refused_line k) out out' to
      → PlaysCommand c (run_at run cache memory out at) (run_at run cache memory out' to)
  stays k e w = effect-plays c _ _ _ e refl (lent-self run) w

  pub malformed : c ≡ none → effect c (run_of run cache memory) ≡ refused_effect malformed_line (run_of run cache memory)
  unfolding effect
  malformed e = rw e

  pub not-begun : (x : rules.Call) → c ≡ some (make x) → run ≡ None
      → effect c (run_of run cache memory) ≡ refused_effect malformed_line (run_of run cache memory)
  unfolding effect
  not-begun x e f = rw (e, f)

-- ---- figures that a start may have

other : (m n : ℕ) → n < m → eqb m n ≡ false
other m n h = ne_eqb m n (λ e. omega arith)

module _ (f : Figures) (size : ℕ) where
  many-refused : most_sets < f.sets → figures_allowed f size ≡ false
  unfolding figures_allowed sets_allowed
  many-refused h =
      let n = f.sets in
      rw (other n 1 (omega arith), other n 2 (omega arith), other n 4 (omega arith), other n 8 (omega arith), other n 16 (omega arith), other n 32 (omega arith), other n 64 h)

  wide-refused : most_ways < f.ways → figures_allowed f size ≡ false
  unfolding figures_allowed
  wide-refused h = rw (lt-leb f.ways most_ways h, and_none (leb 1 f.ways)) (and_none (sets_allowed f.sets))

  large-refused : largest_memory < size → figures_allowed f size ≡ false
  unfolding figures_allowed
  large-refused h =
      rw (lt-leb size largest_memory h, and_none (leb 16 size), and_none (eqb (size % line_bytes) 0), and_none (ways_allowed f.ways))
      (and_none (sets_allowed f.sets))

empty-refused : (f : Figures) → figures_allowed f 0 ≡ false
unfolding figures_allowed
empty-refused f = rw (and_none (ways_allowed f.ways)) (and_none (sets_allowed f.sets))

record InRange (f : Figures) (size : ℕ) : Type 0 where
  pub few-sets : f.sets ≤ most_sets
  pub few-ways : f.ways ≤ most_ways
  pub small : size ≤ largest_memory

in-range : (f : Figures) (size : ℕ) → figures_allowed f size ≡ true → InRange f size
in-range f size e =
    record {
      few-sets = at_most f.sets most_sets (λ h. wrong e (many-refused f size h));
      few-ways = at_most f.ways most_ways (λ h. wrong e (wide-refused f size h));
      small = at_most size largest_memory (λ h. wrong e (large-refused f size h));
    }
  where
    at_most : (a b : ℕ) → (b < a → ⊥) → a ≤ b
    at_most a b f = cases (leb a b) (λ t. leb-true a b t) (λ t. absurd (f (leb-false a b t)))

-- ---- a start

same_truth : (a b : Bool) → (a ≡ true → b ≡ true) → (b ≡ true → a ≡ true) → a ≡ b
same_truth true b f g = sym (f refl)
same_truth false true f g = g refl
same_truth false false f g = refl

module _
    (f : Figures) (size : ℕ) (cache memory : List ℕ) (c m : ℕ) (ce : c ≡ cache_used f) (me : m ≡ memory_used size)
    (cfit : c ≤ length cache) (mfit : m ≤ length memory) where
  front-cache : InRange f size → length (take c cache) ≡ f.sets * f.ways * line_bytes
  front-cache r = length-take-le c cache cfit ∙ ce ∙ sym (cache-fits f r.few-sets r.few-ways)

  front-memory : InRange f size → length (take m memory) ≡ size
  front-memory r = length-take-le m memory mfit ∙ me ∙ sym (memory-fits size r.small)

  same-ranged : InRange f size → start_allowed f (take c cache) (take m memory) ≡ start_allowed f (zero_cache f) (zeros size)
  unfolding start_allowed
  same-ranged r =
      rw (front-cache r, front-memory r, length-replicate {A = ℕ} (f.sets * f.ways * line_bytes) 0, length-replicate {A = ℕ} size 0)

  range-zero : start_allowed f (zero_cache f) (zeros size) ≡ true → InRange f size
  unfolding start_allowed
  range-zero e = in-range f size (rw (length-replicate {A = ℕ} size 0) at (and_left (figures_allowed f (length (zeros size))) _ e))

  range_front : start_allowed f (take c cache) (take m memory) ≡ true → InRange f size
  unfolding start_allowed
  range_front e =
      let allowed = and_left (figures_allowed f (length (take m memory))) _ e in
      let r = in-range f (length (take m memory)) allowed in
      record {
        few-sets = r.few-sets;
        few-ways = r.few-ways;
        small = cases (leb size largest_memory) (λ t. leb-true size largest_memory t)
            (λ t. let z : length (take m memory) ≡ 0 = length-take-le m memory mfit ∙ me ∙ sym (memory-large size (leb-false size largest_memory t)) in
            wrong (rw z at allowed) (empty-refused f));
      }

  same-allowed : start_allowed f (take c cache) (take m memory) ≡ start_allowed f (zero_cache f) (zeros size)
  same-allowed =
      same_truth _ _ (λ e. sym (same-ranged (range_front e)) ∙ e) (λ e. same-ranged (range-zero e) ∙ e)

  -- an answer tells whether the start was allowed
  ready-allowed : ready ≡ start_answer f (take c cache) (take m memory) → start_allowed f (take c cache) (take m memory) ≡ true
  unfolding start_answer
  ready-allowed e = cases (start_allowed f (take c cache) (take m memory)) (λ t. t)
      (λ t. let q = rw t at e in let z : ◌≡◌ {A = ℕ} 0 1 = cc in let no : ⊥ = omega arith in absurd no)

  refused-allowed : (k : ℕ) → start_refused k ≡ start_answer f (take c cache) (take m memory)
      → (start_allowed f (take c cache) (take m memory) ≡ false) × (k ≡ 1)
  unfolding start_answer
  refused-allowed k e = cases (start_allowed f (take c cache) (take m memory))
      (λ t. let q = rw t at e in let z : ◌≡◌ {A = ℕ} 0 1 = cc in let no : ⊥ = omega arith in absurd no)
      (λ t. let q = rw t at e in (t, cc))

  module _ (run : Option World) where
    ready-effect : start_allowed f (zero_cache f) (zeros size) ≡ true
        → effect (some (start f size)) run ≡ record { says = ready_line; run = some (started f (zeros size)) }
    unfolding effect start_answer start_world
    ready-effect e = rw e

    refused-effect : start_allowed f (zero_cache f) (zeros size) ≡ false → effect (some (start f size)) run ≡ refused_effect 1 run
    unfolding effect start_answer start_world
    refused-effect e = rw e

  -- accepted: memory is zeroed behind it
  module _
      (s : State) (cache' memory' : List ℕ) (e : ready ≡ start_answer f (take c cache) (take m memory))
      (is : world_of s cache' (take m memory) ≡ start_world f (take c cache) (take m memory))
      (clen : length cache' ≡ c) (z : memory' ≡ replicate (length (take m memory)) 0) where
    allowed : start_allowed f (zero_cache f) (zeros size) ≡ true
    allowed = sym same-allowed ∙ ready-allowed e

    range : InRange f size
    range = range-zero allowed

    began : world_of s cache' (take m memory) ≡ started f (take m memory)
    unfolding start_world
    began = is ∙ rw (ready-allowed e)

    zeroed : memory' ≡ zeros size
    zeroed = z ∙ ap (λ (n : ℕ). zeros n) (front-memory range)

    -- with another memory
    abbrev with-memory : World → ℕ → List ℕ → World
    with-memory w n l =
        let b = w.hierarchy in
        world w.queues (record { figures = b.figures; size = n; tags = b.tags; cache = b.cache; memory = l })

    began-zero : world_of s cache' memory' ≡ started f (zeros size)
    unfolding started
    began-zero =
        ap (λ (w : World). with-memory w w.hierarchy.size memory') began
        ∙ ap₂ (with-memory (started f [])) (front-memory range ∙ sym (length-replicate {A = ℕ} size 0)) zeroed

    began-figures : s.figures ≡ f
    unfolding started
    began-figures = ap (λ (w : World). w.hierarchy.figures) began

    began-size : s.size ≡ size
    unfolding started
    began-size = ap (λ (w : World). w.hierarchy.size) began ∙ front-memory range

    pub begins :
        (run : code.Option State) (out out' : List ℕ) (at to : ℕ) → at + line_room ≤ length out → Wrote at (in_room at out ready_line) out out' to
        → PlaysCommand (some (start f size)) (run_at run cache memory out at)
        (run_at (Some s) (cache' ++ drop c cache) (memory' ++ drop m memory) out' to)
    begins run out out' at to room w =
        let ce' : cache_used s.figures ≡ c = ap cache_used began-figures ∙ sym ce in
        let me' : memory_used s.size ≡ m = ap memory_used began-size ∙ sym me in
        let mlen : length memory' ≡ m = ap length zeroed ∙ length-replicate {A = ℕ} size 0 ∙ memory-fits size range.small ∙ sym me in
        effect-plays (some (start f size)) _ _ _ (ready-effect (run_of run cache memory) allowed)
        (front-run s _ cache memory cache' memory' c m began-zero ce' me' clen mlen cfit mfit)
        (front-lent s _ cache memory cache' memory' c m began-zero ce' me' clen mlen cfit mfit)
        (in-room room w)

  -- refused: the cache's front is as it was
  module _
      (k : ℕ) (s : State) (cache' : List ℕ) (e : start_refused k ≡ start_answer f (take c cache) (take m memory))
      (is : world_of s cache' (take m memory) ≡ start_world f (take c cache) (take m memory)) where
    not-started-effect : (run : Option World) → effect (some (start f size)) run ≡ refused_effect k run
    not-started-effect run =
        let r = refused-allowed k e in
        refused-effect run (sym same-allowed ∙ r.0) ∙ ap (λ (n : ℕ). refused_effect n run) (sym r.1)

    not-started-cache : cache' ++ drop c cache ≡ cache
    unfolding start_world unstarted
    not-started-cache =
        let u : start_world f (take c cache) (take m memory) ≡ unstarted (take c cache) (take m memory) = rw (refused-allowed k e).0 in
        ap (λ (l : List ℕ). l ++ drop c cache) (ap (λ (w : World). w.hierarchy.cache) (is ∙ u)) ∙ take-append-drop c cache

    pub not-started :
        (run : code.Option State) (out out' : List ℕ) (at to : ℕ) → largest_cache ≤ length cache → largest_memory ≤ length memory
        → Wrote at (refused_line k) out out' to
        → PlaysCommand (some (start f size)) (run_at run cache memory out at) (run_at run (cache' ++ drop c cache) memory out' to)
    not-started run out out' at to cf mf w =
        let lasting = stays (some (start f size)) run cache memory out at cf mf k (not-started-effect _) w in
        rw not-started-cache lasting

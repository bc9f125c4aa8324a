-- Start, a call with its checks, and a run.
use Rattle.std.specs.Prelude.{ℕ, ◌*◌, ◌%◌, Bool, true, false, cond, not, ◌&&◌, List, [], ◌∷◌, ◌++◌, ltb, eqb, length, replicate}
use Rattle.lists.specs.Counted.{each_from}
use Rattle.rules.specs.declared.Figures.{Figures}
use Rattle.rules.specs.declared.Tag.{Tag}
use Rattle.rules.specs.declared.Request.TheVariants.{Free}
use Rattle.rules.specs.Shape.{Queues, Hierarchy, World, world, line_bytes, table_size, store_places, load_places, checkpoint_places, no_store, no_load, no_checkpoint, no_tag, with_age, no_figures, figures_allowed, fits}
use Rattle.rules.specs.Calls.{Call, Answer, Outcome, Check, load, store, retry, commit, abort, idle, reply, flush, show, checkpoint, restore, preview, refused, check, guarded, early_checks, call_checks, unchanged, empty_part, rule}
use Rattle.rules.specs.WellFormed.{well_formed}

-- ---- start

-- "gives way w age w, invalidates every record": slot s × ways + w has age w; the other records are zero
unfoldable pub start_tags : Figures → List Tag
start_tags f =
    each_from (λ k t. cond (ltb k (f.sets * f.ways)) (with_age (k % f.ways) t) t) 0 (replicate table_size no_tag)

-- queues with every place free: "Start sets both to 0."
abbrev pub empty_queues : Queues
empty_queues = record {
  last = 0;
  committed = 0;
  request = Free;
  stores = replicate store_places no_store;
  loads = replicate load_places no_load;
  checkpoints = replicate checkpoint_places no_checkpoint;
}

-- "Start zeroes the cache bytes, gives way w age w, invalidates every record and leaves memory as found."
unfoldable pub started : Figures → List ℕ → World
started f memory = record {
  queues = empty_queues;
  hierarchy = record {
    figures = f;
    size = length memory;
    tags = start_tags f;
    cache = replicate (f.sets * f.ways * line_bytes) 0;
    memory = memory;
  };
}

-- "Start reads no earlier state, so 1 alone can refuse it." 02, card 1: "A start may choose this profile.": either write policy is allowed
unfoldable pub start_allowed : Figures → List ℕ → List ℕ → Bool
start_allowed f cache memory =
    figures_allowed f (length memory) && eqb (length cache) (f.sets * f.ways * line_bytes)

-- what a refused start hands back in place of a state, which 01 leaves free: all zero. It is refused with 1 by every call
-- (show line: the empty part). A start on a lent state stores nothing when it is refused.
unfoldable pub unstarted : List ℕ → List ℕ → World
unstarted cache memory = record {
  queues = empty_queues;
  hierarchy = record {
    figures = no_figures;
    size = 0;
    tags = replicate table_size no_tag;
    cache = cache;
    memory = memory;
  };
}

-- a start: its answer (01 prints ready), and what it leaves
pub data StartAnswer : Type 0 where
  ready : StartAnswer
  start_refused : ℕ → StartAnswer

unfoldable pub start_answer : Figures → List ℕ → List ℕ → StartAnswer
start_answer f cache memory = cond (start_allowed f cache memory) ready (start_refused 1)

unfoldable pub start_world : Figures → List ℕ → List ℕ → World
start_world f cache memory =
    cond (start_allowed f cache memory) (started f memory) (unstarted cache memory)

-- ---- a call

-- 1: "sets, ways, memory or cache length is not allowed, or a lent length disagrees with the state"
abbrev pub fit_check : Hierarchy → Check
fit_check b = check 1 (not (fits b))

-- 10: "state not well formed"
abbrev pub formed_check : Queues → Hierarchy → Check
formed_check q b = check 10 (not (well_formed q b))

-- the two of them, which depend on no call
abbrev pub state_checks : Queues → Hierarchy → List Check
state_checks q b = fit_check b ∷ formed_check q b ∷ []

-- "Order: 6, 1, 10, 2, 3, 4, 5, 13, then 11 or 12; the others follow 10." (6 is the script player's)
abbrev pub ordered_checks : Call → Queues → Hierarchy → List Check
ordered_checks c q b = fit_check b ∷ (early_checks c b ++ formed_check q b ∷ call_checks c q b)

-- every call but show line names refusals
abbrev pub names_refusal : Call → Bool
names_refusal (load a w) = true
names_refusal (store a w v) = true
names_refusal (retry i) = true
names_refusal (commit k) = true
names_refusal (abort n) = true
names_refusal idle = true
names_refusal reply = true
names_refusal flush = true
names_refusal (show a) = false
names_refusal (checkpoint x) = true
names_refusal (restore x) = true
names_refusal preview = true

-- what a refusal answers: show line "is the sole call that names no refusal"
abbrev pub refusal : Call → ℕ → Answer
refusal c k = cond (names_refusal c) (refused k) empty_part

-- "state, cache and memory keep their contents"
unfoldable pub outcome : Call → Queues → Hierarchy → Outcome
outcome c q b = guarded (ordered_checks c q b) (λ k. unchanged (refusal c k) q b) (rule c q b)

unfoldable pub answer : Call → World → Answer
answer c w = (outcome c w.queues w.hierarchy).answer

-- "Each call gets what the last one handed back or left"
unfoldable pub next : Call → World → World
next c w = world (outcome c w.queues w.hierarchy).queues (outcome c w.queues w.hierarchy).hierarchy

-- ---- a run: a list of calls

-- its answers, one for each call
unfoldable pub answers : List Call → World → List Answer
answers [] w = []
answers (c ∷ cs) w = answer c w ∷ answers cs (next c w)

-- what it leaves
unfoldable pub after : List Call → World → World
after [] w = w
after (c ∷ cs) w = after cs (next c w)

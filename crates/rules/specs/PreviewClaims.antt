-- Preview of a reply (02, card 7), as claims beside the real reply: what a preview gives is what the reply, made in its place, then does; it is
-- refused as the reply is; it changes nothing; and no other call gives one.
use Rattle.std.specs.Prelude.{ℕ, ◌+◌, ◌*◌, ◌<◌, ◌≤◌, ◌≡◌, Bool, true, false, cond, ◌&&◌, eqb, length, get_or}
use Rattle.std.proofs.Math.Option.{Option, some, none}
use Rattle.rules.specs.declared.Request.TheVariants.{Line}
use Rattle.rules.specs.Shape.{Hierarchy, World, line_bytes, all_marks, most_ways, line_of, first_slot, tag_at}
use Rattle.rules.specs.Lines.{slot_of, present, word_of, is_dirty_word, Preview}
use Rattle.rules.specs.Flat.{flat_byte}
use Rattle.rules.specs.Calls.{Call, load, store, retry, commit, abort, idle, reply, flush, show, checkpoint, restore, preview, refused, filled, previewed, is_accepted}
use Rattle.rules.specs.Runs.{answer, next}
use Rattle.rules.specs.TagLookup.{PresentIn}

-- ---- beside the reply

-- line m is the one evicted
abbrev pub is_evicted : Option ℕ → ℕ → Bool
is_evicted none m = false
is_evicted (some l) m = eqb m l

-- p is what a reply does that fills line l: the lines are b before it, and b' after it
pub record MatchesReply (p : Preview) (l : ℕ) (b b' : Hierarchy) : Type 0 where
  -- "the way": the line then stands there
  pub filled-way : PresentIn b' l p.way
  -- "the line evicted if any": one is given only if it is present before and absent after, and whenever one is so
  pub evicted-only : (m : ℕ) → p.evicted ≡ some m → (present b m ≡ true) × (present b' m ≡ false)
  pub evicted-whenever : (m : ℕ) → present b m ≡ true → present b' m ≡ false → p.evicted ≡ some m
  -- it stood where line l then stands
  pub same-slot : (m : ℕ) → p.evicted ≡ some m → slot_of b m ≡ slot_of b' l
  -- "which of its four words are to be written back": the marks that the record of that place had before. (Memory alone cannot tell them: a
  -- clean word equals memory, and a dirty one may. That no clean word is written is `MarkedOnly`, of card 2.)
  pub marks : p.words ≡ (tag_at b.tags (slot_of b' l)).dirty
  pub four : p.words ≤ all_marks
  pub none-evicted : p.evicted ≡ none → p.words ≡ 0
  -- after it memory has these words of the evicted line as the cache had them, and no other byte of it changed
  pub writes :
      (a : ℕ)
      → get_or b'.memory a 0
      ≡ cond (is_evicted p.evicted (line_of a) && is_dirty_word p.words (word_of a)) (flat_byte b a) (get_or b.memory a 0)
  -- "the ages of that set after it": of each way; there are four places, and 0 where the set has no such way
  pub places : length p.ages ≡ most_ways
  pub ages-after : (k : ℕ) → k < b'.figures.ways → get_or p.ages k 0 ≡ (tag_at b'.tags (first_slot b' l + k)).age
  pub no_way : (k : ℕ) → b'.figures.ways ≤ k → get_or p.ages k 0 ≡ 0

-- the register names a line, a reply at w fills it, and p is what the reply does
pub record PredictsReply (p : Preview) (w : World) : Type 0 where
  pub line : ℕ
  pub requested : w.queues.request ≡ Line line
  pub fills : answer reply w ≡ filled (line * line_bytes)
  pub as-given : MatchesReply p line w.hierarchy (next reply w).hierarchy

-- ---- the preview

-- it answers some preview
pub record Previews (w : World) : Type 0 where
  pub given : Preview
  pub says : answer preview w ≡ previewed given

pub record PreviewExact (w : World) : Type 0 where
  -- "All four are those of a real reply on a copy of state, cache and memory"
  pub predicts : (p : Preview) → answer preview w ≡ previewed p → PredictsReply p w
  -- "refusals are the same": and where the reply is accepted, so is the preview
  pub refused-only : (k : ℕ) → answer preview w ≡ refused k → answer reply w ≡ refused k
  pub refused-whenever : (k : ℕ) → answer reply w ≡ refused k → answer preview w ≡ refused k
  pub accepted : is_accepted (answer reply w) ≡ true → Previews w
  -- "and the originals stay unchanged"
  pub unchanged : next preview w ≡ w

-- ---- every other call

abbrev pub is_preview : Call → Bool
is_preview (load a n) = false
is_preview (store a n v) = false
is_preview (retry i) = false
is_preview (commit k) = false
is_preview (abort n) = false
is_preview idle = false
is_preview reply = false
is_preview flush = false
is_preview (show a) = false
is_preview (checkpoint x) = false
is_preview (restore x) = false
is_preview preview = true

abbrev pub NoOtherPreviews : Call → World → Type 0
NoOtherPreviews c w = is_preview c ≡ false → (p : Preview) → answer c w ≡ previewed p → ⊥

-- Dirty words as claims (02, card 2): which words a call marks, that a line comes without marks, and that eviction and flush write marked
-- words only.
use Rattle.std.specs.Prelude.{ℕ, ◌<◌, ◌≡◌, true, false, get_or}
use Rattle.rules.specs.Shape.{Hierarchy, World, line_words, line_of, tag_at, writes_through}
use Rattle.rules.specs.Lines.{slot_of, word_of, dirty_word, write_back_all, victim, fill_line}
use Rattle.rules.specs.Calls.{Call, drained, filled, oldest_store}
use Rattle.rules.specs.Runs.{answer, next}

-- the call drained the oldest store, with write-back, and to word n of slot k
pub record DrainedTo (c : Call) (w : World) (k n : ℕ) : Type 0 where
  pub says : answer c w ≡ drained (oldest_store w.queues).number
  pub back : writes_through w.hierarchy ≡ false
  pub slot : k ≡ slot_of w.hierarchy (line_of (oldest_store w.queues).address)
  pub word : n ≡ word_of (oldest_store w.queues).address

pub record MarksExact (c : Call) (w : World) : Type 0 where
  -- "Write-back draining marks the word written.": the word is dirty after it,
  pub marks : (k n : ℕ) → DrainedTo c w k n → dirty_word (next c w).hierarchy.tags k n ≡ true
  -- and no call makes another word dirty
  pub only :
      (k n : ℕ) → n < line_words → dirty_word w.hierarchy.tags k n ≡ false → dirty_word (next c w).hierarchy.tags k n ≡ true
      → DrainedTo c w k n
  -- 01: "the record becomes valid and clean": a line that was filled has no mark
  pub fills : (a : ℕ) → answer c w ≡ filled a → (tag_at (next c w).hierarchy.tags (victim w.hierarchy (line_of a))).dirty ≡ 0

-- no record that names the line of address a has its word marked
abbrev pub Unmarked : Hierarchy → ℕ → Type 0
Unmarked b a = (k : ℕ) → (tag_at b.tags k).line ≡ line_of a → dirty_word b.tags k (word_of a) ≡ false

-- "Eviction and flush write marked words only": of any lines, well formed or not
pub record MarkedOnly (b : Hierarchy) (a : ℕ) : Type 0 where
  pub by-flush : get_or (write_back_all b).memory a 0 ≡ get_or b.memory a 0
  pub by-fill : (l : ℕ) → get_or (fill_line l b).memory a 0 ≡ get_or b.memory a 0

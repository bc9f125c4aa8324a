-- Dirty words: a drain with write-back marks the word that it writes, and no call another one; a line comes without marks; eviction and
-- flush write marked words only.
use Prim.Native.Nat.{ℕ, ◌*◌, ◌/◌, ◌<◌}
use mathlib.Core.Path.{◌≡◌, refl, sym, ◌∙◌, subst}
use mathlib.Core.Bool.{true, false, ◌&&◌, ◌||◌}
use mathlib.Core.List.{List, [], ◌∷◌}
use mathlib.Core.Option.{Option, some, none}
use native.Mathlib.Omega.{arith}
use lib.Dec.{ltb, leb}
use native.Mathlib.Decide.{dec_lt}
use lib.ListN.{length, get_or, set, get_or-eq_default}
use lib.Seq.{set_out, get_or-set_same}
use Rattle.lists.specs.Padded.{filter}
use Rattle.lists.proofs.Cond.{either, and_right, or-then, wrong}
use Rattle.lists.proofs.Counting.{steps-keep, each_same}
use Rattle.rules.specs.declared.Tag.{Tag}
use Rattle.rules.specs.declared.StoreEntry.{StoreEntry}
use Rattle.rules.specs.declared.LoadEntry.{LoadEntry}
use Rattle.rules.specs.declared.Lookup.{Lookup}
use Rattle.rules.specs.Shape.{Queues, Hierarchy, World, line_bytes, line_words, no_tag, requested_line, line_of, set_of, slots, tag_at, writes_through}
use Rattle.rules.specs.Lines.{slot_of, present, lookup, use_slot, use_line, word_of, is_dirty_word, dirty_word, marked, cleaned, put_store, write_store, write_back_slot, write_back_all, victim, install, fill_line}
use Rattle.rules.specs.Forward.{load_value}
use Rattle.rules.specs.Calls.{Call, Answer, Outcome, load, store, retry, commit, abort, idle, reply, flush, show, checkpoint, restore, preview, refused, stored, value, waits, waits_requested, committed, kept, drained, requested, idled, filled, flushed, shown, checkpointed, previewed, next_number, load_answer, load_rule, store_rule, answer_load, retry_with, retry_rule, uses_line_by, use_each, commit_rule, abort_rule, checkpoint_rule, restore_rule, oldest_store, store_ready, can_drain, can_request_load, can_request_store, idle_rule, reply_rule, flush_rule, show_rule, rule, preview_rule}
use Rattle.rules.specs.WellFormed.{well_formed}
use Rattle.rules.specs.Runs.{outcome, answer, next}
use Rattle.rules.specs.Words.{MarksExact, Unmarked, MarkedOnly}
use Rattle.rules.proofs.Checks.{refusal-by, outcome-by, either-word}
use Rattle.rules.proofs.Records.{at_set, still-set}
use Rattle.rules.proofs.Dirty.{no_word, byte_word, marked-here, marked-new}
use Rattle.rules.proofs.Recency.{use-marks}
use Rattle.rules.proofs.LineFacts.{Fits, Good, fits-tells, good-tells, present-tells, used-slot}
use Rattle.rules.proofs.LineSteps.{saved-else}
use Rattle.rules.proofs.QueueView.{parts}
use Rattle.rules.proofs.Entries.{tried}

-- ---- what marks no word

-- no word that is clean in b is dirty in c
abbrev MarksNone : Hierarchy → Hierarchy → Type 0
MarksNone b c = (k n : ℕ) → dirty_word b.tags k n ≡ false → dirty_word c.tags k n ≡ false

-- a record without marks is written
set-none :
    (tags : List Tag) (v : ℕ) (t : Tag) → t.dirty ≡ 0 → (k n : ℕ) → dirty_word tags k n ≡ false
    → dirty_word (set tags v t) k n ≡ false
set-none tags v t e k n =
    still-set tags v t (λ k u. dirty_word tags k n ≡ false → is_dirty_word u.dirty n ≡ false) (λ d. rw e (no_word n)) (λ k d. d) k

-- use
slot-none : (s v : ℕ) (b : Hierarchy) → MarksNone b (use_slot s v b)
slot-none s v b k n e = rw (use-marks s v b k) e

use-none : (l : ℕ) (b : Hierarchy) → MarksNone b (use_line l b)
unfolding use_line
use-none l b = either (MarksNone b) (present b l) (λ e. slot-none (set_of b l) (slot_of b l) b) (λ e k n d. d)

each_none : (ls : List LoadEntry) (b : Hierarchy) → MarksNone b (use_each ls b)
unfolding use_each
each_none [] b k n d = d
each_none (l ∷ ls) b k n d = each_none ls (use_line (line_of l.address) b) k n (use-none (line_of l.address) b k n d)

-- write back
save-none : (v : ℕ) (b : Hierarchy) → MarksNone b (write_back_slot v b)
unfolding write_back_slot
save-none v b = set-none b.tags v (cleaned (tag_at b.tags v)) refl

all_none : (b : Hierarchy) → MarksNone b (write_back_all b)
unfolding write_back_all
all_none b = steps-keep (MarksNone b) write_back_slot (slots b) 0 (λ v c p q h k n d. save-none v c k n (h k n d)) b (λ k n d. d)

-- fill
fill_none : (l : ℕ) (b : Hierarchy) → MarksNone b (fill_line l b)
unfolding fill_line install
fill_none l b k n d =
    let v = victim b l in
    slot-none (set_of b l) v (install v l (write_back_slot v b)) k n (set-none (write_back_slot v b).tags v _ refl k n (save-none v b k n d))

-- a record without marks stands where it was written, or past the table
set-clean : (tags : List Tag) (v : ℕ) (t : Tag) → t.dirty ≡ 0 → (tag_at (set tags v t) v).dirty ≡ 0
set-clean tags v t e =
    elim (dec_lt v (length tags)) [
      | yes h ↦ rw (get_or-set_same tags v t no_tag h) e
      | no h ↦ let past : tag_at tags v ≡ no_tag = get_or-eq_default tags no_tag (omega arith) in rw (set_out tags v t (omega arith), past)
    ]

-- the filled line's record has no mark
fill-clean : (l : ℕ) (b : Hierarchy) → (tag_at (fill_line l b).tags (victim b (line_of (l * line_bytes)))).dirty ≡ 0
unfolding fill_line install line_of
fill-clean l b =
    let v = victim b l in
    let line : l * 16 / 16 ≡ l = omega arith in
    rw line (use-marks (set_of b l) v (install v l (write_back_slot v b)) v ∙ set-clean (write_back_slot v b).tags v _ refl)

-- ---- a store is written

-- c is b with the store written, its line in slot v: with write-back its word is dirty, and no word that was clean but that one
record Written (s : StoreEntry) (v : ℕ) (b c : Hierarchy) : Type 0 where
  here : writes_through b ≡ false → dirty_word c.tags v (word_of s.address) ≡ true
  new :
      (k n : ℕ) → n < line_words → dirty_word b.tags k n ≡ false → dirty_word c.tags k n ≡ true
      → (writes_through b ≡ false) × (k ≡ v) × (n ≡ word_of s.address)

module _ (s : StoreEntry) (b : Hierarchy) (fit : Fits b) (g : Good b) where
  -- into a slot, which is used
  put_written : (i v : ℕ) → (tag_at b.tags v).valid ≡ true → Written s v b (use_slot i v (put_store v s b))
  unfolding put_store
  put_written i v valid =
      let t = marked b.figures.policy s (tag_at b.tags v) in
      let in-table : v < length b.tags = omega (arith, used-slot b g v valid, fit.room, g.table) in
      let used = use-marks i v (put_store v s b) in
      record {
        here = λ back.
            rw (used v, get_or-set_same b.tags v t no_tag in-table)
            (marked-here b.figures.policy s (tag_at b.tags v) (g.four-marks v) back);
        new = λ k n n-in clean dirty.
            at_set b.tags v t in-table
            (λ k u. dirty_word b.tags k n ≡ false → is_dirty_word u.dirty n ≡ true → (writes_through b ≡ false) × (k ≡ v) × (n ≡ word_of s.address))
            (λ c d. let m = marked-new b.figures.policy s (tag_at b.tags v) n (g.four-marks v) n-in c d in (m.0, refl, m.1))
            (λ k o c d. wrong d c) k clean (rw (used k) at dirty);
      }

  -- where its line is present, or through
  store-written :
      (writes_through b || present b (line_of s.address)) ≡ true → Written s (slot_of b (line_of s.address)) b (write_store s b)
  unfolding write_store
  store-written h =
      let l = line_of s.address in
      either (Written s (slot_of b l) b) (present b l) (λ p. put_written (set_of b l) (slot_of b l) (present-tells b l p).valid)
      (λ a. record { here = λ back. wrong (or-then (writes_through b) _ h back) a; new = λ k n n-in c d. wrong d c })

-- ---- every call

-- what an answer tells of a call that is no drain, from b to c: where a line was filled, its record has no mark
abbrev Told : Hierarchy → Hierarchy → Answer → Type 0
Told b c (refused k) = Unit
Told b c (stored i) = Unit
Told b c (value i v) = Unit
Told b c (waits i) = Unit
Told b c (waits_requested i) = Unit
Told b c (committed k) = Unit
Told b c (kept k) = Unit
Told b c (drained i) = ⊥
Told b c (requested a) = Unit
Told b c idled = Unit
Told b c (filled a) = (tag_at c.tags (victim b (line_of a))).dirty ≡ 0
Told b c (flushed k) = Unit
Told b c (shown p bs) = Unit
Told b c (checkpointed n) = Unit
Told b c (previewed p) = Unit

-- an outcome is no drain and marks no word, or it drains the oldest store
data Marking (q : Queues) (b : Hierarchy) (o : Outcome) : Type 0 where
  quiet : Told b o.hierarchy o.answer → MarksNone b o.hierarchy → Marking q b o
  drains :
      o.answer ≡ drained (oldest_store q).number
      → Written (oldest_store q) (slot_of b (line_of (oldest_store q).address)) b o.hierarchy → Marking q b o

module _ (q : Queues) (b : Hierarchy) (wf : well_formed q b ≡ true) where
  load-quiet : (i : ℕ) (f : Lookup) (v : Option ℕ) → Told b b (load_answer i f v)
  load-quiet i f none = either-word (Told b b) i tt tt f
  load-quiet i f (some v) = tt

  retry-marking : (i : ℕ) (l : LoadEntry) (v : Option ℕ) → Marking q b (retry_with i l v q b)
  unfolding retry_with answer_load
  retry-marking i l none = quiet (load-quiet i (lookup q.request b (line_of l.address)) none) (λ k n d. d)
  retry-marking i l (some v) =
      either (Marking q b) (leb i q.committed) (λ e. quiet tt (use-none (line_of l.address) b)) (λ e. quiet tt (λ k n d. d))

  idle-marking : Marking q b (idle_rule q b)
  unfolding idle_rule
  idle-marking =
      let p = parts q b wf in
      either (Marking q b) (can_drain q b)
      (λ e. drains refl (store-written (oldest_store q) b (fits-tells b p.fit) (good-tells b p.lines) (and_right (store_ready q) _ e)))
      (λ e. either (Marking q b) (can_request_load q b) (λ e. quiet tt (λ k n d. d))
      (λ e. either (Marking q b) (can_request_store q b) (λ e. quiet tt (λ k n d. d)) (λ e. quiet tt (λ k n d. d))))

  rule-marking : (c : Call) → Marking q b (rule c q b)
  unfolding load_rule store_rule retry_rule commit_rule abort_rule reply_rule flush_rule show_rule preview_rule checkpoint_rule restore_rule
  rule-marking (load a w) = quiet (load-quiet (next_number q) (lookup q.request b (line_of a)) (load_value (next_number q) a w q.stores b)) (λ k n d. d)
  rule-marking (store a w v) = quiet tt (λ k n d. d)
  rule-marking (retry i) = retry-marking i (tried i q) (load_value i (tried i q).address (tried i q).width q.stores b)
  rule-marking (commit k) = quiet tt (each_none (filter (uses_line_by k) q.loads) b)
  rule-marking (abort n) = quiet tt (λ k n d. d)
  rule-marking idle = idle-marking
  rule-marking reply = let l = requested_line q.request in quiet (fill-clean l b) (fill_none l b)
  rule-marking flush = quiet tt (all_none b)
  rule-marking (show a) =
      quiet (either (Told b b) (ltb a b.size && present b (line_of a)) (λ e. tt) (λ e. tt)) (λ k n d. d)
  rule-marking (checkpoint x) = quiet tt (λ k n d. d)
  rule-marking (restore x) = quiet tt (λ k n d. d)
  rule-marking preview = quiet tt (λ k n d. d)

-- 02, card 2: "Write-back draining marks the word written."
pub marks-exact : (c : Call) (w : World) → MarksExact c w
unfolding answer next
marks-exact c w =
    go (outcome-by c w.queues w.hierarchy (Marking w.queues w.hierarchy)
    (λ k. quiet (refusal-by (λ c r. Told w.hierarchy w.hierarchy r) (λ c k. tt) (λ a. tt) c k) (λ k n d. d))
    (λ fit wf e. rule-marking w.queues w.hierarchy wf c))
  where
    go : Marking w.queues w.hierarchy (outcome c w.queues w.hierarchy) → MarksExact c w
    go (quiet told h) =
        record {
          marks = λ k n d. absurd (subst (Told w.hierarchy (next c w).hierarchy) d.says told);
          only = λ k n n-in c e. wrong e (h k n c);
          fills = λ a e. subst (Told w.hierarchy (next c w).hierarchy) e told;
        }
    go (drains a h) =
        record {
          marks = λ k n d. rw (d.slot, d.word) (h.here d.back);
          only = λ k n n-in c e. let x = h.new k n n-in c e in record { says = a; back = x.0; slot = x.1; word = x.2 };
          fills = λ p e. cc;
        }

-- ---- what goes to memory

-- slot v is written back, and no record that names the line of a has its word marked: byte a of memory stays, and no record gets the mark
module _ (a v : ℕ) (b : Hierarchy) (h : Unmarked b a) where
  save-memory : get_or (write_back_slot v b).memory a 0 ≡ get_or b.memory a 0
  unfolding write_back_slot
  save-memory =
      each_same _ b.memory 0 a (λ x. saved-else _ _ v a x (λ d e. wrong d (byte_word (tag_at b.tags v) a ∙ h v (sym e))))

  save-unmarked : Unmarked (write_back_slot v b) a
  unfolding write_back_slot
  save-unmarked =
      still-set b.tags v (cleaned (tag_at b.tags v)) (λ k u. u.line ≡ line_of a → is_dirty_word u.dirty (word_of a) ≡ false)
      (λ e. no_word (word_of a)) h

-- 02, card 2: "Eviction and flush write marked words only"
pub marked-only : (b : Hierarchy) (a : ℕ) → Unmarked b a → MarkedOnly b a
unfolding write_back_all fill_line use_slot install
marked-only b a h =
    record {
      by-flush =
          (steps-keep (λ (c : Hierarchy). (get_or c.memory a 0 ≡ get_or b.memory a 0) × Unmarked c a) write_back_slot (slots b) 0
          (λ v c p q k. (save-memory a v c k.1 ∙ k.0, save-unmarked a v c k.1)) b (refl, h)).0;
      by-fill = λ l. save-memory a (victim b l) b h;
    }

-- What the code makes of records and bytes is what the rules make of the hierarchy: idle, reply, flush, show line, start.
use Prim.Native.Nat.{ℕ, zero, suc, ◌+◌, ◌*◌, ◌-◌, ◌%◌, ◌<◌, ◌≤◌}
use mathlib.Core.Path.{◌≡◌, refl, sym, ◌∙◌, ap, ap₂}
use mathlib.Core.Bool.{Bool, true, false, cond, ◌&&◌, ◌||◌}
use mathlib.Core.List.{List, [], ◌∷◌}
use native.Mathlib.Omega.{arith}
use lib.Dec.{ltb}
use lib.ListN.{length, set, take, drop, replicate, length-take, length-drop, length-replicate}
use lib.Seq.{set-set, ext_get_or, get_or-take, get_or-drop}
use borrow.Author.Tests.{lt-ltb, le-ltb, eq-eqb, ne_eqb, not-true}
use Rattle.lists.specs.Padded.{any, first, shifted}
use Rattle.lists.specs.Bytes.{overlaid}
use Rattle.lists.specs.Counted.{each_from}
use Rattle.lists.proofs.Cond.{cases, cond-then, and_left, and_both, wrong, or_left, or_right}
use Rattle.lists.proofs.Counting.{each-length, each_at}
use Rattle.lists.proofs.Some.{any-first}
use Rattle.rules.specs.declared.Figures.{Figures}
use Rattle.rules.specs.declared.Tag.{Tag}
use Rattle.rules.specs.declared.LoadEntry.{LoadEntry}
use Rattle.rules.specs.declared.StoreEntry.{StoreEntry}
use Rattle.rules.specs.declared.Request.{Request}
use Rattle.rules.specs.declared.Request.TheVariants.{Free, Line}
use Rattle.rules.specs.declared.Lookup.{Lookup}
use Rattle.rules.specs.declared.Lookup.TheVariants.{Hit}
use Rattle.rules.specs.Shape.{Queues, Hierarchy, holding, no_store, no_load, is_free_load, line_of, slots, first_slot, tag_at, with_dirty, is_through}
use Rattle.rules.specs.Lines.{slot_of, present, place_of, aged_at, use_slot, marked, written_through_at, stored_memory, put_store, write_store, written_back_at, write_back_slot, copied_at, install, victim, fill_line, write_back_all}
use Rattle.rules.specs.Calls.{Outcome, wants_line, oldest_store, store_ready, store_needs_line, request_line, drain_oldest, unchanged, idled, idle_rule, reply_rule, show_rule, shown, empty_part, use_each}
use Rattle.rules.specs.Calls as rules
use Rattle.rules.specs.Runs.{outcome, answer}
use Rattle.rules.proofs.Checks.{outcome-by}
use Rattle.line_checks.specs.Refusal.{hierarchy}
use Rattle.records.specs.Records.{has_room, in_set, is_hit, tabled, used_tags, installed_in, flushed_tags}
use Rattle.line_bytes.specs.Writes.{flushed_memory, line_written, line_filled, store_put, stored_through}
use Rattle.line_bytes.proofs.Writing.{written-inside, written-length, fill-copies, put-inside, drained-inside}
use Rattle.records.proofs.Answers.{used-line}
use Rattle.model.proofs.Leaves.{Located, Chosen, slot-in-set, flushed-all}
use Rattle.model.specs.State.{bytes_from, queues_of, hierarchy_of, world_of, outcome_of, Fillable, idle_request}
use Rattle.model.specs.Shows.{part_in, shown_part}
use Rattle.model.specs.declared.State.{State}
use Rattle.model.specs.declared.show_line.Part.{Part}
use Rattle.model.specs.declared.Answer.TheVariants.{Filled, Drained}

-- ---- commit

each-used :
    (g : Figures) (size : ℕ) (cache memory : List ℕ) (ls : List LoadEntry) (tags : List Tag)
    → use_each ls (hierarchy g size tags cache memory) ≡ hierarchy g size (use_each ls (tabled g tags)).tags cache memory
unfolding use_each
each-used g size cache memory [] tags = refl
each-used g size cache memory (l ∷ ls) tags =
    ap (use_each ls) (used-line (line_of l.address) (hierarchy g size tags cache memory))
    ∙ each-used g size cache memory ls (used_tags g (line_of l.address) tags)
    ∙ ap (λ (b : Hierarchy). hierarchy g size (use_each ls b).tags cache memory) (sym (used-line (line_of l.address) (tabled g tags)))

-- ---- idle

and-true : (t : Bool) → (t && true) ≡ t
and-true true = refl
and-true false = refl

first-none : {A : Type 0} (p : A → Bool) (d : A) (l : List A) → any p l ≡ false → first p d l ≡ d
unfolding any first
first-none p d [] e = refl
first-none p d (x ∷ l) e = rw (or_left (p x) _ e) (first-none p d l (or_right (p x) _ e))

-- some load wants its line exactly if the lowest such load is no free place
wanting-some : (b : Hierarchy) (h : ℕ) (ls : List LoadEntry) → is_free_load (first (wants_line b h) no_load ls) ≡ false → any (wants_line b h) ls ≡ true
wanting-some b h ls e = cases (any (wants_line b h) ls) (λ t. t)
    (λ t. wrong (ap is_free_load (first-none (wants_line b h) no_load ls t)) e)

wanting-none : (b : Hierarchy) (h : ℕ) (ls : List LoadEntry) → is_free_load (first (wants_line b h) no_load ls) ≡ true → any (wants_line b h) ls ≡ false
unfolding wants_line
wanting-none b h ls e = cases (any (wants_line b h) ls)
    (λ t. wrong e (not-true _ (and_left _ _ (any-first (wants_line b h) no_load ls t)))) (λ t. t)

-- the oldest store's line is present, or the store is written through
abbrev pub writes : State → Bool
writes s = is_through s.figures.policy || present (tabled s.figures s.tags) (line_of (oldest_store (queues_of s)).address)

pub writes-known :
    (s : State) (r : Bool) → has_room s.figures ≡ true
    → r ≡ (is_through s.figures.policy || (has_room s.figures && present (tabled s.figures s.tags) (line_of (oldest_store (queues_of s)).address)))
    → r ≡ writes s
writes-known s r room e = e ∙ rw room

-- where nothing drains, the oldest store is ready exactly if its line is to be requested
module _ (s : State) (r : Bool) (told : r ≡ store_ready (queues_of s)) where
  abbrev missing : Bool
  missing = store_needs_line (queues_of s) (tabled s.figures s.tags)

  pub missing-absent : writes s ≡ false → r ≡ missing
  missing-absent h =
      rw (or_left (is_through s.figures.policy) _ h, or_right (is_through s.figures.policy) _ h) (told ∙ sym (and-true (store_ready (queues_of s))))

  pub missing-unready : r ≡ false → r ≡ missing
  missing-unready f = f ∙ sym (rw (sym told ∙ f) (cases (is_through s.figures.policy) (λ t. rw t) (λ t. rw t)))

module _ (s : State) (cache memory : List ℕ) where
  -- the records once each load of a list has used its line
  pub used-each : (ls : List LoadEntry) → use_each ls (hierarchy_of s cache memory) ≡ record { figures = s.figures; size = s.size; tags = (use_each ls (tabled s.figures s.tags)).tags; cache = cache; memory = memory }
  used-each ls = each-used s.figures s.size cache memory ls s.tags

  abbrev q : Queues
  q = queues_of s

  abbrev b : Hierarchy
  b = hierarchy_of s cache memory

  abbrev table : Hierarchy
  table = tabled s.figures s.tags

  pub idle-drains : store_ready q ≡ true → writes s ≡ true → idle_rule q b ≡ drain_oldest q b
  unfolding idle_rule present slot_of
  idle-drains r h = rw (r, h)

  pub idle-unready : store_ready q ≡ false → idle_rule q b ≡ idle_request q b
  unfolding idle_rule idle_request present slot_of
  idle-unready r = rw r

  pub idle-absent : writes s ≡ false → idle_rule q b ≡ idle_request q b
  unfolding idle_rule idle_request present slot_of
  idle-absent h = cases (store_ready q) (λ t. rw (t, h)) (λ t. rw t)

  pub idle-busy : (l : ℕ) → s.request ≡ Line l → unchanged idled q b ≡ idle_request q b
  unfolding idle_request
  idle-busy l e = rw e

  module _ (free : s.request ≡ Free) (l : LoadEntry) (lowest : l ≡ first (wants_line table s.committed) no_load s.loads) where
    pub idle-load : (l.number ≡ 0 → ⊥) → request_line l.address q b ≡ idle_request q b
    unfolding idle_request wants_line present slot_of
    idle-load n =
        let e : is_free_load (first (wants_line table s.committed) no_load s.loads) ≡ false = ap is_free_load (sym lowest) ∙ ne_eqb l.number 0 n in
        rw (free, wanting-some table s.committed s.loads e, lowest)

    module _ (z : l.number ≡ 0) where
      none : any (wants_line table s.committed) s.loads ≡ false
      none = wanting-none table s.committed s.loads (ap is_free_load (sym lowest) ∙ eq-eqb l.number 0 z)

      module _ (a : ℕ) (oldest : a ≡ (oldest_store q).address) where
        pub idle-store : store_needs_line q table ≡ true → request_line a q b ≡ idle_request q b
        unfolding idle_request wants_line present slot_of
        idle-store r = rw (none, oldest, r, free)

        pub idle-nothing : store_needs_line q table ≡ false → unchanged idled q b ≡ idle_request q b
        unfolding idle_request wants_line present slot_of
        idle-nothing r = rw (none, r, free)

-- ---- fill

-- a record's age, read where it was written with its age kept
set-age : (tags : List Tag) (v : ℕ) → (tag_at (set tags v (with_dirty 0 (tag_at tags v))) v).age ≡ (tag_at tags v).age
set-age [] v = refl
set-age (t ∷ tags) zero = refl
set-age (t ∷ tags) (suc v) = set-age tags v

-- the records and bytes of a filled line, when v is the victim's slot
pub fill-parts :
    (b : Hierarchy) (l v : ℕ) → v ≡ victim b l
    → fill_line l b
    ≡ hierarchy b.figures b.size (installed_in (first_slot b l) b.figures.ways v l b.tags)
    (each_from (copied_at (each_from (written_back_at (tag_at b.tags v) b.cache v) 0 b.memory) v l) 0 b.cache)
    (each_from (written_back_at (tag_at b.tags v) b.cache v) 0 b.memory)
unfolding fill_line install write_back_slot use_slot installed_in
fill-parts b l v e =
    let t : Tag = with_dirty 0 (tag_at b.tags v) in
    let age : (tag_at (set b.tags v t) v).age ≡ (tag_at b.tags v).age = set-age b.tags v in
    rw (← e, age, set-set b.tags v)

-- the fill, from what each function made
pub filled-whole :
    (b : Hierarchy) (l f n v : ℕ) (tags : List Tag) (cache memory : List ℕ) → Fillable b.figures b.tags l (length b.cache) (length b.memory) → Chosen b l f v → n ≡ b.figures.ways
    → memory ≡ line_written (tag_at b.tags v) v b.cache b.memory
    → cache ≡ line_filled v (take (16 * l + 16 - 16 * l) (drop (16 * l) memory)) b.cache
    → tags ≡ cond (in_set f n v && ltb l 65536) (installed_in f n v l b.tags) b.tags
    → holding b tags cache memory ≡ fill_line l b
filled-whole b l f n v tags cache memory g h ways m c t =
    let e : 16 * l + 16 - 16 * l ≡ 16 = omega arith in
    let slot : 16 * v + 16 ≤ length b.cache = omega (arith, h.high, h.within, g.cache-long) in
    let written : memory ≡ each_from (written_back_at (tag_at b.tags v) b.cache v) 0 b.memory =
    m ∙ written-inside (tag_at b.tags v) v b.cache b.memory slot (g.dirty-lines v (omega (arith, h.high, h.within, h.room))) in
    let long : 16 * l + 16 ≤ length memory = rw (m, written-length) g.inside in
    let copied : cache ≡ each_from (copied_at memory v l) 0 b.cache = c ∙ rw e (fill-copies memory v l b.cache slot long) in
    let in-range : (in_set f b.figures.ways v && ltb l 65536) ≡ true =
    and_both _ _ (slot-in-set b f v h.within h.room h.low h.high) (lt-ltb l 65536 (omega (arith, g.low))) in
    let installed : tags ≡ installed_in f b.figures.ways v l b.tags = (rw ways at t) ∙ sym (cond-then _ _ in-range) in
    rw (fill-parts b l v h.slot, installed, copied, written, ← h.first)

-- the memory length plays no part in a fill
fill-sized :
    (l : ℕ) (b : Hierarchy)
    → (let f : Hierarchy = fill_line l (hierarchy b.figures 0 b.tags b.cache b.memory) in holding b f.tags f.cache f.memory)
    ≡ fill_line l b
unfolding fill_line install write_back_slot use_slot victim
fill-sized l b = refl

-- the whole reply
pub filled-state :
    (s : State) (cache memory : List ℕ) (l : ℕ) (tags : List Tag) (cache' memory' : List ℕ)
    → s.request ≡ Line l
    → hierarchy s.figures 0 tags cache' memory' ≡ fill_line l (hierarchy s.figures 0 s.tags cache memory)
    → outcome_of (record { answer = Filled (l * 16); next = record s { request = Free; tags = tags } }) cache' memory'
    ≡ reply_rule (queues_of s) (hierarchy_of s cache memory)
unfolding reply_rule
filled-state s cache memory l tags cache' memory' r e =
    let whole : hierarchy s.figures s.size tags cache' memory' ≡ fill_line l (hierarchy_of s cache memory) =
    ap (λ (f : Hierarchy). hierarchy s.figures s.size f.tags f.cache f.memory) e ∙ fill-sized l (hierarchy_of s cache memory) in
    rw (r, ← whole)

-- ---- drain

-- the memory length and the bytes of memory play no part in what a store does to the records and the cache
write-sized :
    (e : StoreEntry) (b : Hierarchy)
    → (let f : Hierarchy = write_store e (hierarchy b.figures 0 b.tags b.cache []) in holding b f.tags f.cache (stored_memory e b))
    ≡ write_store e b
unfolding write_store put_store use_slot present slot_of
write-sized e b = cases (present b (line_of e.address)) (λ t. rw t) (λ t. rw t)

-- the oldest store e, written and removed
pub drained-state :
    (s : State) (cache memory : List ℕ) (e : StoreEntry) (tags : List Tag) (cache' memory' : List ℕ) (stores : List StoreEntry)
    → e ≡ oldest_store (queues_of s) → e.width ≤ 4 → e.address + e.width ≤ length memory
    → memory' ≡ stored_through s.figures.policy e memory
    → hierarchy s.figures 0 tags cache' [] ≡ write_store e (hierarchy s.figures 0 s.tags cache [])
    → stores ≡ shifted no_store s.stores
    → outcome_of (record { answer = Drained e.number; next = record { figures = s.figures; size = s.size; last = s.last; committed = s.committed; request = s.request; stores = stores; loads = s.loads; checkpoints = s.checkpoints; tags = tags } }) cache' memory'
    ≡ drain_oldest (queues_of s) (hierarchy_of s cache memory)
unfolding stored_memory
drained-state s cache memory e tags cache' memory' stores o narrow inside m w p =
    let through : memory' ≡ each_from (written_through_at s.figures.policy e) 0 memory = m ∙ drained-inside e memory s.figures.policy narrow inside in
    let whole : hierarchy s.figures s.size tags cache' memory' ≡ write_store e (hierarchy_of s cache memory) =
    ap₂ (λ (f : Hierarchy) (x : List ℕ). hierarchy s.figures s.size f.tags f.cache x) w through ∙ write-sized e (hierarchy_of s cache memory) in
    rw (← o, ← whole, p)

-- the records and the cache stay where the store's line is absent
pub unwritten :
    (r : Request) (b : Hierarchy) (e : StoreEntry) (f : ℕ) (found : Lookup) → Located r b (line_of e.address) f found → is_hit found ≡ false → b.memory ≡ []
    → b ≡ write_store e b
unfolding write_store stored_memory each_from
unwritten r b e f found h missed none =
    let absent : present b (line_of e.address) ≡ false = sym h.here ∙ missed in
    rw (absent, none)

-- the bytes and the records of a store that is written to its line, from what each function made
pub written-whole :
    (r : Request) (b : Hierarchy) (e : StoreEntry) (f n w : ℕ) (found : Lookup) (table used : List Tag) (cache : List ℕ)
    → Located r b (line_of e.address) f found → n ≡ b.figures.ways → found ≡ Hit w
    → e.width ≤ 4 → e.address % 16 + e.width ≤ 16 → length b.cache ≡ slots b * 16
    → cache ≡ store_put (16 * (f + w) + e.address % 16) e.width e.value b.cache
    → table ≡ set b.tags (f + w) (marked b.figures.policy e (tag_at b.tags (f + w)))
    → used ≡ cond (in_set f n (f + w)) (each_from (aged_at f n (f + w) (tag_at table (f + w)).age) 0 table) table
    → holding b used cache (stored_memory e b) ≡ write_store e b
unfolding write_store put_store use_slot
written-whole r b e f n w found table used cache h ways hit narrow one_line long c d u =
    let v = f + w in
    let way = h.way w hit in
    let here : present b (line_of e.address) ≡ true = sym h.here ∙ ap is_hit hit in
    let put : cache ≡ each_from (overlaid (16 * v + e.address % 16) e.width e.value) 0 b.cache =
    c ∙ put-inside _ _ _ b.cache narrow (omega (arith, h.within)) in
    let aged : used ≡ each_from (aged_at f b.figures.ways v (tag_at table v).age) 0 table =
    (rw ways at u) ∙ sym (cond-then _ _ (slot-in-set b f v h.within h.room (omega arith) (omega arith))) in
    rw (here, aged, d, put, h.slot w hit, h.first)

-- ---- flush

pub flush-parts :
    (b : Hierarchy)
    → write_back_all b
    ≡ hierarchy b.figures b.size (flushed_tags (slots b) b.tags) b.cache (flushed_memory (slots b) b.tags b.cache b.memory)
unfolding write_back_all
flush-parts b = flushed-all (slots b) b

-- ---- show line

-- so many bytes, where there are so many
pub bytes-long : (p n : ℕ) (cache : List ℕ) → length (bytes_from p n cache) ≡ n
unfolding bytes_from
bytes-long p n cache = each-length _ 0 (replicate n 0) ∙ length-replicate n 0

pub bytes-from : (p n : ℕ) (cache : List ℕ) → p + n ≤ length cache → bytes_from p n cache ≡ take n (drop p cache)
unfolding bytes_from
bytes-from p n cache h =
    ext_get_or 0 _ _ (bytes-long p n cache ∙ sym taken) λ i b.
    let small : i < n = omega (arith, bytes-long p n cache) in
    each_at _ (replicate n 0) 0 i (omega (arith, length-replicate n (zero))) ∙ sym (rw (get_or-take, get_or-drop))
  where
    taken : length (take n (drop p cache)) ≡ n
    taken = omega (arith, length-take n (drop p cache), length-drop p cache)

take_again : (n : ℕ) (l : List ℕ) → take (length (take n l)) l ≡ take n l
take_again zero l = refl
take_again (suc n) [] = refl
take_again (suc n) (x ∷ l) = ap (λ (r : List ℕ). x ∷ r) (take_again n l)

module _ (a : ℕ) (s : State) (cache memory : List ℕ) where
  -- the answer of show line by its part
  abbrev Whole : Outcome → Type 0
  Whole o =
      o
      ≡ unchanged (shown (part_in o.answer).start (take (part_in o.answer).length (drop (part_in o.answer).start cache))) (queues_of s) (hierarchy_of s cache memory)

  pub show-step :
      outcome (rules.show a) (queues_of s) (hierarchy_of s cache memory)
      ≡ unchanged
      (shown (shown_part a (world_of s cache memory)).start (take (shown_part a (world_of s cache memory)).length (drop (shown_part a (world_of s cache memory)).start cache)))
      (queues_of s) (hierarchy_of s cache memory)
  unfolding shown_part answer
  show-step =
      outcome-by (rules.show a) (queues_of s) (hierarchy_of s cache memory) Whole (λ k. refl)
      (λ f g p. unfold show_rule in (go (ltb a s.size && present (hierarchy_of s cache memory) (line_of a))))
    where
      p : ℕ
      p = place_of (hierarchy_of s cache memory) a

      go :
          (t : Bool)
          → Whole (unchanged (cond t (shown p (take 16 (drop p cache))) empty_part) (queues_of s) (hierarchy_of s cache memory))
      go true = ap (λ (bs : List ℕ). unchanged (shown p bs) (queues_of s) (hierarchy_of s cache memory)) (sym (take_again 16 (drop p cache)))
      go false = refl

  pub show-answers :
      (p : Part) → p ≡ shown_part a (world_of s cache memory) → p.start + p.length ≤ length cache
      → unchanged (shown p.start (bytes_from p.start p.length cache)) (queues_of s) (hierarchy_of s cache memory)
      ≡ outcome (rules.show a) (queues_of s) (hierarchy_of s cache memory)
  show-answers p e h =
      ap (λ (bs : List ℕ). unchanged (shown p.start bs) (queues_of s) (hierarchy_of s cache memory)) (bytes-from p.start p.length cache h)
      ∙ rw e (sym show-step)

  pub show-refused : outcome (rules.show a) (queues_of s) (hierarchy_of s cache memory) ≡ unchanged empty_part (queues_of s) (hierarchy_of s cache memory) → record { start = 0; length = 0 } ≡ shown_part a (world_of s cache memory)
  unfolding shown_part answer
  show-refused e = sym (ap (λ (o : Outcome). part_in o.answer) e)

  module _ (does : outcome (rules.show a) (queues_of s) (hierarchy_of s cache memory) ≡ show_rule a (queues_of s) (hierarchy_of s cache memory)) where
    pub show-outside : s.size ≤ a → record { start = 0; length = 0 } ≡ shown_part a (world_of s cache memory)
    unfolding shown_part answer show_rule
    show-outside h = sym (ap (λ (o : Outcome). part_in o.answer) does ∙ rw (le-ltb a s.size h))

    pub show-absent : a < s.size → present (hierarchy_of s cache memory) (line_of a) ≡ false → record { start = 0; length = 0 } ≡ shown_part a (world_of s cache memory)
    unfolding shown_part answer show_rule
    show-absent h t = sym (ap (λ (o : Outcome). part_in o.answer) does ∙ rw (lt-ltb a s.size h, t))

    pub show-present :
        (v : ℕ) → a < s.size → present (hierarchy_of s cache memory) (line_of a) ≡ true → v ≡ slot_of (hierarchy_of s cache memory) (line_of a) → 16 * v + 16 ≤ length cache
        → record { start = 16 * v; length = 16 } ≡ shown_part a (world_of s cache memory)
    unfolding shown_part answer show_rule place_of
    show-present v h t e r =
        let n : length (take 16 (drop (16 * v) cache)) ≡ 16 = omega (arith, length-take 16 (drop (16 * v) cache), length-drop (16 * v) cache) in
        sym (ap (λ (o : Outcome). part_in o.answer) does ∙ rw (lt-ltb a s.size h, t, ← e, n))

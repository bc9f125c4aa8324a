-- Stores applied to memory, flat memory of a state as a list, and the value of a load as what flat memory holds once the older held
-- stores are applied.
use Prim.Native.Nat.{ℕ, ◌+◌, ◌*◌, ◌%◌, ◌≤◌, ◌<◌}
use mathlib.Core.Path.{◌≡◌, refl, sym, ◌∙◌, ap, ap₂}
use mathlib.Core.Bool.{Bool, true, false, cond, not, ◌&&◌, ◌||◌}
use mathlib.Core.List.{List, [], ◌∷◌, ◌++◌}
use mathlib.Core.Option.{some, none}
use native.Mathlib.Omega.{arith}
use lib.ListN.{length, get_or}
use lib.Seq.{ext_get_or}
use Rattle.lists.specs.Padded.{any, final, filter}
use Rattle.lists.specs.Counted.{all_from, some_from}
use Rattle.lists.specs.Bytes.{among, value_at}
use Rattle.lists.proofs.Cond.{either, cases}
use Rattle.lists.proofs.Counting.{each-length, each_at}
use Rattle.lists.proofs.Selected.{any-filter, final-filter, final-none, final-some}
use Rattle.lists.proofs.Bytes.{put-length, put_byte, gather-known, some-lacking}
use Rattle.rules.specs.declared.Figures.{Figures}
use Rattle.rules.specs.declared.StoreEntry.{StoreEntry}
use Rattle.rules.specs.declared.LoadEntry.{LoadEntry}
use Rattle.rules.specs.Shape.{Hierarchy, no_store, line_of, writes_through, fits}
use Rattle.rules.specs.Lines.{present, use_slot, use_line, write_store, write_back_slot, write_back_all, install, fill_line}
use Rattle.rules.specs.Forward.{older_covers, store_byte, load_byte, load_value, lacking}
use Rattle.rules.specs.declared.Lookup.{Lookup}
use Rattle.rules.specs.Calls.{value, wait_answer, load_answer, use_each}
use Rattle.rules.specs.WellFormed.{lines_formed}
use Rattle.rules.specs.Runs.{started}
use Rattle.rules.specs.Flat.{flat_byte, flat_of, applied, applied_all, held_store, below}
use Rattle.rules.proofs.FlatLines.{cached, use-flat, write-flat, write-length, back-flat, back-memory, back-length, fill-flat, start-flat}

-- ---- stores applied

applied-length : (s : StoreEntry) (m : List ℕ) → length (applied s m) ≡ length m
unfolding applied
applied-length s m = put-length s.width s.address s.value m

abbrev covers : ℕ → StoreEntry → Bool
covers a s = among s.address s.width a

applied-byte : (s : StoreEntry) (m : List ℕ) (a : ℕ) → a < length m → get_or (applied s m) a 0 ≡ cond (covers a s) (store_byte s a) (get_or m a 0)
unfolding applied
applied-byte s m a h = put_byte s.width s.address s.value m a h

pub all-length : (ss : List StoreEntry) (m : List ℕ) → length (applied_all ss m) ≡ length m
unfolding applied_all
all-length [] m = refl
all-length (s ∷ ss) m = all-length ss (applied s m) ∙ applied-length s m

pub all_append : (ss ts : List StoreEntry) (m : List ℕ) → applied_all (ss ++ ts) m ≡ applied_all ts (applied_all ss m)
unfolding applied_all
all_append [] ts m = refl
all_append (s ∷ ss) ts m = all_append ss ts (applied s m)

-- one more store, which covers the byte at a or not, in front of others
over :
    (d s : StoreEntry) (ss : List StoreEntry) (z a : ℕ) (t : Bool)
    → cond (any (covers a) ss) (store_byte (final (covers a) d ss) a) (cond t (store_byte s a) z)
    ≡ cond (t || any (covers a) ss) (store_byte (final (covers a) (cond t s d) ss) a) z
over d s ss z a true =
    cases (any (covers a) ss) (λ e. rw e (ap (λ (r : StoreEntry). store_byte r a) (final-some (covers a) d s ss e)))
    (λ e. rw e (ap (λ (r : StoreEntry). store_byte r a) (sym (final-none (covers a) s ss e))))
over d s ss z a false = refl

-- the byte at a is that of the last store that covers it, else as it was
all-byte :
    (d : StoreEntry) (ss : List StoreEntry) (m : List ℕ) (a : ℕ) → a < length m
    → get_or (applied_all ss m) a 0 ≡ cond (any (covers a) ss) (store_byte (final (covers a) d ss) a) (get_or m a 0)
unfolding applied_all any final
all-byte d [] m a h = refl
all-byte d (s ∷ ss) m a h =
    all-byte d ss (applied s m) a (omega (arith, applied-length s m))
    ∙ ap (λ (x : ℕ). cond (any (covers a) ss) (store_byte (final (covers a) d ss) a) x) (applied-byte s m a h)
    ∙ over d s ss (get_or m a 0) a (covers a s)

-- ---- flat memory of a state

pub flat-length : (b : Hierarchy) → length (flat_of b) ≡ length b.memory
flat-length b = each-length (λ a x. flat_byte b a) 0 b.memory

flat-at : (b : Hierarchy) (a : ℕ) → a < length b.memory → get_or (flat_of b) a 0 ≡ flat_byte b a
flat-at b a h = each_at (λ a x. flat_byte b a) b.memory 0 a h

-- memory as long, with these bytes
flat-is : (b : Hierarchy) (m : List ℕ) → length m ≡ length b.memory → ((a : ℕ) → a < length m → flat_byte b a ≡ get_or m a 0) → flat_of b ≡ m
flat-is b m n h =
    ext_get_or 0 (flat_of b) m (flat-length b ∙ sym n)
    (λ a l. flat-at b a (omega (arith, flat-length b)) ∙ h a (omega (arith, flat-length b)))

flat-same : (b c : Hierarchy) → length c.memory ≡ length b.memory → ((a : ℕ) → flat_byte c a ≡ flat_byte b a) → flat_of c ≡ flat_of b
flat-same b c n h =
    flat-is c (flat_of b) (flat-length b ∙ sym n) (λ a l. h a ∙ sym (flat-at b a (omega (arith, flat-length b))))

pub flat-use : (l : ℕ) (b : Hierarchy) → flat_of (use_line l b) ≡ flat_of b
flat-use l b = flat-same b (use_line l b) length-use (use-flat l b)
  where
    length-use : length (use_line l b).memory ≡ length b.memory
    length-use = unfold use_line use_slot in (either (λ (c : Hierarchy). length c.memory ≡ length b.memory) (present b l) (λ e. refl) (λ e. refl))

pub flat-use-each : (ls : List LoadEntry) (b : Hierarchy) → flat_of (use_each ls b) ≡ flat_of b
unfolding use_each
flat-use-each [] b = refl
flat-use-each (l ∷ ls) b = flat-use-each ls (use_line (line_of l.address) b) ∙ flat-use (line_of l.address) b

module _ (b : Hierarchy) (f : fits b ≡ true) (g : lines_formed b ≡ true) where
  -- a store written, to its present line or through, is applied
  pub flat-write : (s : StoreEntry) → (writes_through b || present b (line_of s.address)) ≡ true → s.address % 4 + s.width ≤ 4 → flat_of (write_store s b) ≡ applied s (flat_of b)
  flat-write s here in-word =
      flat-is (write_store s b) (applied s (flat_of b)) (applied-length s (flat_of b) ∙ flat-length b ∙ sym (write-length s b))
      (λ a l.
      let near : a < length (flat_of b) = omega (arith, applied-length s (flat_of b)) in
      write-flat s b f g here in-word a (omega (arith, flat-length b))
      ∙ ap (λ (x : ℕ). cond (covers a s) (store_byte s a) x) (sym (flat-at b a (omega (arith, flat-length b))))
      ∙ sym (applied-byte s (flat_of b) a near))

  pub flat-fill : (l : ℕ) → present b l ≡ false → 16 * l < b.size → flat_of (fill_line l b) ≡ flat_of b
  flat-fill l absent inside = flat-same b (fill_line l b) length-fill (fill-flat l b f g absent (omega arith))
    where
      length-fill : length (fill_line l b).memory ≡ length b.memory
      length-fill = unfold fill_line use_slot install write_back_slot in each-length _ 0 b.memory

  pub flat_back : flat_of (write_back_all b) ≡ flat_of b
  flat_back = flat-same b (write_back_all b) (back-length b) (back-flat b f g)

  -- memory, once every dirty word is written back
  pub memory-back : (write_back_all b).memory ≡ flat_of b
  memory-back = sym (flat-is b (write_back_all b).memory (back-length b) (λ a l. sym (back-memory b f g a)))

pub flat_start : (f : Figures) (memory : List ℕ) → flat_of (started f memory).hierarchy ≡ memory
flat_start f memory =
    flat-is (started f memory).hierarchy memory (unfold started in refl) (λ a l. start-flat f memory a)

-- ---- the value of a load

and_assoc : (p q r : Bool) → (p && (q && r)) ≡ ((p && q) && r)
and_assoc true q r = refl
and_assoc false q r = refl

-- a held store numbered below i
abbrev pub older_held : ℕ → StoreEntry → Bool
older_held i s = held_store s && below i s

module _ (i : ℕ) (ss : List StoreEntry) (b : Hierarchy) where
  -- flat memory of the state, with the older held stores applied
  abbrev pub flat_older : List ℕ
  flat_older = applied_all (filter (older_held i) ss) (flat_of b)

  -- byte x is in an older held store, or its line is present
  abbrev known : ℕ → Bool
  known x = any (older_covers i x) ss || present b (line_of x)

  covers-parts : (a : ℕ) (s : StoreEntry) → older_covers i a s ≡ (older_held i s && covers a s)
  unfolding older_covers
  covers-parts a s = and_assoc (held_store s) (below i s) (covers a s)

  older-byte : (x : ℕ) → x < length b.memory → get_or flat_older x 0 ≡ cond (any (older_covers i x) ss) (store_byte (final (older_covers i x) no_store ss) x) (flat_byte b x)
  older-byte x lt =
      all-byte no_store (filter (older_held i) ss) (flat_of b) x (omega (arith, flat-length b))
      ∙ ap₂ (λ (t : Bool) (s : StoreEntry). cond t (store_byte s x) (get_or (flat_of b) x 0))
      (any-filter (older_held i) (covers x) (older_covers i x) (covers-parts x) ss)
      (final-filter (older_held i) (covers x) (older_covers i x) (covers-parts x) no_store ss)
      ∙ ap (λ (y : ℕ). cond (any (older_covers i x) ss) (store_byte (final (older_covers i x) no_store ss) x) y) (flat-at b x lt)

  byte-known : (x : ℕ) → x < length b.memory → load_byte i ss b x ≡ cond (known x) (some (get_or flat_older x 0)) none
  unfolding load_byte
  byte-known x lt =
      cases (any (older_covers i x) ss) (λ e. rw (older-byte x lt, e)) (λ e. rw (older-byte x lt, e) (cached b x))

  lacking-unknown : (x : ℕ) → lacking i ss b x ≡ not (known x)
  lacking-unknown x = cases (any (older_covers i x) ss) (λ e. rw e) (λ e. rw e)

  -- a load waits, in the word for what the lookup says, if a byte is lacking; else it answers what flat memory holds
  pub load-answers :
      (f : Lookup) (a n : ℕ) → a + n ≤ length b.memory
      → load_answer i f (load_value i a n ss b) ≡ cond (some_from (lacking i ss b) a n) (wait_answer i f) (value i (value_at flat_older a n))
  unfolding load_value
  load-answers f a n inside =
      ap (load_answer i f) (gather-known (load_byte i ss b) known flat_older a n (λ x l u. byte-known x (omega arith)))
      ∙ (go (all_from known a n)
      ∙ ap (λ (t : Bool). cond t (wait_answer i f) (value i (value_at flat_older a n))) (sym (some-lacking known (lacking i ss b) lacking-unknown a n)))
    where
      go : (t : Bool) → load_answer i f (cond t (some (value_at flat_older a n)) none) ≡ cond (not t) (wait_answer i f) (value i (value_at flat_older a n))
      go true = refl
      go false = refl

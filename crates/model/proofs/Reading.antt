-- What a load reads, byte by byte, is the rules' value: its line is looked up once.
use Prim.Native.Nat.{ℕ, zero, suc, ◌+◌, ◌*◌, ◌-◌, ◌%◌, ◌<◌, ◌≤◌}
use mathlib.Core.Path.{◌≡◌, refl, sym, ◌∙◌, ap, ap₂}
use mathlib.Core.Bool.{Bool, true, false}
use mathlib.Core.List.{List}
use Rattle.std.proofs.Math.Option as math
use Rattle.std.proofs.Common.{Option, MatchOption, is_some, not}
use native.Mathlib.Omega.{arith}
use lib.ListN.{length}
use Rattle.lists.specs.Bytes.{add_byte, gather}
use Rattle.lists.proofs.Cond.{cases, wrong}
use Rattle.rules.specs.declared.StoreEntry.{StoreEntry}
use Rattle.rules.specs.declared.Lookup.{Lookup}
use Rattle.rules.specs.declared.Lookup.TheVariants.{Hit, Pending, Miss}
use Rattle.rules.specs.Shape.{Queues, Hierarchy, line_of, slots}
use Rattle.rules.specs.Lines.{slot_of, present, place_of, cached_byte}
use Rattle.rules.specs.Forward.{load_byte, load_value, all_forwarded}
use Rattle.rules.specs.Calls.{wait_answer, load_answer, is_none}
use Rattle.records.specs.Records.{is_hit}
use Rattle.line_bytes.specs.declared.Loaded.{Loaded}
use Rattle.line_bytes.specs.Reads.{read_of, byte_from, bytes_read}
use Rattle.rules.proofs.Entries.{none-forwarded}
use Rattle.line_bytes.proofs.Reading.{is-readable, read-inside, lacking-read, forwarded-read}
use Rattle.model.specs.State.{InOneLine, answer_of}
use Rattle.model.specs.declared.read.Reading.{Reading}
use Rattle.model.specs.Reads.{place_in, reading_of, wait_of, answer_to}
use Rattle.model.proofs.Leaves.{Located}

-- ---- the value

-- bytes that agree give the same value
gather-same : (f g : ℕ → math.Option ℕ) (w a : ℕ) → ((x : ℕ) → a ≤ x → x < a + w → f x ≡ g x) → gather f a w ≡ gather g a w
unfolding gather
gather-same f g zero a h = refl
gather-same f g (suc w) a h =
    ap₂ add_byte (h a (omega arith) (omega arith)) (gather-same f g w (suc a) (λ x l u. h x (omega arith) (omega arith)))

module _ (i a w : ℕ) (ss : List StoreEntry) (b : Hierarchy) (f : InOneLine a w) (p : ℕ) (here : Bool)
    (t : here ≡ present b (line_of a)) (at : here ≡ true → p ≡ 16 * slot_of b (line_of a) + a % 16) where
  -- all bytes of the access stand in one line
  one_byte : (x : ℕ) → a ≤ x → x < a + w → byte_from i a ss b.cache p here x ≡ load_byte i ss b x
  unfolding byte_from load_byte cached_byte place_of
  one_byte x l u =
      let e : line_of x ≡ line_of a = unfold line_of in omega (arith, f.one_line) in
      cases here
      (λ y. let m : p + (x - a) ≡ 16 * slot_of b (line_of a) + x % 16 = omega (arith, at y, f.one_line) in rw (e, y, sym t ∙ y, m))
      (λ n. rw (e, n, sym t ∙ n))

  -- what `read_bytes` answers, when it is told whether the line is present, and where its bytes stand
  read_told :
      p ≤ 65536 → (here ≡ true → p + w ≤ length b.cache) → bytes_read i a w ss b.cache p here ≡ read_of (all_forwarded i ss a w) (load_value i a w ss b)
  unfolding load_value
  read_told low inside =
      let r = is-readable _ _ _ _ _ (record { narrow = f.narrow; low = f.inside; place-low = low; in-cache = inside }) in
      read-inside i a w ss b.cache _ _ r ∙ ap (read_of (all_forwarded i ss a w)) (gather-same (byte_from i a ss b.cache p here) (load_byte i ss b) w a one_byte)

-- what `read_bytes` answers, when it is told what the lookup said
module _ (q : Queues) (b : Hierarchy) (i a w : ℕ) (f : InOneLine a w) (g : ℕ) (found : Lookup) (h : Located q.request b (line_of a) g found)
    (long : length b.cache ≡ slots b * 16) where
  place_is : is_hit found ≡ true → (16 * slot_of b (line_of a) + a % 16 ≡ place_in g found a) × (place_in g found a + w ≤ length b.cache)
  place_is = go found refl
    where
      go : (x : Lookup) → found ≡ x → is_hit x ≡ true → (16 * slot_of b (line_of a) + a % 16 ≡ place_in g x a) × (place_in g x a + w ≤ length b.cache)
      go (Hit v) e t =
          (ap (λ (k : ℕ). 16 * k + a % 16) (sym (h.slot v e)), omega (arith, h.way v e, h.within, f.one_line))
      go Pending e t = wrong t refl
      go Miss e t = wrong t refl

  place-low : place_in g found a ≤ 65536
  place-low = go found refl
    where
      go : (x : Lookup) → found ≡ x → place_in g x a ≤ 65536
      go (Hit v) e = omega (arith, h.way v e, h.within, h.room)
      go Pending e = omega arith
      go Miss e = omega arith

  pub read-located :
      record { found = found; read = bytes_read i a w q.stores b.cache (place_in g found a) (is_hit found) } ≡ reading_of i a w q b
  read-located =
      rw (← h.says) (ap (λ (r : Option (Loaded ℕ)). record { found = found; read = r })
      (read_told i a w q.stores b f (place_in g found a) (is_hit found) h.here (λ t. sym (place_is t).0) place-low (λ t. (place_is t).1)))

-- ---- a load's answer

pub wait-read : (i : ℕ) (f : Lookup) (cache : List ℕ) → answer_of (wait_of i f) cache ≡ wait_answer i f
wait-read i (Hit w) cache = refl
wait-read i Pending cache = refl
wait-read i Miss cache = refl

pub answer-read : (i : ℕ) (f : Lookup) (t : Bool) (o : math.Option ℕ) (cache : List ℕ) → answer_of (answer_to i f (read_of t o)) cache ≡ load_answer i f o
answer-read i f t math.none cache = wait-read i f cache
answer-read i f t (math.some v) cache = refl

-- what is listed of it, by what was read
module _ (i a w : ℕ) (q : Queues) (b : Hierarchy) (r : Reading) (e : r ≡ reading_of i a w q b) where
  pub waiting-is : (x : Bool) → is_some r.read ≡ not x → x ≡ is_none (load_value i a w q.stores b)
  waiting-is x h = lacking-read (all_forwarded i q.stores a w) (load_value i a w q.stores b) x (rw e at h)

  pub forwarded-is : (x : Bool) → MatchOption r.read (x ≡ false) (λ l. x ≡ l.forwarded) → x ≡ all_forwarded i q.stores a w
  forwarded-is x h = forwarded-read (all_forwarded i q.stores a w) (load_value i a w q.stores b) (none-forwarded i q.stores b w a) x (rw e at h)

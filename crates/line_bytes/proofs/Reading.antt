-- Laws for what a load reads: a value joined from its bytes, the lowest first; a byte from the held stores, else from the line.
use Rattle.std.proofs.Common.{ℕ, zero, suc, ◌+◌, ◌*◌, ◌-◌, ◌^◌, ◌<◌, ◌≤◌, ◌≡◌, refl, sym, ◌∙◌, ap, ap₂, Bool, true, false, cond, not, ◌&&◌, leb, List, [], ◌∷◌, length, get_or, set, Option, Some, None, option_map, is_some, MatchOption, w32, arith}
use Rattle.std.proofs.Math.Option as math
use Rattle.std.specs.Int.{from_le_bytes}
use borrow.Author.Tests.{leb-true, le-leb}
use Rattle.lists.specs.Padded.{any, final}
use Rattle.lists.specs.Bytes.{add_byte, gather}
use Rattle.lists.specs.Counted.{all_from}
use Rattle.lists.proofs.Cond.{cases, and_left, and_right, or-then}
use Rattle.rules.specs.declared.StoreEntry.{StoreEntry}
use Rattle.rules.specs.Shape.{no_store}
use Rattle.rules.specs.Forward.{older_covers, store_byte, all_forwarded}
use Rattle.rules.specs.Calls.{is_none}
use Rattle.store_queue.specs.Forwarded.{forwarded}
use Rattle.line_bytes.specs.declared.Loaded.{Loaded}
use Rattle.line_bytes.specs.Writes.{places_inside}
use Rattle.line_bytes.specs.Reads.{loaded, read_of, byte_from, byte_or_line, readable, bytes_read}
use Rattle.line_bytes.proofs.Writing.{inside-tells, is-inside}

-- ---- values put together from bytes

-- what is read of k lower bytes, of which the value is low, joins what is read above them
abbrev pub joined_above : ℕ → ℕ → Bool → Option (Loaded ℕ) → Option (Loaded ℕ)
joined_above k low t None = None
joined_above k low t (Some r) = Some (loaded (t && r.forwarded) (low + 256 ^ k * r.value))

and_assoc : (a b c : Bool) → (a && (b && c)) ≡ ((a && b) && c)
and_assoc true b c = refl
and_assoc false b c = refl

higher : (k low x y : ℕ) → k ≤ 3 → low + 256 ^ k * (x + 256 * y) ≡ low + 256 ^ k * x + 256 ^ (k + 1) * y
higher zero low x y h = omega arith
higher (suc zero) low x y h = omega arith
higher (suc (suc zero)) low x y h = omega arith
higher (suc (suc (suc zero))) low x y h = omega arith
higher (suc (suc (suc (suc k)))) low x y h = absurd (omega arith)

module _ (f : ℕ → math.Option ℕ) (k a n : ℕ) (low : ℕ) (t : Bool) where
  -- the next byte is lacking
  pub join-none : (s u : Bool) → None ≡ read_of s (f a) → joined_above k low t (read_of u (gather f a (suc n))) ≡ None
  unfolding gather add_byte
  join-none s u e = go (f a) refl e
    where
      go : (x : math.Option ℕ) → f a ≡ x → None ≡ read_of s x → joined_above k low t (read_of u (add_byte x (gather f (suc a) n))) ≡ None
      go math.none p e = refl
      go (math.some x) p e = cc

  -- the next byte joins those below it
  pub join-some :
      (s u : Bool) (b : Loaded ℕ) → Some b ≡ read_of s (f a) → k ≤ 3
      → joined_above k low t (read_of (s && u) (gather f a (suc n))) ≡ joined_above (k + 1) (low + 256 ^ k * b.value) (t && b.forwarded) (read_of u (gather f (suc a) n))
  unfolding gather add_byte
  join-some s u b e h = go (f a) refl e (gather f (suc a) n)
    where
      go : (x : math.Option ℕ) → f a ≡ x → Some b ≡ read_of s x → (y : math.Option ℕ)
          → joined_above k low t (read_of (s && u) (add_byte x y)) ≡ joined_above (k + 1) (low + 256 ^ k * b.value) (t && b.forwarded) (read_of u y)
      go math.none p e y = cc
      go (math.some x) p e math.none = refl
      go (math.some x) p e (math.some y) =
          let z : b ≡ loaded s x = cc in
          rw z (ap₂ (λ (v : Bool) (n : ℕ). Some (loaded v n)) (and_assoc t s u) (higher k low x y h))

-- no bytes are left
pub join-end : (f : ℕ → math.Option ℕ) (k a low : ℕ) (t : Bool) → joined_above k low t (read_of true (gather f a 0)) ≡ Some (loaded t low)
unfolding gather
join-end f k a low t = cases t (λ e. rw e (ap (λ (n : ℕ). Some (loaded true n)) (omega arith))) (λ e. rw e (ap (λ (n : ℕ). Some (loaded false n)) (omega arith)))

-- the value of four bytes, when a byte that was 0 is set
pub four-set : (bytes : List ℕ) (k v : ℕ) → length bytes ≡ 4 → k ≤ 3 → get_or bytes k 0 ≡ 0 → from_le_bytes w32 (set bytes k v) ≡ from_le_bytes w32 bytes + 256 ^ k * v
four-set [] k v l h z = absurd (omega arith)
four-set (p ∷ []) k v l h z = absurd (omega arith)
four-set (p ∷ q ∷ []) k v l h z = absurd (omega arith)
four-set (p ∷ q ∷ r ∷ []) k v l h z = absurd (omega arith)
four-set (p ∷ q ∷ r ∷ s ∷ []) zero v l h z = omega arith
four-set (p ∷ q ∷ r ∷ s ∷ []) (suc zero) v l h z = omega arith
four-set (p ∷ q ∷ r ∷ s ∷ []) (suc (suc zero)) v l h z = omega arith
four-set (p ∷ q ∷ r ∷ s ∷ []) (suc (suc (suc zero))) v l h z = omega arith
four-set (p ∷ q ∷ r ∷ s ∷ []) (suc (suc (suc (suc k)))) v l h z = absurd (omega arith)
four-set (p ∷ q ∷ r ∷ s ∷ w ∷ x) k v l h z = absurd (omega arith)

-- ---- one byte

module _ (i a : ℕ) (ss : List StoreEntry) (cache : List ℕ) (p : ℕ) (here : Bool) where
  -- the byte that the code reads
  pub byte-from : (x : ℕ) → byte_or_line i x ss cache (p + (x - a)) here ≡ read_of (any (older_covers i x) ss) (byte_from i a ss cache p here x)
  unfolding byte_or_line byte_from
  byte-from x = cases (any (older_covers i x) ss) (λ e. rw e) (λ e. cases here (λ h. rw (e, h)) (λ h. rw (e, h)))

  -- from the held stores, else from the line
  pub known-byte : (x : ℕ) → forwarded i a ss ≡ Some x → Some (loaded true x) ≡ byte_or_line i a ss cache p here
  unfolding forwarded byte_or_line
  known-byte x e = cases (any (older_covers i a) ss)
      (λ t. rw t (ap (λ (o : Option ℕ). option_map (loaded true) o) (sym (rw t at e))))
      (λ t. let z : None ≡ Some x = rw t at e in cc)

  unknown-byte : forwarded i a ss ≡ None → cond here (Some (loaded false (get_or cache p 0))) None ≡ byte_or_line i a ss cache p here
  unfolding forwarded byte_or_line
  unknown-byte e = cases (any (older_covers i a) ss)
      (λ t. let z : Some (store_byte (final (older_covers i a) no_store ss) a) ≡ None = rw t at e in cc)
      (λ t. rw t)

  pub line-byte : forwarded i a ss ≡ None → here ≡ true → Some (loaded false (get_or cache p 0)) ≡ byte_or_line i a ss cache p here
  line-byte e h = ap (λ (t : Bool). cond t (Some (loaded false (get_or cache p 0))) None) (sym h) ∙ unknown-byte e

  pub no_byte : forwarded i a ss ≡ None → here ≡ false → None ≡ byte_or_line i a ss cache p here
  no_byte e h = ap (λ (t : Bool). cond t (Some (loaded false (get_or cache p 0))) None) (sym h) ∙ unknown-byte e

-- ---- the bytes that are left to read

module _ (i a w : ℕ) (ss : List StoreEntry) (cache : List ℕ) (p : ℕ) (here : Bool) where
  -- those from the one after k bytes on
  abbrev pub left : ℕ → Option (Loaded ℕ)
  left k = read_of (all_forwarded i ss (a + k) (w - k)) (gather (byte_from i a ss cache p here) (a + k) (w - k))

  module _ (k low : ℕ) (t : Bool) where
    module _ (h : k < w) where
      next-byte : byte_or_line i (a + k) ss cache (p + k) here ≡ read_of (any (older_covers i (a + k)) ss) (byte_from i a ss cache p here (a + k))
      next-byte = let e : p + (a + k - a) ≡ p + k = omega arith in rw e at (byte-from i a ss cache p here (a + k))

      -- the next byte is lacking, or joins those below it
      pub left-lacking : None ≡ byte_or_line i (a + k) ss cache (p + k) here → joined_above k low t (left k) ≡ None
      unfolding all_forwarded all_from
      left-lacking e =
          let n : w - k ≡ suc (w - (k + 1)) = omega arith in
          rw n (join-none (byte_from i a ss cache p here) k (a + k) (w - (k + 1)) low t (any (older_covers i (a + k)) ss) _ (e ∙ next-byte))

      pub left-joins : (b : Loaded ℕ) → Some b ≡ byte_or_line i (a + k) ss cache (p + k) here → w ≤ 4
          → joined_above k low t (left k) ≡ joined_above (k + 1) (low + 256 ^ k * b.value) (t && b.forwarded) (left (k + 1))
      unfolding all_forwarded all_from
      left-joins b e l =
          let n : w - k ≡ suc (w - (k + 1)) = omega arith in
          let x : a + (k + 1) ≡ suc (a + k) = omega arith in
          rw (n, x) (join-some (byte_from i a ss cache p here) k (a + k) (w - (k + 1)) low t (any (older_covers i (a + k)) ss) _ b (e ∙ next-byte) (omega arith))

    -- none is left
    pub left-none : w ≤ k → joined_above k low t (left k) ≡ Some (loaded t low)
    unfolding all_forwarded all_from
    left-none h = let n : w - k ≡ 0 = omega arith in rw n (join-end (byte_from i a ss cache p here) k (a + k) low t)

-- ---- which bytes can be read

-- the bounds that make bytes readable
pub record Inside (a w p : ℕ) (here : Bool) (n : ℕ) : Type 0 where
  pub narrow : w ≤ 4
  pub low : a + w ≤ 65536
  pub place-low : p ≤ 65536
  pub in-cache : here ≡ true → p + w ≤ n

module _ (a w p : ℕ) (here : Bool) (n : ℕ) where
  pub readable-tells : readable a w p here n ≡ true → Inside a w p here n
  unfolding readable
  readable-tells e =
      let s = inside-tells a w 65536 (and_left _ _ e) in
      let r = and_right (places_inside a w 65536) _ e in
      record {
        narrow = s.0;
        low = s.1;
        place-low = leb-true p 65536 (and_left _ _ r);
        in-cache = λ h. (inside-tells p w n (or-then (not here) (places_inside p w n) (and_right (leb p 65536) _ r) (rw h))).1;
      }

  pub is-readable : Inside a w p here n → readable a w p here n ≡ true
  unfolding readable
  is-readable g =
      rw (is-inside a w 65536 g.narrow g.low, le-leb p 65536 g.place-low)
      (cases here (λ h. rw (h, is-inside p w n g.narrow (g.in-cache h))) (λ h. rw h))

-- what is read
module _ (i a w : ℕ) (ss : List StoreEntry) (cache : List ℕ) (p : ℕ) (here : Bool) where
  pub read-inside : readable a w p here (length cache) ≡ true → bytes_read i a w ss cache p here ≡ read_of (all_forwarded i ss a w) (gather (byte_from i a ss cache p here) a w)
  unfolding bytes_read
  read-inside e = rw e

  pub read-outside : readable a w p here (length cache) ≡ false → None ≡ bytes_read i a w ss cache p here
  unfolding bytes_read
  read-outside e = rw e

-- ---- read or lacking

module _ (t : Bool) where
  pub lacking-read : (o : math.Option ℕ) (r : Bool) → is_some (read_of t o) ≡ not r → r ≡ is_none o
  lacking-read math.none true e = refl
  lacking-read math.none false e = cc
  lacking-read (math.some v) true e = cc
  lacking-read (math.some v) false e = refl

  -- one that waits is not forwarded
  pub forwarded-read : (o : math.Option ℕ) → (is_none o ≡ true → t ≡ false) → (r : Bool) → MatchOption (read_of t o) (r ≡ false) (λ x. r ≡ x.forwarded) → r ≡ t
  forwarded-read math.none h r e = e ∙ sym (h refl)
  forwarded-read (math.some v) h r e = e

  pub lacks : (o : math.Option ℕ) → read_of t o ≡ None → o ≡ math.none
  lacks math.none e = refl
  lacks (math.some v) e = cc

  pub loaded-of : (o : math.Option ℕ) (r : Loaded ℕ) → read_of t o ≡ Some r → o ≡ math.some r.value
  loaded-of math.none r e = cc
  loaded-of (math.some x) r e = let z : loaded t x ≡ r = cc in ap (λ (l : Loaded ℕ). math.some l.value) z

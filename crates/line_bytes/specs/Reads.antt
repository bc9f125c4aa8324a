-- What a load reads, in the code's types: a byte from a held store, from its line or from neither; a value, forwarded or not, or none.
use Rattle.std.specs.Prelude.{ℕ, ◌+◌, ◌-◌, Bool, true, false, cond, not, ◌&&◌, ◌||◌, List, leb, length, get_or, Option, Some, None}
use Rattle.std.proofs.Math.Option as math
use Rattle.lists.specs.Padded.{any, final}
use Rattle.lists.specs.Bytes.{gather}
use Rattle.rules.specs.declared.StoreEntry.{StoreEntry}
use Rattle.rules.specs.Shape.{no_store}
use Rattle.rules.specs.Forward.{older_covers, store_byte, all_forwarded}
use Rattle.line_bytes.specs.declared.Loaded.{Loaded}
use Rattle.line_bytes.specs.Writes.{places_inside}

-- a byte or a value, when it came from held stores or not
abbrev pub loaded : Bool → ℕ → Loaded ℕ
loaded t v = record { value = v; forwarded = t }

-- a byte or a value of the rules as that of the code
abbrev pub read_of : Bool → math.Option ℕ → Option (Loaded ℕ)
read_of t math.none = None
read_of t (math.some v) = Some (loaded t v)

-- the byte at x, when the byte at a stands at place p of the cache if the line is there
unfoldable pub byte_from : ℕ → ℕ → List StoreEntry → List ℕ → ℕ → Bool → ℕ → math.Option ℕ
byte_from i a ss cache p here x =
    cond (any (older_covers i x) ss) (math.some (store_byte (final (older_covers i x) no_store ss) x))
    (cond here (math.some (get_or cache (p + (x - a)) 0)) math.none)

-- the byte at a itself, in the code's types
unfoldable pub byte_or_line : ℕ → ℕ → List StoreEntry → List ℕ → ℕ → Bool → Option (Loaded ℕ)
byte_or_line i a ss cache p here =
    cond (any (older_covers i a) ss) (Some (loaded true (store_byte (final (older_covers i a) no_store ss) a)))
    (cond here (Some (loaded false (get_or cache p 0))) None)

-- at most 4 bytes from address a on, below 65,536; if their line is there, they lie in the so many bytes of the cache from place p on
unfoldable pub readable : ℕ → ℕ → ℕ → Bool → ℕ → Bool
readable a w p here n = places_inside a w 65536 && (leb p 65536 && (not here || places_inside p w n))

-- the w bytes from a on, for load i, if they can be read
unfoldable pub bytes_read : ℕ → ℕ → ℕ → List StoreEntry → List ℕ → ℕ → Bool → Option (Loaded ℕ)
bytes_read i a w ss cache p here =
    cond (readable a w p here (length cache)) (read_of (all_forwarded i ss a w) (gather (byte_from i a ss cache p here) a w)) None

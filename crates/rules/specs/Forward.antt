-- Forwarding (01: bypass): what each byte of a load is, and what a load numbered i reads.
use Rattle.std.specs.Prelude.{ℕ, ◌-◌, Bool, cond, not, ◌&&◌, List, ltb}
use Rattle.std.proofs.Math.Option.{Option, some}
use Rattle.lists.specs.Padded.{any, final}
use Rattle.lists.specs.Counted.{all_from, some_from}
use Rattle.lists.specs.Bytes.{byte_of, among, gather}
use Rattle.rules.specs.declared.StoreEntry.{StoreEntry}
use Rattle.rules.specs.Shape.{Hierarchy, is_free_store, no_store, line_of}
use Rattle.rules.specs.Lines.{present, cached_byte}

-- a held store with a smaller number than i that covers the byte at a
unfoldable pub older_covers : ℕ → ℕ → StoreEntry → Bool
older_covers i a s = not (is_free_store s) && (ltb s.number i && among s.address s.width a)

-- "Byte k of a value, lowest first, stands at address + k.": the byte that the store has for address a
abbrev pub store_byte : StoreEntry → ℕ → ℕ
store_byte s a = byte_of (a - s.address) s.value

-- "Each byte comes from the youngest held store with a smaller number that covers it, else from the cached line."
-- Numbers rise along the queue, so the youngest is the last.
unfoldable pub load_byte : ℕ → List StoreEntry → Hierarchy → ℕ → Option ℕ
load_byte i ss b a =
    cond (any (older_covers i a) ss) (some (store_byte (final (older_covers i a) no_store ss) a)) (cached_byte b a)

-- the value of the w bytes from a on, for load i; none if some byte has neither
unfoldable pub load_value : ℕ → ℕ → ℕ → List StoreEntry → Hierarchy → Option ℕ
load_value i a w ss b = gather (load_byte i ss b) a w

-- the byte at a is in no held store with a smaller number than i, and its line is absent
abbrev pub lacking : ℕ → List StoreEntry → Hierarchy → ℕ → Bool
lacking i ss b a = not (any (older_covers i a) ss) && not (present b (line_of a))

-- some of the w bytes from a on is covered by no held store with a smaller number than i
unfoldable pub some_uncovered : ℕ → List StoreEntry → ℕ → ℕ → Bool
some_uncovered i ss a w = some_from (λ x. not (any (older_covers i x) ss)) a w

-- 02, card 6: "a load whose bytes all come from held stores": each of the w bytes from a on is covered by one with a smaller number than i.
-- (None is then uncovered: `uncovered-is`.)
unfoldable pub all_forwarded : ℕ → List StoreEntry → ℕ → ℕ → Bool
all_forwarded i ss a w = all_from (λ x. any (older_covers i x) ss) a w

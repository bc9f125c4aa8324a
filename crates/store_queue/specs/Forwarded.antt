-- What the held stores give for one byte of a load (01: bypass).
use Rattle.std.specs.Prelude.{ℕ, cond, List, Option, Some, None}
use Rattle.lists.specs.Padded.{any, final}
use Rattle.rules.specs.declared.StoreEntry.{StoreEntry}
use Rattle.rules.specs.Shape.{no_store}
use Rattle.rules.specs.Forward.{older_covers, store_byte}

-- the byte at a "from the youngest held store with a smaller number that covers it", for the load numbered i
unfoldable pub forwarded : ℕ → ℕ → List StoreEntry → Option ℕ
forwarded i a ss =
    cond (any (older_covers i a) ss) (Some (store_byte (final (older_covers i a) no_store ss) a)) None

-- Bytes of a value, lowest first, for a general width: taken from it, put into a list, and put together again.
use Rattle.std.specs.Prelude.{ℕ, zero, suc, ◌+◌, ◌*◌, ◌-◌, ◌/◌, ◌%◌, ◌^◌, Bool, cond, ◌&&◌, List, ltb, leb, get_or, set}
use Rattle.std.proofs.Math.Option.{Option, some, none}

-- byte k of a value, lowest first
unfoldable pub byte_of : ℕ → ℕ → ℕ
byte_of k v = (v / 256 ^ k) % 256

-- the place j lies among the w places from p on
abbrev pub among : ℕ → ℕ → ℕ → Bool
among p w j = leb p j && ltb j (p + w)

-- what stands at place j, when the w bytes of v stand from place p on and x stood there
unfoldable pub overlaid : ℕ → ℕ → ℕ → ℕ → ℕ → ℕ
overlaid p w v j x = cond (among p w j) (byte_of (j - p) v) x

-- the lowest w bytes of v stand at a, a + 1, ..
unfoldable pub put : ℕ → ℕ → ℕ → List ℕ → List ℕ
put zero a v m = m
put (suc w) a v m = set (put w a v m) (a + w) (byte_of w v)

-- the value of the w bytes from a on, lowest first
unfoldable pub value_at : List ℕ → ℕ → ℕ → ℕ
value_at m a zero = 0
value_at m a (suc w) = get_or m a 0 + 256 * value_at m (suc a) w

-- a lowest byte and what stands above it, if both are known
unfoldable pub add_byte : Option ℕ → Option ℕ → Option ℕ
add_byte none y = none
add_byte (some x) none = none
add_byte (some x) (some y) = some (x + 256 * y)

-- the value of the w bytes from a on, lowest first, if each is known
unfoldable pub gather : (ℕ → Option ℕ) → ℕ → ℕ → Option ℕ
gather f a zero = some 0
gather f a (suc w) = add_byte (f a) (gather f (suc a) w)

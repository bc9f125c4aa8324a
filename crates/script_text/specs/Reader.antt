-- A line read byte by byte: the numbers so far, and what a byte makes of them. `None` is a malformed line.
use Rattle.std.specs.Prelude.{ℕ, ◌+◌, ◌*◌, ◌-◌, cond, List, [], ◌∷◌, ltb, leb, eqb, Option, Some, None, unwrap_or, option_and_then}
use Rattle.std.proofs.Math.Option.{some, none}
use Rattle.std.proofs.Math.Option as asked
use Rattle.rules.specs.Shape.{top_number}
use Rattle.model.specs.State.{call_of}
use Rattle.script.specs.Commands.{start, make, space, first_digit, is_digit, with_none, with_one, with_two, with_three}
use Rattle.script.specs.Commands as commands
use Rattle.script_text.specs.declared.Command.{Command}
use Rattle.script_text.specs.declared.Command.TheVariants.{Start, Make}
use Rattle.script_text.specs.declared.reader.Scan.{Scan}

-- ---- what the code says that a line asks for

abbrev pub asked_of : Option Command → asked.Option commands.Command
asked_of None = none
asked_of (Some (Start f size)) = some (start f size)
asked_of (Some (Make c)) = some (make (call_of c))

-- ---- the numbers so far

abbrev pub no_number : Scan
no_number = record { count = 0; x = 0; y = 0; z = 0; value = None }

-- a number is whole
abbrev pub ended : ℕ → Scan → Scan
ended v s = record { count = s.count + 1; x = s.y; y = s.z; z = v; value = None }

-- a space: the number before it has a digit, and there are at most three
abbrev pub space_read : Scan → Option Scan
space_read s = option_and_then (λ v. cond (ltb s.count 3) (Some (ended v s)) None) s.value

-- a digit more
abbrev pub grown : ℕ → Scan → Scan
grown v s = record { count = s.count; x = s.x; y = s.y; z = s.z; value = Some v }

-- a digit: a number has 32 bits
abbrev pub digit_read : ℕ → Scan → Option Scan
digit_read b s =
    cond (leb (10 * unwrap_or s.value 0 + (b - first_digit)) top_number)
    (Some (grown (10 * unwrap_or s.value 0 + (b - first_digit)) s)) None

abbrev pub scan_byte : ℕ → Scan → Option Scan
scan_byte b s = cond (eqb b space) (space_read s) (cond (is_digit b) (digit_read b s) None)

unfoldable pub scanned : List ℕ → Scan → Option Scan
scanned [] s = Some s
scanned (b ∷ bs) s = option_and_then (scanned bs) (scan_byte b s)

-- ---- a letter with its numbers

-- the whole numbers, none to three
abbrev pub named_by : ℕ → Scan → asked.Option commands.Command
named_by c s =
    cond (eqb s.count 0) (with_none c)
    (cond (eqb s.count 1) (with_one c s.z)
    (cond (eqb s.count 2) (with_two c s.y s.z) (cond (eqb s.count 3) (with_three c s.x s.y s.z) none)))

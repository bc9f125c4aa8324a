-- What checks 1 and 10 say of the lines: the figures, the lent lengths, the records and the bytes.
use Rattle.std.specs.Prelude.{ℕ, cond, List, Result, Ok, Err, ⊤}
use Rattle.rules.specs.declared.Figures.{Figures}
use Rattle.rules.specs.declared.Tag.{Tag}
use Rattle.rules.specs.Shape.{Hierarchy, fits}
use Rattle.rules.specs.WellFormed.{lines_formed}

-- the hierarchy of these figures, records and bytes
abbrev pub hierarchy : Figures → ℕ → List Tag → List ℕ → List ℕ → Hierarchy
hierarchy f size tags cache memory =
    record { figures = f; size = size; tags = tags; cache = cache; memory = memory }

-- the figures and the lent lengths, then the clauses of the lines: nothing, or the refusal's number
unfoldable pub checked_lines : Hierarchy → Result ⊤ ℕ
checked_lines b = cond (fits b) (cond (lines_formed b) (Ok tt) (Err 10)) (Err 1)

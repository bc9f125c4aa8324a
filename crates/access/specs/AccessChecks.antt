-- The checked access: what checks 2, 3 and 4 of the rules leave of an address and a width, given the memory length alone.
use Rattle.std.specs.Prelude.{ℕ, [], Result}
use Rattle.rules.specs.Shape.{Hierarchy, no_figures}
use Rattle.rules.specs.Calls.{access_checks}
use Rattle.rules.specs.RefusalNumbers.{found_by}
use Rattle.access.specs.declared.Access.{Access}

-- the memory length; the rules' record takes zero and nothing for the rest
abbrev pub sized : ℕ → Hierarchy
sized n = record { figures = no_figures; size = n; tags = []; cache = []; memory = [] }

-- checks 2, 3 and 4: the access, or the refusal's number
unfoldable pub checked_access : ℕ → ℕ → ℕ → Result Access ℕ
checked_access size a w = found_by (access_checks (sized size) a w) (record { address = a; width = w })

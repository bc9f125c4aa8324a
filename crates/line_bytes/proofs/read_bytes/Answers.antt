-- `read_bytes` meets its contract.
use mathlib.Core.Path.{sym, ◌∙◌}
use Rattle.line_bytes.proofs.Reading.{readable-tells, read-inside, read-outside}
use Rattle.line_bytes.proofs.read_bytes.Goals as goal

pub join_bytes-requires : goal.join_bytes-requires
join_bytes-requires c =
    let g = readable-tells _ _ _ _ _ (sym c.is_readable.ensures ∙ c.if-is_readable.true) in
    (g.narrow, g.low, g.place-low, g.in-cache)

pub returns-then-is_readable : goal.returns-then-is_readable
returns-then-is_readable c = c.join_bytes.ensures ∙ sym (read-inside _ _ _ _ _ _ _ (sym c.is_readable.ensures ∙ c.if-is_readable.true))

pub returns-else-is_readable : goal.returns-else-is_readable
returns-else-is_readable c = read-outside _ _ _ _ _ _ _ (sym c.is_readable.ensures ∙ c.if-is_readable.false)

-- Tables of tag records by themselves, as the code has them: which places a call may name, and what the rules make of the records.
use Rattle.std.specs.Prelude.{ℕ, ◌+◌, ◌*◌, ◌-◌, Bool, true, false, cond, not, ◌&&◌, List, [], ltb, leb, set, replicate}
use Rattle.std.specs.Prelude.{Some, None}
use Rattle.std.specs.Prelude as std
use Rattle.std.proofs.Math.Option.{Option, some, none}
use Rattle.lists.specs.Counted.{first_from, greatest_from, steps_from, each_from}
use Rattle.rules.specs.declared.Figures.{Figures}
use Rattle.rules.specs.declared.Tag.{Tag}
use Rattle.rules.specs.declared.Request.{Request}
use Rattle.rules.specs.declared.Lookup.{Lookup}
use Rattle.rules.specs.declared.Lookup.TheVariants.{Hit, Pending, Miss}
use Rattle.rules.specs.Shape.{Hierarchy, names, no_figures, table_size, most_ways, tag_at}
use Rattle.rules.specs.Lines.{holds_line, aged_at, use_line, write_back_slot, Preview}
use Rattle.records.specs.declared.Preview as code

-- ---- places in the table

-- there are sets and ways, and the table has a record for each way of each set
unfoldable pub has_room : Figures → Bool
has_room g = ltb 0 g.sets && (ltb 0 g.ways && leb (g.sets * g.ways) table_size)

-- so many slots from slot f on lie in the table
unfoldable pub in_table : ℕ → ℕ → Bool
in_table f ways = leb ways table_size && leb f (table_size - ways)

-- slot v is one of them
unfoldable pub in_set : ℕ → ℕ → ℕ → Bool
in_set f ways v = in_table f ways && (leb f v && ltb v (f + ways))

-- ---- the tag lookup

-- what it says of the line in the set of so many ways from slot f on, when the miss register is r
unfoldable pub lookup_in : Request → List Tag → ℕ → ℕ → ℕ → Lookup
lookup_in r tags f ways l =
    let k = first_from (λ k. holds_line l (tag_at tags k)) f ways in
    cond (ltb k (f + ways)) (Hit (k - f)) (cond (names r l) Pending Miss)

-- it says present
abbrev pub is_hit : Lookup → Bool
is_hit (Hit w) = true
is_hit Pending = false
is_hit Miss = false

-- ---- use

-- the hierarchy of these figures and records, with no bytes
abbrev pub tabled : Figures → List Tag → Hierarchy
tabled g tags = record { figures = g; size = 0; tags = tags; cache = []; memory = [] }

-- the records once the line is used, if it is present
unfoldable pub used_tags : Figures → ℕ → List Tag → List Tag
used_tags g l tags = (use_line l (tabled g tags)).tags

-- ---- fill

-- "the lowest invalid way of the set, else the way of greatest age", as a slot, of the set from slot f on
unfoldable pub victim_in : List Tag → ℕ → ℕ → ℕ
victim_in tags f ways =
    let k = first_from (λ k. not (tag_at tags k).valid) f ways in
    cond (ltb k (f + ways)) k (greatest_from (λ k. (tag_at tags k).age) f f ways)

-- the records once line l is in slot v, valid and clean, and is used
unfoldable pub installed_in : ℕ → ℕ → ℕ → ℕ → List Tag → List Tag
installed_in f ways v l tags =
    let t : Tag = record { valid = true; dirty = 0; line = l; age = (tag_at tags v).age } in
    each_from (aged_at f ways v (tag_at (set tags v t) v).age) 0 (set tags v t)

-- ---- what a fill will do (02, card 7)

-- the age of way k of the set from slot f on, when slot v is used; x where the set has no such way
unfoldable pub age_in : List Tag → ℕ → ℕ → ℕ → ℕ → ℕ → ℕ
age_in tags f ways v k x = cond (ltb k ways) (aged_at f ways v (tag_at tags v).age (f + k) (tag_at tags (f + k))).age x

-- the ages of its ways, in four places
unfoldable pub ages_in : List Tag → ℕ → ℕ → ℕ → List ℕ
ages_in tags f ways v = each_from (age_in tags f ways v) 0 (replicate most_ways 0)

-- what the fill of a line of the set will do
unfoldable pub preview_in : List Tag → ℕ → ℕ → Preview
preview_in tags f ways =
    let v = victim_in tags f ways in
    let t = tag_at tags v in
    record { way = v - f; evicted = cond t.valid (some t.line) none; words = t.dirty; ages = ages_in tags f ways v }

-- where there is no such set
abbrev pub no_preview : Preview
no_preview = record { way = 0; evicted = none; words = 0; ages = replicate most_ways 0 }

-- the same, as the code has it
abbrev pub eviction_given : std.Option ℕ → Option ℕ
eviction_given None = none
eviction_given (Some l) = some l

abbrev pub preview_given : code.Preview → Preview
preview_given p = record { way = p.way; evicted = eviction_given p.evicted; words = p.words; ages = p.ages }

-- ---- flush

-- the records once the first n slots are written back, slot by slot (a flush does not look at the figures)
unfoldable pub flushed_tags : ℕ → List Tag → List Tag
flushed_tags n tags = (steps_from write_back_slot 0 n (tabled no_figures tags)).tags

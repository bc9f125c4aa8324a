-- What a load reads and answers, in the code's types, by what the tag lookup says of its line.
use Rattle.std.specs.Prelude.{ℕ, ◌+◌, ◌*◌, ◌%◌, Option, Some, None}
use Rattle.rules.specs.declared.Lookup.{Lookup}
use Rattle.rules.specs.declared.Lookup.TheVariants.{Hit, Pending, Miss}
use Rattle.rules.specs.Shape.{Queues, Hierarchy, line_bytes, line_of}
use Rattle.rules.specs.Lines.{lookup}
use Rattle.rules.specs.Forward.{load_value, all_forwarded}
use Rattle.line_bytes.specs.Reads.{read_of}
use Rattle.line_bytes.specs.declared.Loaded.{Loaded}
use Rattle.model.specs.declared.read.Reading.{Reading}
use Rattle.model.specs.declared.Answer.{Answer}
use Rattle.model.specs.declared.Answer.TheVariants.{Value, Waits, WaitsRequested}

-- where in the cache the byte at address a stands, if its line was found in a way of the set from slot f on; else 0
abbrev pub place_in : ℕ → Lookup → ℕ → ℕ
place_in f (Hit w) a = line_bytes * (f + w) + a % line_bytes
place_in f Pending a = 0
place_in f Miss a = 0

-- what the lookup says of the line of address a, and what load i reads of the w bytes from a on
abbrev pub reading_of : ℕ → ℕ → ℕ → Queues → Hierarchy → Reading
reading_of i a w q b = record { found = lookup q.request b (line_of a); read = read_of (all_forwarded i q.stores a w) (load_value i a w q.stores b) }

-- what load i answers when it waits
abbrev pub wait_of : ℕ → Lookup → Answer
wait_of i (Hit w) = Waits i
wait_of i Pending = WaitsRequested i
wait_of i Miss = Waits i

-- what load i answers to what it read
abbrev pub answer_to : ℕ → Lookup → Option (Loaded ℕ) → Answer
answer_to i f (Some l) = Value i l.value
answer_to i f None = wait_of i f

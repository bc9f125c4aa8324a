-- Calls and answers by numbers.
use Rattle.std.specs.Prelude.{ℕ, ◌≤◌, cond, eqb, length}
use Rattle.std.specs.Prelude as std
use Rattle.std.proofs.Math.Option.{Option, some, none}
use Rattle.lists.specs.Bytes.{value_at}
use Rattle.rules.specs.Shape.{top_number, most_ways}
use Rattle.rules.specs.Lines.{Preview}
use Rattle.rules.specs.Calls as rules
use Rattle.model.specs.Shows.{part_in}
use Rattle.nicoisetarn.specs.declared.AnswerImage.{AnswerImage}

-- the call of a number, with its operands
unfoldable pub call_numbered : ℕ → ℕ → ℕ → ℕ → std.Option rules.Call
call_numbered call x y z =
    cond (eqb call 0) (std.Some (rules.load x y))
    (cond (eqb call 1) (std.Some (rules.store x y z))
    (cond (eqb call 2) (std.Some (rules.retry x))
    (cond (eqb call 3) (std.Some (rules.commit x))
    (cond (eqb call 4) (std.Some (rules.abort x))
    (cond (eqb call 5) (std.Some rules.idle)
    (cond (eqb call 6) (std.Some rules.reply)
    (cond (eqb call 7) (std.Some rules.flush)
    (cond (eqb call 8) (std.Some (rules.show x))
    (cond (eqb call 9) (std.Some (rules.checkpoint x))
    (cond (eqb call 10) (std.Some (rules.restore x))
    (cond (eqb call 11) (std.Some rules.preview) std.None)))))))))))

-- an answer with at most two numbers beside its kind
abbrev pub coded : ℕ → ℕ → ℕ → AnswerImage
coded kind first second = record { kind = kind; first = first; second = second; third = 0; fourth = 0; fifth = 0 }

-- 1 where a line is evicted, and its number
abbrev pub evicts : Option ℕ → ℕ
evicts none = 0
evicts (some l) = 1

abbrev pub line_evicted : Option ℕ → ℕ
line_evicted none = 0
line_evicted (some l) = l

-- a preview by its five numbers: of the ages, that of way w is byte w
abbrev pub coded_preview : Preview → AnswerImage
coded_preview p = record {
  kind = 15;
  first = p.way;
  second = evicts p.evicted;
  third = line_evicted p.evicted;
  fourth = p.words;
  fifth = value_at p.ages 0 most_ways;
}

-- an answer's kind and the papers' numbers; a part by its place in the cache and its length
abbrev pub imaged_answer : rules.Answer → AnswerImage
imaged_answer (rules.refused k) = coded 0 k 0
imaged_answer (rules.stored i) = coded 1 i 0
imaged_answer (rules.value i v) = coded 2 i v
imaged_answer (rules.waits i) = coded 3 i 0
imaged_answer (rules.committed k) = coded 4 k 0
imaged_answer (rules.kept k) = coded 5 k 0
imaged_answer (rules.drained i) = coded 6 i 0
imaged_answer (rules.requested a) = coded 7 a 0
imaged_answer rules.idled = coded 8 0 0
imaged_answer (rules.filled a) = coded 9 a 0
imaged_answer (rules.flushed k) = coded 10 k 0
imaged_answer (rules.shown p bs) = coded 11 p (length bs)
-- (12 is an accepted start)
imaged_answer (rules.checkpointed n) = coded 13 n 0
imaged_answer (rules.waits_requested i) = coded 14 i 0
imaged_answer (rules.previewed p) = coded_preview p

-- the answer of an accepted start
abbrev pub ready_answer : AnswerImage
ready_answer = coded 12 0 0

-- the answer to a number that no call has, to a start with a number that no profile has, and to lists whose lengths do not fit: the
-- boundary's own, no refusal of 01
abbrev pub no_such_call : AnswerImage
no_such_call = coded 255 0 0

-- a part's place and length have 32 bits
abbrev pub PartSmall : rules.Answer → Type 0
PartSmall a = ((part_in a).start ≤ top_number) × ((part_in a).length ≤ top_number)

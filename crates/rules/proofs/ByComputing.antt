-- What the checker computes: the table of refusals, the shared table, 01's worked script, the states of well-formed, dropped stretches,
-- runs beside flat memory, the write policies, and dirty words.
-- Files are checked in the order of their names, this one first: an edited rule meets an example here before it meets a proof.
use Prim.Native.Nat.{zero, suc}
use mathlib.Core.Path.{◌≡◌, refl}
use mathlib.Core.Bool.{true, false}
use mathlib.Core.List.{[], ◌∷◌, map}
use lib.ListN.{take, replicate, set}
use Rattle.rules.specs.declared.Request.TheVariants.{Free, Line}
use Rattle.rules.specs.declared.WritePolicy.{WritePolicy}
use Rattle.rules.specs.declared.WritePolicy.TheVariants.{WriteBack, WriteThrough}
use Rattle.rules.specs.Shape.{geometry, fits}
use Rattle.rules.specs.Calls.{retry, idle, reply, flush, show, refused, stored, value, waits, committed, kept, drained, requested, filled, flushed, idled, shown, flush_rule}
use Rattle.rules.specs.WellFormed.{well_formed}
use Rattle.rules.specs.Runs.{empty_queues, answers, after, start_answer, start_world, ready}
use Rattle.rules.specs.Dropped.{Dropped}
use Rattle.rules.specs.Words.{DrainedTo, Unmarked}
use Rattle.rules.specs.Lines.{dirty_words, fill_line}
use Rattle.rules.specs.Flat.{flat_before, flat_committed}
use Rattle.lists.specs.Bytes.{value_at}
use Rattle.rules.specs.Examples.{seen, table, script, stretch_of, whole, seen_answers, struck_answers, seen_end, struck_end, evicting, inquiring, waiting_only, draining, other_cache, beginning, past, flat_value, two_lines, reusing, overtaken, evicted_flush, store_misses, store_hits, after_idle, writing_twice, store_to_requested, stored_line, draining_through, line_present, marks_after, mark_of, same_byte, one_word, two_words, four_words, evicted_word, both_present, three_words, all_differ}
use Rattle.rules.specs.States.{tag, rich_tags, rich_cache, rich_stores, rich_loads, rich_checkpoints, rich_queues, rich_lines, clean_tags, clean_cache, clauses, broken, broken_clauses}
use Rattle.rules.specs.RefusalTable.{start_rows, input_rows, state_rows, clause_rows, order_rows, AsStarted, AsGiven, GivenUnder}
use Rattle.rules.specs.Computed.{computed}

-- ---- the table of refusals

pub start-refusals : (p : WritePolicy) → AsStarted p start_rows
unfolding computed start_rows
start-refusals p = refl

pub input-refusals : (p : WritePolicy) → GivenUnder p input_rows
unfolding computed input_rows
input-refusals WriteBack = refl
input-refusals WriteThrough = refl

pub state-refusals : (p : WritePolicy) → GivenUnder p state_rows
unfolding computed state_rows
state-refusals WriteBack = refl
state-refusals WriteThrough = refl

pub clause-refusals : AsGiven clause_rows
unfolding computed clause_rows rich_tags rich_cache rich_stores rich_loads rich_checkpoints clean_tags clean_cache broken
clause-refusals = refl

pub refusals-in-order : (p : WritePolicy) → GivenUnder p order_rows
unfolding computed order_rows
refusals-in-order WriteBack = refl
refusals-in-order WriteThrough = refl

-- ---- the shared table, and 01's worked script

-- the table: what the rules give is what 01 says, all eight examples
pub table-holds : map seen table ≡ map (λ e. e.expected) table
unfolding computed table
table-holds = refl

-- 01's worked script: ready, and the ten answers after it
pub script-starts : start_answer (geometry WriteBack 1 1) (replicate 16 0) (replicate 32 0) ≡ ready
unfolding computed
script-starts = refl

pub script-answers :
    answers script (start_world (geometry WriteBack 1 1) (replicate 16 0) (replicate 32 0))
    ≡ stored 1
    ∷ value 2 7
    ∷ waits 3
    ∷ kept 2
    ∷ committed 2
    ∷ requested 0
    ∷ filled 0
    ∷ drained 1
    ∷ flushed 1
    ∷ value 3 0
    ∷ []
unfolding computed script
script-answers = refl

-- ---- well-formed

-- the rich state keeps every clause, and check 1
pub rich-formed : well_formed rich_queues rich_lines ≡ true
unfolding computed rich_tags rich_cache rich_stores rich_loads rich_checkpoints
rich-formed = refl

pub rich-fits : fits rich_lines ≡ true
unfolding computed rich_tags rich_cache rich_stores rich_loads rich_checkpoints
rich-fits = refl

-- each broken state breaks its clause alone (that it is not well formed is in the table of refusals)
pub broken-clauses : map clauses broken ≡ broken_clauses
unfolding computed rich_tags rich_cache rich_stores rich_loads rich_checkpoints clean_tags clean_cache broken broken_clauses
broken-clauses = refl

-- ---- dropped stretches

-- one meets the hypotheses of the theorem
pub evicting-dropped : Dropped 3 (stretch_of evicting) (after evicting.before evicting.from)
unfolding computed evicting
evicting-dropped = record {
  opens = refl;
  body = evicting.body;
  ends = refl;
  accepted = tt;
  above = (λ e t. e, (λ e t. e, (λ e t. e, (λ e t. e, (λ e t. e, tt)))));
  quiet = refl;
}

-- what its calls answer: a wait, a held store, a refusal, and a fill that evicts the dirty line
pub evicting-answers :
    answers (whole evicting) evicting.from
    ≡ idled ∷ waits 3 ∷ stored 4 ∷ refused 2 ∷ filled 16 ∷ kept 2 ∷ shown 0 (replicate 16 0) ∷ []
unfolding computed evicting
evicting-answers = refl

-- none leaves a trace: the remaining answers, and the ends, are those of the struck run
pub evicting-whole : seen_answers evicting ≡ idled ∷ filled 16 ∷ shown 0 (replicate 16 0) ∷ []
unfolding computed evicting
evicting-whole = refl

pub evicting-struck : struck_answers evicting ≡ idled ∷ filled 16 ∷ shown 0 (replicate 16 0) ∷ []
unfolding computed evicting
evicting-struck = refl

pub evicting-ends : seen_end evicting ≡ 2 ∷ 2 ∷ 0 ∷ 0 ∷ 2 ∷ 0 ∷ 0 ∷ 0 ∷ 7 ∷ []
unfolding computed evicting
evicting-ends = refl

pub evicting-struck-ends : struck_end evicting ≡ 2 ∷ 2 ∷ 0 ∷ 0 ∷ 2 ∷ 0 ∷ 0 ∷ 0 ∷ 7 ∷ []
unfolding computed evicting
evicting-struck-ends = refl

pub inquiring-whole : seen_answers inquiring ≡ idled ∷ waits 3 ∷ refused 15 ∷ shown 0 (replicate 16 0) ∷ []
unfolding computed inquiring
inquiring-whole = refl

pub inquiring-struck : struck_answers inquiring ≡ idled ∷ waits 3 ∷ refused 15 ∷ shown 0 (replicate 16 0) ∷ []
unfolding computed inquiring
inquiring-struck = refl

pub inquiring-ends : seen_end inquiring ≡ 3 ∷ 2 ∷ 0 ∷ 0 ∷ 3 ∷ 0 ∷ 1 ∷ 0 ∷ 0 ∷ []
unfolding computed inquiring
inquiring-ends = refl

pub inquiring-struck-ends : struck_end inquiring ≡ 3 ∷ 2 ∷ 0 ∷ 0 ∷ 3 ∷ 0 ∷ 1 ∷ 0 ∷ 0 ∷ []
unfolding computed inquiring
inquiring-struck-ends = refl

pub waiting_only-whole : seen_answers waiting_only ≡ idled ∷ idled ∷ []
unfolding computed waiting_only
waiting_only-whole = refl

pub waiting_only-struck : struck_answers waiting_only ≡ idled ∷ idled ∷ []
unfolding computed waiting_only
waiting_only-struck = refl

pub waiting_only-ends : seen_end waiting_only ≡ 0 ∷ 0 ∷ 0 ∷ 0 ∷ 0 ∷ 0 ∷ 0 ∷ 0 ∷ 0 ∷ []
unfolding computed waiting_only
waiting_only-ends = refl

pub waiting_only-struck-ends : struck_end waiting_only ≡ 0 ∷ 0 ∷ 0 ∷ 0 ∷ 0 ∷ 0 ∷ 0 ∷ 0 ∷ 0 ∷ []
unfolding computed waiting_only
waiting_only-struck-ends = refl

pub draining-whole : seen_answers draining ≡ idled ∷ shown 16 (replicate 16 0) ∷ []
unfolding computed draining
draining-whole = refl

pub draining-struck : struck_answers draining ≡ idled ∷ shown 16 (replicate 16 0) ∷ []
unfolding computed draining
draining-struck = refl

pub draining-ends : seen_end draining ≡ 0 ∷ 0 ∷ 0 ∷ 0 ∷ 0 ∷ 0 ∷ 0 ∷ 1 ∷ 0 ∷ []
unfolding computed draining
draining-ends = refl

pub draining-struck-ends : struck_end draining ≡ 0 ∷ 0 ∷ 0 ∷ 0 ∷ 0 ∷ 0 ∷ 0 ∷ 1 ∷ 0 ∷ []
unfolding computed draining
draining-struck-ends = refl

-- ---- runs beside flat memory

-- the start of each is accepted
pub two-lines-start : (p : WritePolicy) → start_answer (geometry p 1 1) other_cache two_lines ≡ ready
unfolding computed
two-lines-start p = refl

-- a value answered after its number was used again: byte 4 is store 1's, byte 5 as found; the dropped store does not count
pub reusing-answers :
    answers reusing.calls (beginning reusing)
    ≡ stored 1
    ∷ waits 2
    ∷ stored 3
    ∷ kept 1
    ∷ waits 2
    ∷ committed 2
    ∷ requested 0
    ∷ filled 0
    ∷ value 2 1543
    ∷ []
unfolding computed reusing
reusing-answers = refl

pub reusing-flat : flat_value 2 reusing ≡ 1543
unfolding computed reusing
reusing-flat = refl

-- an inquiry answered after a younger store was accepted: the byte as found, and not the store's, which is drained behind it
pub overtaken-answers :
    (p : WritePolicy)
    → answers (overtaken p).calls (beginning (overtaken p))
    ≡ waits 1 ∷ stored 2 ∷ committed 2 ∷ requested 0 ∷ filled 0 ∷ idled ∷ value 1 1 ∷ drained 2 ∷ []
unfolding computed overtaken
overtaken-answers WriteBack = refl
overtaken-answers WriteThrough = refl

pub overtaken-flat : (p : WritePolicy) → flat_value 1 (overtaken p) ≡ 1
unfolding computed overtaken
overtaken-flat WriteBack = refl
overtaken-flat WriteThrough = refl

-- a load numbered 3 would read the store
pub overtaken-later : (p : WritePolicy) → value_at (flat_before 3 (past (overtaken p)) (overtaken p).found) 0 1 ≡ 9
unfolding computed overtaken
overtaken-later WriteBack = refl
overtaken-later WriteThrough = refl

-- a flush after an eviction
pub evicted-answers :
    answers evicted_flush.calls (beginning evicted_flush)
    ≡ stored 1
    ∷ committed 1
    ∷ requested 0
    ∷ filled 0
    ∷ drained 1
    ∷ waits 2
    ∷ committed 2
    ∷ requested 16
    ∷ filled 16
    ∷ value 2 17
    ∷ stored 3
    ∷ committed 3
    ∷ drained 3
    ∷ stored 4
    ∷ flushed 1
    ∷ []
unfolding computed evicted_flush
evicted-answers = refl

-- memory after it: byte 0 was written by the eviction, byte 16 by the flush, byte 17 not at all
pub evicted-memory :
    (after evicted_flush.calls (beginning evicted_flush)).hierarchy.memory
    ≡ 9 ∷ 2 ∷ 3 ∷ 4 ∷ 5 ∷ 6 ∷ 7 ∷ 8 ∷ 9 ∷ 10 ∷ 11 ∷ 12 ∷ 13 ∷ 14 ∷ 15 ∷ 16
    ∷ 5 ∷ 18 ∷ 19 ∷ 20 ∷ 21 ∷ 22 ∷ 23 ∷ 24 ∷ 25 ∷ 26 ∷ 27 ∷ 28 ∷ 29 ∷ 30 ∷ 31 ∷ 32 ∷ []
unfolding computed evicted_flush
evicted-memory = refl

-- flat memory with the committed stores
pub evicted-flat :
    flat_committed (past evicted_flush) evicted_flush.found
    ≡ 9 ∷ 2 ∷ 3 ∷ 4 ∷ 5 ∷ 6 ∷ 7 ∷ 8 ∷ 9 ∷ 10 ∷ 11 ∷ 12 ∷ 13 ∷ 14 ∷ 15 ∷ 16
    ∷ 5 ∷ 18 ∷ 19 ∷ 20 ∷ 21 ∷ 22 ∷ 23 ∷ 24 ∷ 25 ∷ 26 ∷ 27 ∷ 28 ∷ 29 ∷ 30 ∷ 31 ∷ 32 ∷ []
unfolding computed evicted_flush
evicted-flat = refl

-- no word is dirty after it
pub evicted-clean : dirty_words (after evicted_flush.calls (beginning evicted_flush)).hierarchy ≡ 0
unfolding computed evicted_flush
evicted-clean = refl

-- ---- the write policies

-- a store to an absent line: write-through drains it to memory, and the cache stays zero; write-back requests the line
pub through-misses :
    after_idle (store_misses WriteThrough)
    ≡ record {
      says = drained 1;
      memory = set (set two_lines 22 7) 23 9;
      cache = replicate 32 0;
      records = tag false 0 0 0 ∷ tag false 0 0 1 ∷ [];
      request = Free;
    }
unfolding computed
through-misses = refl

pub back-misses :
    after_idle (store_misses WriteBack)
    ≡ record {
      says = requested 16;
      memory = two_lines;
      cache = replicate 32 0;
      records = tag false 0 0 0 ∷ tag false 0 0 1 ∷ [];
      request = Line 1;
    }
unfolding computed
back-misses = refl

-- a store to a present line, which is used: write-through writes memory and the line, which stays clean; write-back writes the line
-- alone, and marks word 1
pub through-hits :
    after_idle (store_hits WriteThrough)
    ≡ record {
      says = drained 1;
      memory = set (set two_lines 22 7) 23 9;
      cache = set (set two_lines 22 7) 23 9;
      records = tag true 0 0 1 ∷ tag true 0 1 0 ∷ [];
      request = Free;
    }
unfolding computed
through-hits = refl

pub back-hits :
    after_idle (store_hits WriteBack)
    ≡ record {
      says = drained 1;
      memory = two_lines;
      cache = set (set two_lines 22 7) 23 9;
      records = tag true 0 0 1 ∷ tag true 2 1 0 ∷ [];
      request = Free;
    }
unfolding computed
back-hits = refl

-- a store to a line that is requested: write-through drains it, and the reply brings what it wrote; write-back holds it until the line
-- is there
pub through-requested :
    answers (idle ∷ reply ∷ retry 2 ∷ idle ∷ show 0 ∷ []) (store_to_requested WriteThrough)
    ≡ drained 1 ∷ filled 0 ∷ value 2 2 ∷ idled ∷ shown 0 stored_line ∷ []
unfolding computed
through-requested = refl

pub back-requested :
    answers (idle ∷ reply ∷ retry 2 ∷ idle ∷ show 0 ∷ []) (store_to_requested WriteBack)
    ≡ idled ∷ filled 0 ∷ value 2 2 ∷ drained 1 ∷ shown 0 stored_line ∷ []
unfolding computed
back-requested = refl

-- a run with write-through: no line is requested for a store, the load reads what was drained, and a flush has nothing to write
pub through-answers :
    answers (writing_twice WriteThrough).calls (beginning (writing_twice WriteThrough))
    ≡ stored 1
    ∷ committed 1
    ∷ drained 1
    ∷ waits 2
    ∷ committed 2
    ∷ requested 0
    ∷ filled 0
    ∷ value 2 7
    ∷ stored 3
    ∷ committed 3
    ∷ drained 3
    ∷ flushed 0
    ∷ []
unfolding computed writing_twice
through-answers = refl

pub through-value : flat_value 2 (writing_twice WriteThrough) ≡ 7
unfolding computed writing_twice
through-value = refl

pub through-memory :
    (after (writing_twice WriteThrough).calls (beginning (writing_twice WriteThrough))).hierarchy.memory
    ≡ 1 ∷ 2 ∷ 3 ∷ 4 ∷ 5 ∷ 7 ∷ 8 ∷ 8 ∷ 9 ∷ 10 ∷ 11 ∷ 12 ∷ 13 ∷ 14 ∷ 15 ∷ 16
    ∷ 17 ∷ 18 ∷ 19 ∷ 20 ∷ 21 ∷ 22 ∷ 23 ∷ 24 ∷ 25 ∷ 26 ∷ 27 ∷ 28 ∷ 29 ∷ 30 ∷ 31 ∷ 32 ∷ []
unfolding computed writing_twice
through-memory = refl

pub through-flat :
    flat_committed (past (writing_twice WriteThrough)) (writing_twice WriteThrough).found
    ≡ 1 ∷ 2 ∷ 3 ∷ 4 ∷ 5 ∷ 7 ∷ 8 ∷ 8 ∷ 9 ∷ 10 ∷ 11 ∷ 12 ∷ 13 ∷ 14 ∷ 15 ∷ 16
    ∷ 17 ∷ 18 ∷ 19 ∷ 20 ∷ 21 ∷ 22 ∷ 23 ∷ 24 ∷ 25 ∷ 26 ∷ 27 ∷ 28 ∷ 29 ∷ 30 ∷ 31 ∷ 32 ∷ []
unfolding computed writing_twice
through-flat = refl

-- with write-back: the first idle call requests the line, so the load reads the held store; store 3 is still held at the flush
pub back-answers :
    answers (writing_twice WriteBack).calls (beginning (writing_twice WriteBack))
    ≡ stored 1
    ∷ committed 1
    ∷ requested 0
    ∷ value 2 7
    ∷ committed 2
    ∷ idled
    ∷ filled 0
    ∷ refused 14
    ∷ stored 3
    ∷ committed 3
    ∷ drained 1
    ∷ refused 18
    ∷ []
unfolding computed writing_twice
back-answers = refl

pub back-memory :
    (after (writing_twice WriteBack).calls (beginning (writing_twice WriteBack))).hierarchy.memory
    ≡ 1 ∷ 2 ∷ 3 ∷ 4 ∷ 5 ∷ 6 ∷ 7 ∷ 8 ∷ 9 ∷ 10 ∷ 11 ∷ 12 ∷ 13 ∷ 14 ∷ 15 ∷ 16
    ∷ 17 ∷ 18 ∷ 19 ∷ 20 ∷ 21 ∷ 22 ∷ 23 ∷ 24 ∷ 25 ∷ 26 ∷ 27 ∷ 28 ∷ 29 ∷ 30 ∷ 31 ∷ 32 ∷ []
unfolding computed writing_twice
back-memory = refl

-- a dropped stretch with write-through: the drain inside it is the struck run's, and the filled line shows what it wrote
pub through-whole :
    seen_answers draining_through
    ≡ drained 1
    ∷ idled
    ∷ refused 17
    ∷ waits 2
    ∷ committed 2
    ∷ requested 16
    ∷ filled 16
    ∷ shown 0 (17 ∷ 18 ∷ 19 ∷ 20 ∷ 21 ∷ 22 ∷ 7 ∷ 9 ∷ 25 ∷ 26 ∷ 27 ∷ 28 ∷ 29 ∷ 30 ∷ 31 ∷ 32 ∷ [])
    ∷ []
unfolding computed draining_through
through-whole = refl

pub through-struck :
    struck_answers draining_through
    ≡ drained 1
    ∷ idled
    ∷ refused 17
    ∷ waits 2
    ∷ committed 2
    ∷ requested 16
    ∷ filled 16
    ∷ shown 0 (17 ∷ 18 ∷ 19 ∷ 20 ∷ 21 ∷ 22 ∷ 7 ∷ 9 ∷ 25 ∷ 26 ∷ 27 ∷ 28 ∷ 29 ∷ 30 ∷ 31 ∷ 32 ∷ [])
    ∷ []
unfolding computed draining_through
through-struck = refl

pub through-ends : seen_end draining_through ≡ 2 ∷ 2 ∷ 0 ∷ 0 ∷ 2 ∷ 0 ∷ 0 ∷ 1 ∷ 1 ∷ []
unfolding computed draining_through
through-ends = refl

pub through-struck-ends : struck_end draining_through ≡ 2 ∷ 2 ∷ 0 ∷ 0 ∷ 2 ∷ 0 ∷ 0 ∷ 1 ∷ 1 ∷ []
unfolding computed draining_through
through-struck-ends = refl

-- ---- dirty words

-- a store marks its word, and no other: word n by 2 to the power n, whatever the width
pub words-marked : mark_of 0 4 ∷ mark_of 6 2 ∷ mark_of 11 1 ∷ mark_of 12 4 ∷ [] ≡ 1 ∷ 2 ∷ 4 ∷ 8 ∷ []
unfolding computed
words-marked = refl

-- also a store that changes no byte
pub same-marked : marks_after same_byte ≡ 2
unfolding computed same_byte
same-marked = refl

pub same-flushed : answers (flush ∷ []) (after same_byte line_present) ≡ flushed 1 ∷ []
unfolding computed same_byte
same-flushed = refl

-- two stores to one word, to two words, and four to four words: the marks, and what a flush answers
pub one-marked : marks_after one_word ≡ 2
unfolding computed one_word
one-marked = refl

pub one-flushed : answers (flush ∷ []) (after one_word line_present) ≡ flushed 1 ∷ []
unfolding computed one_word
one-flushed = refl

pub two-marked : marks_after two_words ≡ 12
unfolding computed two_words
two-marked = refl

pub two-flushed : answers (flush ∷ flush ∷ []) (after two_words line_present) ≡ flushed 2 ∷ flushed 0 ∷ []
unfolding computed two_words
two-flushed = refl

pub four-marked : marks_after four_words ≡ 15
unfolding computed four_words
four-marked = refl

pub four-flushed : answers (flush ∷ []) (after four_words line_present) ≡ flushed 4 ∷ []
unfolding computed four_words
four-flushed = refl

-- words of two lines: the count, and what the flush leaves. Ages stay
pub three-flushed :
    answers three_words both_present
    ≡ stored 1 ∷ stored 2 ∷ stored 3 ∷ committed 3 ∷ drained 1 ∷ drained 2 ∷ drained 3 ∷ flushed 3 ∷ []
unfolding computed three_words
three-flushed = refl

pub three-records : take 2 (after three_words both_present).hierarchy.tags ≡ tag true 0 0 1 ∷ tag true 0 1 0 ∷ []
unfolding computed three_words
three-records = refl

pub three-memory :
    (after three_words both_present).hierarchy.memory
    ≡ 0 ∷ 0 ∷ 0 ∷ 0 ∷ 5 ∷ 6 ∷ 7 ∷ 8 ∷ 9 ∷ 10 ∷ 11 ∷ 12 ∷ 13 ∷ 14 ∷ 15 ∷ 0
    ∷ 17 ∷ 18 ∷ 19 ∷ 20 ∷ 21 ∷ 22 ∷ 0 ∷ 0 ∷ 25 ∷ 26 ∷ 27 ∷ 28 ∷ 29 ∷ 30 ∷ 31 ∷ 32 ∷ []
unfolding computed three_words
three-memory = refl

-- an eviction writes the word, and the line that comes is clean
pub evicted-word-answers : answers evicted_word line_present ≡ stored 1 ∷ waits 2 ∷ committed 2 ∷ drained 1 ∷ requested 16 ∷ filled 16 ∷ []
unfolding computed evicted_word
evicted-word-answers = refl

pub evicted-word-memory :
    (after evicted_word line_present).hierarchy.memory
    ≡ 1 ∷ 2 ∷ 3 ∷ 4 ∷ 5 ∷ 6 ∷ 0 ∷ 0 ∷ 9 ∷ 10 ∷ 11 ∷ 12 ∷ 13 ∷ 14 ∷ 15 ∷ 16
    ∷ 17 ∷ 18 ∷ 19 ∷ 20 ∷ 21 ∷ 22 ∷ 23 ∷ 24 ∷ 25 ∷ 26 ∷ 27 ∷ 28 ∷ 29 ∷ 30 ∷ 31 ∷ 32 ∷ []
unfolding computed evicted_word
evicted-word-memory = refl

pub evicted-word-marks : marks_after evicted_word ≡ 0
unfolding computed evicted_word
evicted-word-marks = refl

-- a drain to word 1 of slot 1, as the claim has it
pub hits-drained : DrainedTo idle (store_hits WriteBack) 1 1
unfolding computed
hits-drained = record { says = refl; back = refl; slot = refl; word = refl }

-- bytes that no record marks: those of word 0
pub word-unmarked : Unmarked all_differ 16
unfolding computed
word-unmarked zero e = refl
word-unmarked (suc k) e = refl

-- a flush and an eviction write words 1 and 3 alone. (In a well-formed state words 0 and 2 would equal memory, so no run could tell.)
pub flush-writes-marked :
    (flush_rule empty_queues all_differ).hierarchy.memory
    ≡ 1 ∷ 2 ∷ 3 ∷ 4 ∷ 5 ∷ 6 ∷ 7 ∷ 8 ∷ 9 ∷ 10 ∷ 11 ∷ 12 ∷ 13 ∷ 14 ∷ 15 ∷ 16
    ∷ 17 ∷ 18 ∷ 19 ∷ 20 ∷ 200 ∷ 200 ∷ 200 ∷ 200 ∷ 25 ∷ 26 ∷ 27 ∷ 28 ∷ 200 ∷ 200 ∷ 200 ∷ 200 ∷ []
unfolding computed
flush-writes-marked = refl

pub eviction-writes-marked :
    (fill_line 0 all_differ).memory
    ≡ 1 ∷ 2 ∷ 3 ∷ 4 ∷ 5 ∷ 6 ∷ 7 ∷ 8 ∷ 9 ∷ 10 ∷ 11 ∷ 12 ∷ 13 ∷ 14 ∷ 15 ∷ 16
    ∷ 17 ∷ 18 ∷ 19 ∷ 20 ∷ 200 ∷ 200 ∷ 200 ∷ 200 ∷ 25 ∷ 26 ∷ 27 ∷ 28 ∷ 200 ∷ 200 ∷ 200 ∷ 200 ∷ []
unfolding computed
eviction-writes-marked = refl

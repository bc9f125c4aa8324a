-- Examples of the tag lookup, and of the two words of a load that waits (02, card 4).
use Rattle.std.specs.Prelude.{ℕ, ◌+◌, List, [], ◌∷◌, map, replicate}
use Rattle.lists.specs.Counted.{each_from}
use Rattle.rules.specs.declared.Request.{Request}
use Rattle.rules.specs.declared.Lookup.{Lookup}
use Rattle.rules.specs.declared.WritePolicy.{WritePolicy}
use Rattle.rules.specs.declared.WritePolicy.TheVariants.{WriteBack}
use Rattle.rules.specs.Shape.{Hierarchy, World, world, geometry}
use Rattle.rules.specs.Lines.{lookup}
use Rattle.rules.specs.Calls.{Call, Answer, load, store, retry, commit, idle, reply}
use Rattle.rules.specs.Runs.{answer, start_world}
use Rattle.rules.specs.Examples.{Stretch, plain, Run, two_lines, two_present, dirty_requested}
use Rattle.rules.specs.States.{rich_lines, rich_queues, clean_lines, requested_by_store}

-- ---- the lookup

-- what it says of each of these lines
abbrev pub looked : Request → Hierarchy → List ℕ → List Lookup
looked r b ls = map (lookup r b) ls

-- ---- single calls

-- what each of these calls answers at w
abbrev pub said : World → List Call → List Answer
said w cs = map (λ c. answer c w) cs

-- the rich state: line 4 is requested for the committed load 3; load 7 waits for line 5; store 2 covers bytes 48 to 51; lines 0 to 2 are
-- present
abbrev pub rich : World
rich = world rich_queues rich_lines

-- the requested line's first and last byte, the bytes before and behind it, a byte beside store 2, one that it covers, a present line of
-- the same set, and both waiting loads
unfoldable pub beside_line : List Call
beside_line =
    load 64 1 ∷ load 79 1 ∷ load 63 1 ∷ load 80 1 ∷ load 52 1 ∷ load 48 1 ∷ load 32 1 ∷ retry 3 ∷ retry 7 ∷ []

-- line 3 is requested for store 2, the oldest, which covers bytes 48 to 51
abbrev pub for_store_two : World
for_store_two = world requested_by_store (clean_lines WriteBack)

-- a byte beside the store, bytes that it covers, a byte of line 4, and the load that waits for line 4
unfoldable pub beside_store : List Call
beside_store = load 52 1 ∷ load 48 2 ∷ load 64 1 ∷ retry 3 ∷ []

-- ---- runs

-- Load 1 waits, and its line is requested: it says so, and so does another load of the line, uncommitted, also when it is asked again. A
-- load of the other line waits.
unfoldable pub on_its_way : WritePolicy → Run
on_its_way p = record {
  policy = p;
  found = two_lines;
  calls =
      load 0 1
      ∷ commit 1
      ∷ retry 1
      ∷ idle
      ∷ retry 1
      ∷ load 4 2
      ∷ load 16 1
      ∷ retry 2
      ∷ reply
      ∷ retry 1
      ∷ retry 2
      ∷ retry 3
      ∷ [];
}

-- The line of a store is requested, with write-back: a load that the store covers has its value, one that it covers in part and one that it
-- does not cover say that their line is requested. With write-through nothing is requested.
unfoldable pub for_store : WritePolicy → Run
for_store p = record {
  policy = p;
  found = two_lines;
  calls =
      store 4 1 7
      ∷ commit 1
      ∷ idle
      ∷ load 4 1
      ∷ load 4 2
      ∷ load 0 1
      ∷ load 16 1
      ∷ reply
      ∷ retry 3
      ∷ retry 4
      ∷ retry 5
      ∷ idle
      ∷ [];
}

-- Line 0 is requested for load 1, comes, and is evicted before the load asks again: it waits once more, until line 0 is requested again.
unfoldable pub evicted_again : Run
evicted_again = record {
  policy = WriteBack;
  found = two_lines;
  calls =
      load 0 1
      ∷ commit 1
      ∷ idle
      ∷ retry 1
      ∷ reply
      ∷ load 16 1
      ∷ commit 2
      ∷ idle
      ∷ retry 2
      ∷ reply
      ∷ retry 1
      ∷ idle
      ∷ retry 1
      ∷ retry 2
      ∷ [];
}

-- two sets of one way over six lines, in which byte a is a + 1
abbrev pub six_started : World
six_started = start_world (geometry WriteBack 2 1) (replicate 32 255) (each_from (λ a x. a + 1) 0 (replicate 96 0))

-- the last four bytes of line 5, for which it is requested; its first byte, the byte before it, line 3 of the same set, and line 4
unfoldable pub line_ends : List Call
line_ends =
    load 92 4
    ∷ commit 1
    ∷ idle
    ∷ load 80 1
    ∷ load 79 1
    ∷ load 48 1
    ∷ load 64 1
    ∷ retry 1
    ∷ retry 3
    ∷ reply
    ∷ load 80 1
    ∷ retry 1
    ∷ []

-- ---- dropped stretches

-- Load 3 waits for line 2. Then a load of its line, a commit of load 3, an idle call that requests the line, and a second load of it; load
-- 3 is asked about before and after the commit, and after the request.
unfoldable pub requested_inside : Stretch
requested_inside =
    plain two_present [] 4
    (load 32 1 ∷ retry 3 ∷ commit 3 ∷ retry 3 ∷ idle ∷ load 33 1 ∷ retry 3 ∷ retry 4 ∷ []) (load 33 1 ∷ reply ∷ retry 3 ∷ retry 4 ∷ [])

-- Line 1 is requested for load 2. Then a load of it, a store to it, a load that this store covers, a load of another line, and an inquiry
-- about load 2.
unfoldable pub requested_before : Stretch
requested_before =
    plain dirty_requested [] 3 (load 17 1 ∷ store 16 1 5 ∷ load 16 1 ∷ load 32 1 ∷ retry 2 ∷ []) (retry 2 ∷ reply ∷ retry 2 ∷ [])

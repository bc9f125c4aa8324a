-- Examples of loads fed from held stores (02, card 6); "fed" and "forwarded" say the same. One set of two ways over three lines of zeros.
use Rattle.std.specs.Prelude.{ℕ, Bool, true, List, [], ◌∷◌, map, get_or, take, replicate}
use Rattle.rules.specs.declared.LoadEntry.{LoadEntry}
use Rattle.rules.specs.declared.Request.TheVariants.{Free}
use Rattle.rules.specs.declared.WritePolicy.{WritePolicy}
use Rattle.rules.specs.declared.WritePolicy.TheVariants.{WriteBack}
use Rattle.rules.specs.Shape.{Hierarchy, World, world, geometry, no_store, no_load, no_tag}
use Rattle.rules.specs.Calls.{Call, load, store, retry, commit, idle}
use Rattle.rules.specs.Runs.{next, after}
use Rattle.rules.specs.Examples.{Stretch, plain, whole, struck_calls}
use Rattle.rules.specs.States.{tag, held_at, waiting_load, answered_load, forwarded_load, queues}

-- lines l and 1 in ways 0 and 1, of these ages
abbrev lines_aged : WritePolicy → ℕ → ℕ → ℕ → Hierarchy
lines_aged p l a b = record {
  figures = geometry p 1 2;
  size = 48;
  tags = tag true 0 l a ∷ tag true 0 1 b ∷ replicate 254 no_tag;
  cache = replicate 32 0;
  memory = replicate 48 0;
}

-- what a world holds of it: the first four listed loads by their numbers, which of them are forwarded, and the ages of the two ways
pub record Held : Type 0 where
  pub numbers : List ℕ
  pub forwarded : List Bool
  pub ages : List ℕ

abbrev pub held_by : World → Held
held_by w = record {
  numbers = map (λ l. l.number) (take 4 w.queues.loads);
  forwarded = map (λ l. l.forwarded) (take 4 w.queues.loads);
  ages = map (λ t. t.age) (take 2 w.hierarchy.tags);
}

-- ---- what is forwarded

-- stores 1, 2 and 3 have bytes 0, 1 and 3 of line 0, store 4 the first byte of line 2, which is absent
abbrev pub four_stores : World
four_stores =
    world (queues 4 0 Free (held_at 1 0 1 9 ∷ held_at 2 1 1 8 ∷ held_at 3 3 1 7 ∷ held_at 4 32 1 6 ∷ replicate 12 no_store) (replicate 8 no_load))
    (lines_aged WriteBack 0 1 0)

-- Loads of byte 0; of bytes 0 and 1, by two stores; of bytes 0 to 3, where byte 2 is in none; of byte 2; of the byte of line 2, and of two
-- bytes there, which waits.
unfoldable pub loads : List Call
loads = load 0 1 ∷ load 0 2 ∷ load 0 4 ∷ load 2 1 ∷ load 32 1 ∷ load 32 2 ∷ []

-- what each of them, made alone, is listed as
abbrev pub listed_by : World → List Call → List LoadEntry
listed_by w cs = map (λ c. get_or (next c w).queues.loads 0 no_load) cs

-- ---- what a commit uses

-- Line 1 was used last, no store is held any more, and four loads are listed: 4 and 6 of line 1, which were fed, 5 of line 0, and 7, which
-- waits for line 2.
abbrev pub fed_around : World
fed_around =
    world
    (queues 7 3 Free (replicate 16 no_store)
    (forwarded_load 4 16 1 ∷ answered_load 5 0 1 ∷ forwarded_load 6 16 1 ∷ waiting_load 7 32 1 ∷ replicate 4 no_load))
    (lines_aged WriteBack 0 1 0)

-- Line 0 was used last, and nothing is held or listed.
abbrev pub zero_last : WritePolicy → World
zero_last p = world (queues 0 0 Free (replicate 16 no_store) (replicate 8 no_load)) (lines_aged p 0 0 1)

-- Stores 1 and 2 to lines 0 and 1, then load 3 of n bytes of line 0: of 1 it is fed from store 1, of 2 half of it is. Both stores drain, that
-- to line 1 last, before the load commits.
unfoldable pub fed_or_half : ℕ → List Call
fed_or_half n = store 0 1 9 ∷ store 16 1 8 ∷ load 0 n ∷ commit 2 ∷ idle ∷ idle ∷ commit 3 ∷ []

-- ---- an inquiry

-- Line 2 has come in the place of line 0, line 1 was used last since, and load 3 of line 2 waits still. Store 1 has its first byte, store 4,
-- which is younger, both. h is 2 or 3.
abbrev pub half_waits : ℕ → World
half_waits h =
    world (queues 4 h Free (held_at 1 32 1 9 ∷ held_at 4 32 2 7 ∷ replicate 14 no_store) (waiting_load 3 32 2 ∷ replicate 7 no_load))
    (lines_aged WriteBack 2 1 0)

-- ---- a dropped stretch

-- Load 2 is fed from store 1. Then two loads that are fed too, one of them from a dropped store, a commit of load 2, and an inquiry; behind it
-- a load of line 0, fed from store 1, and one of line 1, in the place of a dropped load that was fed.
unfoldable pub fed_inside : Stretch
fed_inside =
    plain
    (world (queues 2 0 Free (held_at 1 0 1 9 ∷ replicate 15 no_store) (forwarded_load 2 0 1 ∷ replicate 7 no_load)) (lines_aged WriteBack 0 1 0))
    [] 3 (load 0 1 ∷ store 16 1 7 ∷ load 16 1 ∷ commit 2 ∷ retry 3 ∷ []) (load 0 1 ∷ load 16 1 ∷ [])

-- what the whole run and the struck run leave
abbrev pub held_at_end : Stretch → Held
held_at_end s = held_by (after (whole s) s.from)

abbrev pub held_at_struck_end : Stretch → Held
held_at_struck_end s = held_by (after (struck_calls s) s.from)

-- Examples of previews (02, card 7), beside what the reply, made in their place, leaves.
use Rattle.std.specs.Prelude.{ℕ, ◌*◌, ◌-◌, true, false, cond, not, List, [], ◌∷◌, ◌++◌, map, eqb, take, drop, replicate}
use Rattle.std.proofs.Math.Option.{Option}
use Rattle.lists.specs.Padded.{filter}
use Rattle.lists.specs.Counted.{each_from}
use Rattle.rules.specs.declared.Tag.{Tag}
use Rattle.rules.specs.declared.Request.TheVariants.{Line}
use Rattle.rules.specs.declared.WritePolicy.{WritePolicy}
use Rattle.rules.specs.declared.WritePolicy.TheVariants.{WriteBack}
use Rattle.rules.specs.Shape.{Hierarchy, World, world, geometry, no_store, no_load, no_tag}
use Rattle.rules.specs.Calls.{Call, Answer, load, store, commit, idle, reply, flush, preview, previewed}
use Rattle.rules.specs.Runs.{next}
use Rattle.rules.specs.Examples.{Stretch, plain}
use Rattle.rules.specs.CheckpointExamples.{returning}
use Rattle.rules.specs.States.{tag, held_at, waiting_load, queues}

-- the answer with these four parts: way, line evicted, words, ages
abbrev pub gives : ℕ → Option ℕ → ℕ → List ℕ → Answer
gives way evicted words ages = previewed (record { way = way; evicted = evicted; words = words; ages = ages })

-- ---- the states

-- two sets of so many ways over 12 lines of zeros: set 0 is as a start leaves it, set 1 has these records and bytes
abbrev second_set : WritePolicy → ℕ → List Tag → List ℕ → Hierarchy
second_set p ways tags bytes = record {
  figures = geometry p 2 ways;
  size = 192;
  tags = each_from (λ w t. tag false 0 0 w) 0 (replicate ways no_tag) ++ (tags ++ replicate (256 - 2 * ways) no_tag);
  cache = replicate (16 * ways) 0 ++ bytes;
  memory = replicate 192 0;
}

-- line 11, of set 1, is requested for load 1
abbrev asking : WritePolicy → ℕ → List Tag → List ℕ → World
asking p ways tags bytes =
    world (queues 1 1 (Line 11) (replicate 16 no_store) (waiting_load 1 180 1 ∷ replicate 7 no_load)) (second_set p ways tags bytes)

-- a line of zeros, and one with 7 in its words 0 and 2
abbrev zeros : List ℕ
zeros = replicate 16 0

abbrev sevens : List ℕ
sevens = replicate 4 7 ++ (replicate 4 0 ++ (replicate 4 7 ++ replicate 4 0))

-- way 0 is the oldest, and dirty, but ways 1 and 3 are invalid
abbrev pub two_invalid : World
two_invalid =
    asking WriteBack 4 (tag true 5 1 3 ∷ tag false 0 0 1 ∷ tag true 0 3 0 ∷ tag false 0 0 2 ∷ []) (sevens ++ (zeros ++ (zeros ++ zeros)))

-- way 1 is the oldest, and words 0 and 2 of its line 3 are dirty; of line 7 words 1, 2 and 3 are, in zeros
abbrev pub two_dirty : World
two_dirty =
    asking WriteBack 4 (tag true 0 1 0 ∷ tag true 5 3 3 ∷ tag true 0 5 1 ∷ tag true 14 7 2 ∷ []) (zeros ++ (sevens ++ (zeros ++ zeros)))

-- the same with line 7 the oldest: memory has the bytes of its dirty words already
abbrev pub dirty_zeros : World
dirty_zeros =
    asking WriteBack 4 (tag true 0 1 0 ∷ tag true 5 3 2 ∷ tag true 0 5 1 ∷ tag true 14 7 3 ∷ []) (zeros ++ (sevens ++ (zeros ++ zeros)))

-- three ways without a dirty word, under either write policy; way 1 is the oldest
abbrev pub clean : WritePolicy → World
clean p = asking p 3 (tag true 0 9 0 ∷ tag true 0 1 2 ∷ tag true 0 3 1 ∷ []) (zeros ++ (zeros ++ zeros))

-- one way, with line 5, which is clean. The committed store 1 is held, to its word 2; load 2 waits for line 11
abbrev pub store_held : WritePolicy → World
store_held p =
    world (queues 2 2 (Line 11) (held_at 1 88 1 7 ∷ replicate 15 no_store) (waiting_load 2 180 1 ∷ replicate 7 no_load))
    (second_set p 1 (tag true 0 5 0 ∷ []) zeros)

-- ---- what a reply leaves

-- of set 1 the lines and ages, way by way; and the addresses, from 1 on, of the bytes of memory that are no longer 0
pub record SetAfter : Type 0 where
  pub lines : List ℕ
  pub ages : List ℕ
  pub written : List ℕ

abbrev pub after_reply : World → SetAfter
after_reply w =
    let b = (next reply w).hierarchy in
    let set = take b.figures.ways (drop b.figures.ways b.tags) in
    record {
      lines = map (λ t. t.line) set;
      ages = map (λ t. t.age) set;
      written = filter (λ a. not (eqb a 0)) (each_from (λ a x. cond (eqb x 0) 0 a) 0 b.memory);
    }

-- ---- runs

-- after a start of one set and one way: nothing is requested, then line 0 is, and comes
unfoldable pub from_start : List Call
from_start = load 0 1 ∷ commit 1 ∷ preview ∷ idle ∷ preview ∷ preview ∷ reply ∷ preview ∷ []

-- the held store is written, and then flushed
unfoldable pub drained_between : List Call
drained_between = preview ∷ idle ∷ preview ∷ flush ∷ preview ∷ []

-- Previews in a stretch that is dropped, around a load, a store to the line that will be evicted, and an idle call that writes store 1 to it;
-- behind the stretch a preview and the reply.
unfoldable pub preview_inside : Stretch
preview_inside =
    plain (store_held WriteBack) [] 3 (load 181 1 ∷ preview ∷ store 84 1 5 ∷ idle ∷ preview ∷ []) (preview ∷ reply ∷ [])

-- the same from the setting of mark 1 to the return to it, with the reply in it, and a preview behind that
unfoldable pub preview_in_mark : Stretch
preview_in_mark = returning (store_held WriteBack) 1 3 (store 84 1 5 ∷ idle ∷ preview ∷ reply ∷ preview ∷ []) []

-- The player's values as those of the script language, and what playing does to the lent buffers.
-- `RunAt` and `PlayerAt` say how things stand before or after it; a contract names one of each.
use Rattle.std.specs.Prelude.{ℕ, ◌+◌, ◌-◌, ◌*◌, ◌/◌, ◌≤◌, ◌≡◌, Bool, true, cond, ◌&&◌, List, [], ◌∷◌, ◌++◌, leb, eqb, length, take}
use Rattle.std.specs.Prelude.{Some, None}
use Rattle.std.specs.Prelude as code
use Rattle.std.proofs.Math.Option.{Option, some, none}
use Rattle.std.proofs.lemmas.List.Edits.{sets}
use Rattle.rules.specs.declared.Figures.{Figures}
use Rattle.rules.specs.Shape.{World, line_bytes, most_sets}
use Rattle.rules.specs.Calls.{Call}
use Rattle.rules.specs.WellFormed.{well_formed}
use Rattle.model.specs.State.{world_of, answer_of}
use Rattle.model.specs.declared.State.{State}
use Rattle.model.specs.declared.Step.{Step}
use Rattle.script.specs.Commands.{make, line_feed, held_bytes}
use Rattle.script.specs.Commands as commands
use Rattle.script.specs.Play.{effect, after_byte, output, after_bytes, new_player, at_end, played}
use Rattle.script.specs.Play as script
use Rattle.script.specs.Words.{answer_line}
use Rattle.script_text.specs.Written.{Wrote, line_room}
use Rattle.script_play.specs.declared.Player.{Player}
use Rattle.script_play.specs.declared.Played.{Played}
use Rattle.script_play.specs.declared.HeldLine.{HeldLine}

-- ---- figures

-- the most that 01 allows: ways, the bytes of a memory, and those of a cache
abbrev pub most_ways : ℕ
most_ways = 4

abbrev pub largest_memory : ℕ
largest_memory = 65536

abbrev pub largest_cache : ℕ
largest_cache = most_sets * most_ways * line_bytes

-- how many bytes of the lent cache and of the lent memory a run uses, from the front on. (A state with more sets, ways or memory
-- than 01 allows, which no start makes and every call refuses, uses none.)
unfoldable pub cache_used : Figures → ℕ
cache_used f = cond (leb f.sets most_sets && leb f.ways most_ways) (f.sets * f.ways * line_bytes) 0

unfoldable pub memory_used : ℕ → ℕ
memory_used size = cond (leb size largest_memory) size 0

-- ---- the run, and the line so far

-- the run: none before an accepted G
abbrev pub run_of : code.Option State → List ℕ → List ℕ → Option World
run_of None cache memory = none
run_of (Some s) cache memory = some (world_of s (take (cache_used s.figures) cache) (take (memory_used s.size) memory))

-- the bytes of a line that are held
abbrev pub held_of : HeldLine → List ℕ
held_of l = take l.length l.bytes

abbrev pub player_of : Player → List ℕ → List ℕ → script.Player
player_of p cache memory = record { run = run_of p.run cache memory; line = held_of p.line }

-- the run, if there is one, is well formed
abbrev pub run_formed : Option World → Bool
run_formed none = true
run_formed (some w) = well_formed w.queues w.hierarchy

-- a player that holds no more of its line than is needed to know it
abbrev pub shortened : script.Player → script.Player
shortened p = record { run = p.run; line = take held_bytes p.line }

-- ---- the lent cache and memory

pub record Lent : Type 0 where
  pub cache : List ℕ
  pub memory : List ℕ

abbrev pub lent_of : List ℕ → List ℕ → Lent
lent_of cache memory = record { cache = cache; memory = memory }

-- a run's cache and memory stand at the front; the bytes behind them are kept
abbrev pub laid_in : Option World → Lent → Lent
laid_in none l = l
laid_in (some w) l =
    record { cache = sets l.cache 0 w.hierarchy.cache; memory = sets l.memory 0 w.hierarchy.memory }

-- the two after some bytes of the input: each line leaves its run's bytes in them
unfoldable pub lent_after : List ℕ → script.Player → Lent → Lent
lent_after [] p l = l
lent_after (b ∷ bs) p l = lent_after bs (after_byte b p) (cond (eqb b line_feed) (laid_in (after_byte b p).run l) l)

-- ---- before and after

-- a run with what it is played on: the lent cache and memory, the output, and the place in it where the next line goes
pub record RunAt : Type 0 where
  pub run : Option World
  pub lent : Lent
  pub out : List ℕ
  pub at : ℕ

abbrev pub run_at : code.Option State → List ℕ → List ℕ → List ℕ → ℕ → RunAt
run_at run cache memory out at =
    record { run = run_of run cache memory; lent = lent_of cache memory; out = out; at = at }

-- a player with what it plays on
pub record PlayerAt : Type 0 where
  pub player : script.Player
  pub lent : Lent
  pub out : List ℕ
  pub at : ℕ

abbrev pub player_at : Player → List ℕ → List ℕ → List ℕ → ℕ → PlayerAt
player_at p cache memory out at =
    record { player = player_of p cache memory; lent = lent_of cache memory; out = out; at = at }

-- ---- what the functions promise

-- the end of a line
abbrev pub is_feed : ℕ → Bool
is_feed b = eqb b line_feed

-- what a line may want: the largest cache and memory, and room for a line of output
abbrev pub RoomForLine : List ℕ → List ℕ → List ℕ → ℕ → Type 0
RoomForLine cache memory out at =
    (largest_cache ≤ length cache) × (largest_memory ≤ length memory) × (at + line_room ≤ length out)

-- a call was made on a run: the line that its answer prints, the run after it, and the lent bytes after it
pub record MakesCall (c : Call) (run : Option World) (before : Lent) (r : Step) (after : Lent) : Type 0 where
  pub says : answer_line (answer_of r.answer []) ≡ (effect (some (make c)) run).says
  pub run-after : run_of (Some r.next) after.cache after.memory ≡ (effect (some (make c)) run).run
  pub lent-after : after ≡ laid_in (effect (some (make c)) run).run before

-- a line was played that asked for c: the run after it, the lent bytes after it, and what it prints in the output
pub record PlaysCommand (c : Option commands.Command) (before after : RunAt) : Type 0 where
  pub run-after : after.run ≡ (effect c before.run).run
  pub lent-after : after.lent ≡ laid_in (effect c before.run).run before.lent
  pub wrote : Wrote before.at (effect c before.run).says before.out after.out after.at

-- these bytes were played: the player after them, the lent bytes after them, and what they print in the output
pub record Plays (bytes : List ℕ) (before after : PlayerAt) : Type 0 where
  pub player-after : after.player ≡ shortened (after_bytes bytes before.player)
  pub lent-after : after.lent ≡ lent_after bytes before.player before.lent
  pub wrote : Wrote before.at (output bytes before.player) before.out after.out after.at

-- the bytes of a line that are held, with more behind them, as far as there is room
pub record Holds (line : HeldLine) (more : List ℕ) (r : HeldLine) : Type 0 where
  pub bytes : held_of r ≡ take held_bytes (held_of line ++ more)
  pub short : r.length ≤ held_bytes

-- ---- a chunk of the input

-- the buffers are long enough: the largest cache and memory, and room for a line of output for each byte of input
unfoldable pub roomy : List ℕ → PlayerAt → Bool
roomy input s =
    leb largest_cache (length s.lent.cache)
    && (leb largest_memory (length s.lent.memory) && leb (length input) (length s.out / line_room))

-- a chunk is played whole if the buffers are long enough, else not at all
unfoldable pub playable : List ℕ → PlayerAt → List ℕ
playable input s = cond (roomy input s) input []

-- a chunk was played, as far as it is playable, and so many of its bytes were read
pub record PlaysChunk (input : List ℕ) (before after : PlayerAt) (read : ℕ) : Type 0 where
  pub all : read ≡ length (playable input before)
  pub plays : Plays (playable input before) before after

-- what playing a chunk left
abbrev pub after_chunk : Played → List ℕ → List ℕ → List ℕ → PlayerAt
after_chunk r cache memory out = player_at r.player cache memory out r.written

-- ---- a whole input

-- the same player and lent bytes, with an output of its own
abbrev pub with_output : List ℕ → ℕ → PlayerAt → PlayerAt
with_output out at s = record { player = s.player; lent = s.lent; out = out; at = at }

-- an input cut in two, xs and ys: what stands after both, with what stood before them and between
pub record Joined (xs ys : List ℕ) (before middle after : PlayerAt) : Type 0 where
  pub player-after : after.player ≡ shortened (after_bytes (xs ++ ys) before.player)
  pub lent-after : after.lent ≡ lent_after (xs ++ ys) before.player before.lent
  pub printed : output (xs ++ ys) before.player ≡ output xs before.player ++ output ys middle.player

-- chunks played one after the other, each with an output of its own, are the input played whole, wherever it is cut; and what they
-- print, with what the player prints at the end, is what the whole input prints
pub record ChunksPlayed : Type 0 where
  pub joined :
      (xs ys : List ℕ) {s s' s'' : PlayerAt} (out : List ℕ) (at : ℕ)
      → Plays xs s s' → Plays ys (with_output out at s') s'' → Joined xs ys s s' s''
  pub ended :
      (bytes : List ℕ) {s s' : PlayerAt}
      → s.player ≡ new_player → Plays bytes s s' → output bytes new_player ++ at_end s'.player ≡ played bytes

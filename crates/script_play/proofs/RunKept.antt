-- A well-formed run stays well formed, whatever is played: a refused line leaves it, an accepted start makes one, every call keeps it.
use Prim.Native.Nat.{ℕ}
use mathlib.Core.Path.{◌≡◌, refl, sym, subst}
use mathlib.Core.Bool.{true}
use mathlib.Core.List.{List, [], ◌∷◌}
use mathlib.Core.Option.{Option, some, none}
use lib.Dec.{eqb}
use Rattle.lists.proofs.Cond.{either}
use Rattle.rules.specs.Shape.{World}
use Rattle.rules.specs.Kept.{Formed}
use Rattle.rules.specs.Runs.{StartAnswer, ready, start_refused, start_answer, start_world}
use Rattle.rules.proofs.Kept.{next-kept, start-formed}
use Rattle.script.specs.Commands.{Command, start, make, line_feed}
use Rattle.script.specs.Play.{zeros, zero_cache, start_effect, effect, after_byte, after_bytes}
use Rattle.script.specs.Play as script
use Rattle.script_play.specs.Player.{run_formed, PlayerAt, Plays}

effect-kept : (c : Option Command) (r : Option World) → run_formed r ≡ true → run_formed (effect c r).run ≡ true
unfolding effect
effect-kept none r h = h
effect-kept (some (start f size)) r h =
    started (start_answer f (zero_cache f) (zeros size)) (start_world f (zero_cache f) (zeros size)) (start-formed f (zero_cache f) (zeros size))
  where
    started : (a : StartAnswer) (w : World) → (a ≡ ready → Formed w) → run_formed (start_effect a w r).run ≡ true
    started ready w f = f refl
    started (start_refused k) w f = h
effect-kept (some (make x)) none h = refl
effect-kept (some (make x)) (some w) h = next-kept x w h

bytes-kept : (bs : List ℕ) (p : script.Player) → run_formed p.run ≡ true → run_formed (after_bytes bs p).run ≡ true
unfolding after_bytes after_byte
bytes-kept [] p h = h
bytes-kept (b ∷ bs) p h =
    bytes-kept bs (after_byte b p)
    (either (λ (q : script.Player). run_formed q.run ≡ true) (eqb b line_feed) (λ _. effect-kept _ p.run h) (λ _. h))

pub plays-kept : {bytes : List ℕ} {s s' : PlayerAt} → Plays bytes s s' → run_formed s.player.run ≡ true → run_formed s'.player.run ≡ true
plays-kept {bytes} {s} f h = subst (λ (p : script.Player). run_formed p.run ≡ true) (sym f.player-after) (bytes-kept bytes s.player h)

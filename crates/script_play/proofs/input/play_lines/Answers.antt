-- `play_lines` meets its contract.
use lib.ListN.{length, get_or}
use lib.Seq.{length-take-le}
use Prim.Native.Nat.{◌-◌, ◌≤◌}
use native.Mathlib.Omega.{arith}
use mathlib.Core.Path.{◌≡◌, refl, sym, ◌∙◌, ap, ap₂}
use mathlib.Core.Option.{some}
use Rattle.std.proofs.Common.{rules, of_calls, Some}
use Rattle.std.specs.Bool.{then_some}
use Rattle.std.specs.Option.{option_or}
use Rattle.std.specs.Slice.Iter.{split_inclusive_rest}
use Rattle.std.proofs.lemmas.List.Sorted.{answers_always}
use Rattle.model.proofs.Facts.{length-of}
use Rattle.model.specs.State.{call_of}
use Rattle.script.specs.Commands.{start, make, line_feed, held_bytes}
use Rattle.script.specs.Play.{refused_effect, effect, malformed_line}
use Rattle.script_text.specs.Reader.{asked_of}
use Rattle.script_play.specs.Player.{is_feed, largest_cache, largest_memory, run_of, lent_of, run_at, MakesCall, PlaysCommand}
use Rattle.script_play.proofs.InputPlays.{Piece, played-none, played-held, played-on, room-left}
use Rattle.script_play.proofs.LinePlays.{same-run, front-formed, made, line-met, answered, stays, malformed, not-begun}
use Rattle.script_play.proofs.RunKept.{plays-kept}
use Rattle.script_play.proofs.input.play_lines.Goals as goal
use Rattle.script_play.proofs.input.play_lines.Goals.{in_default-via-then-piece-lt1, in_default-via-else-piece-lt1+in_default-1, then-formed, else-formed, in_default-command-via-in-Some-Make+else-started, in_default-command-via-in_default}

pub loop-piece-init : goal.loop-piece-init
loop-piece-init c =
    let p = c.args.player in
    let l : length p.line.bytes ≡ held_bytes = search (rules, length-of) in
    let short = length-take-le p.line.length p.line.bytes (omega (arith, c.requires.0)) in
    let same : then_some c.is_some-started.result c.unwrap_or-state.result ≡ p.run =
    rw (c.is_some-started.ensures, c.unwrap_or-state.ensures) (same-run p.run c.unstarted.result) in
    (search of_calls, search of_calls, c.requires.0, refl, refl, refl, rw same (played-none c.args.input.now _ _ (search rules) refl (omega (arith, short, c.requires.0))))

pub loop-piece-preserved-in_default : goal.loop-piece-preserved-in_default
loop-piece-preserved-in_default c =
    let inv = c.loop-piece.invariant in
    let steps = c.in-Some.ensures.steps in
    let found = (steps.1.2 is_feed (answers_always _ _ _ (λ f a r g h. search rules))).1 in
    let piece : Piece (split_inclusive_rest c.loop-piece.piece-iterator) c.in-Some.piece.now (split_inclusive_rest c.next.new.self) steps.1.0 =
    record { cut = steps.0; long = steps.1.1; found = found; some = steps.2 } in
    let other : get_or c.in-Some.piece.now (length c.in-Some.piece.now - 1) 0 ≡ line_feed → ⊥ =
    elim c.in_default.branch [
      | in_default-via-then-piece-lt1 w ↦ absurd (search rules)
      | in_default-via-else-piece-lt1+in_default-1 w ↦ search rules
    ] in
    (search of_calls, search of_calls, c.hold-line.ensures.short, inv.3, inv.4, inv.5, played-held _ _ _ _ _ piece _ _ _ _ _ _ inv.6 c.hold-line.result other c.hold-line.ensures)

pub step_formed-r-requires : goal.step_formed-r-requires
step_formed-r-requires c =
    front-formed c.loop-piece.state c.loop-piece.cache c.loop-piece.memory c.cache_used-c.result c.memory_used-m.result
    c.cache_used-c.ensures.0 c.memory_used-m.ensures.0
    ∙ (rw c.if-started.true at (plays-kept c.loop-piece.invariant.6.plays (sym c.run_formed-formed.ensures ∙ c.if-formed.true)))

pub loop-piece-preserved-in-Some-run : goal.loop-piece-preserved-in-Some-run
loop-piece-preserved-in-Some-run c =
    let inv = c.loop-piece.invariant in
    let steps = c.in-Some.ensures.steps in
    let found = (steps.1.2 is_feed (answers_always _ _ _ (λ f a r g h. search rules))).1 in
    let piece : Piece (split_inclusive_rest c.loop-piece.piece-iterator) c.in-Some.piece.now (split_inclusive_rest c.next.new.self) steps.1.0 =
    record { cut = steps.0; long = steps.1.1; found = found; some = steps.2 } in
    let feed : get_or c.in-Some.piece.now (length c.in-Some.piece.now - 1) 0 ≡ line_feed = search rules in
    let asked = asked_of c.command.result in
    let run = then_some c.loop-piece.started c.loop-piece.state in
    let cache = c.loop-piece.cache in
    let memory = c.loop-piece.memory in
    let cfit : largest_cache ≤ length cache = omega (arith, c.requires.1, inv.3) in
    let mfit : largest_memory ≤ length memory = omega (arith, c.requires.2, inv.4) in
    let asks = ap asked_of (c.in-Some-Start.is ∙ ap Some c.in-Some-Start.field-0-is)
    ∙ sym (ap₂ (λ f n. some (start f n)) c.in-Some-Start.figures-is c.in-Some-Start.size-is) in
    let did = line-met asks (ap (λ r. option_or r run) c.in-Some-run.is) (c.play_start-r.ensures run) in
    (search of_calls, search of_calls, omega arith, c.play_start-r.auto.cache ∙ inv.3, c.play_start-r.auto.memory ∙ inv.4, c.play_start-r.auto.out ∙ inv.5, played-on _ _ _ _ _ piece _ _ _ _ _ _ inv.6 (Some c.in-Some-run.begun) c.loop-piece.line.bytes _ _ _ _ asked feed c.command.ensures did)

pub loop-piece-preserved-in_default-run : goal.loop-piece-preserved-in_default-run
loop-piece-preserved-in_default-run c =
    let inv = c.loop-piece.invariant in
    let steps = c.in-Some.ensures.steps in
    let found = (steps.1.2 is_feed (answers_always _ _ _ (λ f a r g h. search rules))).1 in
    let piece : Piece (split_inclusive_rest c.loop-piece.piece-iterator) c.in-Some.piece.now (split_inclusive_rest c.next.new.self) steps.1.0 =
    record { cut = steps.0; long = steps.1.1; found = found; some = steps.2 } in
    let feed : get_or c.in-Some.piece.now (length c.in-Some.piece.now - 1) 0 ≡ line_feed = search rules in
    let asked = asked_of c.command.result in
    let run = then_some c.loop-piece.started c.loop-piece.state in
    let cache = c.loop-piece.cache in
    let memory = c.loop-piece.memory in
    let cfit : largest_cache ≤ length cache = omega (arith, c.requires.1, inv.3) in
    let mfit : largest_memory ≤ length memory = omega (arith, c.requires.2, inv.4) in
    let asks = ap asked_of (c.in-Some-Start.is ∙ ap Some c.in-Some-Start.field-0-is)
    ∙ sym (ap₂ (λ f n. some (start f n)) c.in-Some-Start.figures-is c.in-Some-Start.size-is) in
    let did = line-met asks (ap (λ r. option_or r run) c.in_default-run.is) (c.play_start-r.ensures run) in
    (search of_calls, search of_calls, omega arith, c.play_start-r.auto.cache ∙ inv.3, c.play_start-r.auto.memory ∙ inv.4, c.play_start-r.auto.out ∙ inv.5, played-on _ _ _ _ _ piece _ _ _ _ _ _ inv.6 run c.loop-piece.line.bytes _ _ _ _ asked feed c.command.ensures did)

pub loop-piece-preserved-after-formed : goal.loop-piece-preserved-after-formed
loop-piece-preserved-after-formed c =
    let inv = c.loop-piece.invariant in
    let steps = c.in-Some.ensures.steps in
    let found = (steps.1.2 is_feed (answers_always _ _ _ (λ f a r g h. search rules))).1 in
    let piece : Piece (split_inclusive_rest c.loop-piece.piece-iterator) c.in-Some.piece.now (split_inclusive_rest c.next.new.self) steps.1.0 =
    record { cut = steps.0; long = steps.1.1; found = found; some = steps.2 } in
    let feed : get_or c.in-Some.piece.now (length c.in-Some.piece.now - 1) 0 ≡ line_feed = search rules in
    let asked = asked_of c.command.result in
    let run = then_some c.loop-piece.started c.loop-piece.state in
    let cache = c.loop-piece.cache in
    let memory = c.loop-piece.memory in
    let cfit : largest_cache ≤ length cache = omega (arith, c.requires.1, inv.3) in
    let mfit : largest_memory ≤ length memory = omega (arith, c.requires.2, inv.4) in
    let state = c.loop-piece.state in
    let call = call_of c.in-Some-Make.call in
    let asks : asked ≡ some (make call) = ap asked_of (c.in-Some-Make.is ∙ ap Some c.in-Some-Make.field-0-is) in
    let room = room-left _ _ _ _ _ piece _ _ _ _ _ _ inv.6 (omega (arith, c.requires.3, inv.5)) in
    let makes : MakesCall call (run_of (Some state) cache memory) (lent_of cache memory) c.if-formed.r (lent_of c.if-formed.cache c.if-formed.memory) =
    elim c.if-formed.branch [
      | then-formed w ↦
          let cused : w.cache_used-c.result ≤ length cache = omega (arith, w.cache_used-c.ensures.1, cfit) in
          let mused : w.memory_used-m.result ≤ length memory = omega (arith, w.memory_used-m.ensures.1, mfit) in
          rw (w.cache-is, w.memory-is, w.r-is) (made state c.in-Some-Make.call cache memory w.cache_used-c.result w.memory_used-m.result
          w.step_formed-r.result _ _ w.cache_used-c.ensures.0 w.memory_used-m.ensures.0 w.step_formed-r.ensures
          (w.step_formed-r.auto.cache ∙ length-take-le w.cache_used-c.result cache cused)
          (w.step_formed-r.auto.memory ∙ length-take-le w.memory_used-m.result memory mused) cused mused)
      | else-formed w ↦ rw (w.cache-is, w.memory-is, w.r-is) w.make_call-r.ensures
    ] in
    let did : PlaysCommand asked (run_at run cache memory c.loop-piece.out c.loop-piece.at)
    (run_at (then_some c.loop-piece.started c.if-formed.r.next) c.if-formed.cache c.if-formed.memory c.write_answer-at.new.out c.write_answer-at.result) =
    rw (asks, c.if-started.true) (answered call makes room c.write_answer-at.ensures) in
    (search of_calls, search of_calls, omega arith, c.if-formed.auto.cache ∙ inv.3, c.if-formed.auto.memory ∙ inv.4, c.write_answer-at.auto.out ∙ inv.5, played-on _ _ _ _ _ piece _ _ _ _ _ _ inv.6 (then_some c.loop-piece.started c.if-formed.r.next) c.loop-piece.line.bytes _ _ _ _ asked feed c.command.ensures did)

pub loop-piece-preserved : goal.loop-piece-preserved
loop-piece-preserved c =
    let inv = c.loop-piece.invariant in
    let steps = c.in-Some.ensures.steps in
    let found = (steps.1.2 is_feed (answers_always _ _ _ (λ f a r g h. search rules))).1 in
    let piece : Piece (split_inclusive_rest c.loop-piece.piece-iterator) c.in-Some.piece.now (split_inclusive_rest c.next.new.self) steps.1.0 =
    record { cut = steps.0; long = steps.1.1; found = found; some = steps.2 } in
    let feed : get_or c.in-Some.piece.now (length c.in-Some.piece.now - 1) 0 ≡ line_feed = search rules in
    let asked = asked_of c.command.result in
    let run = then_some c.loop-piece.started c.loop-piece.state in
    let cache = c.loop-piece.cache in
    let memory = c.loop-piece.memory in
    let cfit : largest_cache ≤ length cache = omega (arith, c.requires.1, inv.3) in
    let mfit : largest_memory ≤ length memory = omega (arith, c.requires.2, inv.4) in
    let refused : effect asked (run_of run cache memory) ≡ refused_effect malformed_line (run_of run cache memory) =
    elim c.in_default-command.branch [
      | in_default-command-via-in-Some-Make+else-started w ↦
          not-begun asked run cache memory c.loop-piece.out c.loop-piece.at cfit mfit _ (ap asked_of (w.in-Some-Make.is ∙ ap Some w.in-Some-Make.field-0-is))
          (rw w.if-started.false)
      | in_default-command-via-in_default w ↦
          malformed asked run cache memory c.loop-piece.out c.loop-piece.at cfit mfit (ap asked_of w.in_default-command.is)
    ] in
    let did = stays asked run cache memory c.loop-piece.out c.loop-piece.at cfit mfit malformed_line refused c.refuse_line-at.ensures in
    (search of_calls, search of_calls, omega arith, inv.3, inv.4, c.refuse_line-at.auto.out ∙ inv.5, played-on _ _ _ _ _ piece _ _ _ _ _ _ inv.6 run c.loop-piece.line.bytes _ _ _ _ asked feed c.command.ensures did)

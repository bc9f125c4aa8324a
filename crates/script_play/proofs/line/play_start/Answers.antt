-- `play_start` meets its contract.
use Rattle.model.specs.Starts.{start_answer_of}
use Prim.Native.Nat.{◌≤◌}
use lib.ListN.{length}
use lib.Seq.{length-take-le}
use mathlib.Core.Path.{sym, ap, ◌∙◌}
use native.Mathlib.Omega.{arith}
use Rattle.script_play.proofs.LinePlays.{begins, not-started, refused-wrote}
use Rattle.script_play.proofs.line.play_start.Goals as goal

pub returns-in-Ok : goal.returns-in-Ok
returns-in-Ok c = λ run.
    let cache = c.args.cache.now in
    let memory = c.args.memory.now in
    let cfit : c.cache_used-c.result ≤ length cache = omega (arith, c.cache_used-c.ensures.1, c.requires.0) in
    let mfit : c.memory_used-m.result ≤ length memory = omega (arith, c.memory_used-m.ensures.1, c.requires.1) in
    begins c.args.figures c.args.size cache memory c.cache_used-c.result c.memory_used-m.result c.cache_used-c.ensures.0
    c.memory_used-m.ensures.0 cfit mfit c.start-s.result.state _ _ (sym (ap start_answer_of c.in-Ok.is) ∙ c.start-s.ensures.0)
    c.start-s.ensures.1 (c.start-s.auto.cache ∙ length-take-le c.cache_used-c.result cache cfit) (c.fill.ensures.after (λ y e. e))
    run _ _ _ _ c.requires.2 c.write_ready.ensures

pub returns-in-Err : goal.returns-in-Err
returns-in-Err c = λ run.
    let cache = c.args.cache.now in
    let memory = c.args.memory.now in
    let cfit : c.cache_used-c.result ≤ length cache = omega (arith, c.cache_used-c.ensures.1, c.requires.0) in
    let mfit : c.memory_used-m.result ≤ length memory = omega (arith, c.memory_used-m.ensures.1, c.requires.1) in
    not-started c.args.figures c.args.size cache memory c.cache_used-c.result c.memory_used-m.result c.cache_used-c.ensures.0
    c.memory_used-m.ensures.0 cfit mfit _ c.start-s.result.state _ (sym (ap start_answer_of c.in-Err.is) ∙ c.start-s.ensures.0)
    c.start-s.ensures.1 run _ _ _ _ c.requires.0 c.requires.1 (rw c.number.ensures at (refused-wrote _ c.requires.2 c.write_answer.ensures))

-- `make_call` meets its contract.
use Prim.Native.Nat.{◌≤◌}
use lib.ListN.{length}
use lib.Seq.{length-take-le}
use mathlib.Core.Path.{◌∙◌}
use native.Mathlib.Omega.{arith}
use Rattle.script_play.proofs.LinePlays.{made}
use Rattle.script_play.proofs.line.make_call.Goals as goal

pub returns : goal.returns
returns c =
    let cache = c.args.cache.now in
    let memory = c.args.memory.now in
    let cfit : c.cache_used-c.result ≤ length cache = omega (arith, c.cache_used-c.ensures.1, c.requires.0) in
    let mfit : c.memory_used-m.result ≤ length memory = omega (arith, c.memory_used-m.ensures.1, c.requires.1) in
    made c.args.state c.args.call cache memory c.cache_used-c.result c.memory_used-m.result
    c.step.result _ _ c.cache_used-c.ensures.0 c.memory_used-m.ensures.0 c.step.ensures
    (c.step.auto.cache ∙ length-take-le c.cache_used-c.result cache cfit)
    (c.step.auto.memory ∙ length-take-le c.memory_used-m.result memory mfit) cfit mfit

-- `batch::refuse_calls` meets its contract: after i calls the first i answers are there.
use Prim.Native.Nat.{ℕ, ◌+◌, ◌*◌, ◌≤◌}
use mathlib.Core.Path.{◌≡◌, subst, ◌∙◌}
use native.Mathlib.Omega.{arith}
use lib.ListN.{length}
use Rattle.rules.specs.RefusalNumbers.{refusal_number}
use Rattle.nicoisetarn.proofs.Batches.{Refused, refused_none, refused-more, refused_all}
use Rattle.nicoisetarn.proofs.batch.refuse_calls.Goals as goal

pub loop-i-init : goal.loop-i-init
loop-i-init c = refused_none (refusal_number c.args.refusal) c.args.n c.args.calls.now c.args.answers.now

pub loop-i-preserved : goal.loop-i-preserved
loop-i-preserved c =
    let room : 6 * (c.loop-i.i + 1) ≤ length c.loop-i.answers = omega (arith, c.requires.1) in
    refused-more (refusal_number c.args.refusal) c.args.n c.args.calls.now c.loop-i.i c.loop-i.answers _ _ _ c.loop-i-test.true room
    c.listed_call-call.ensures c.refused_answer-a.ensures c.put_answer.ensures c.loop-i.invariant

pub returns : goal.returns
returns c =
    let all : c.loop-i.i ≡ c.args.n = omega arith in
    refused_all (refusal_number c.args.refusal) c.args.n c.args.calls.now c.loop-i.answers (c.loop-i.auto.answers ∙ c.requires.1) (subst (λ (i : ℕ). Refused (refusal_number c.args.refusal) c.args.n c.args.calls.now i c.loop-i.answers) all c.loop-i.invariant)

-- `batch::make_calls` meets its contract: after i calls the state is well formed, and the first i answers are there.
use Prim.Native.Nat.{ℕ, ◌+◌, ◌*◌, ◌≤◌}
use mathlib.Core.Path.{◌≡◌, refl, sym, ap, subst, ◌∙◌}
use native.Mathlib.Omega.{arith}
use lib.ListN.{length}
use Rattle.std.specs.Prelude.{option_map}
use Rattle.model.specs.State.{call_of, world_of}
use Rattle.nicoisetarn.proofs.ShownPart.{step_small}
use Rattle.nicoisetarn.proofs.Batches.{Made, made_none, made_all, going-same, going-call, going-none}
use Rattle.nicoisetarn.proofs.batch.make_calls.Goals as goal
use Rattle.nicoisetarn.proofs.batch.make_calls.Goals.{in-Some, in-None}

pub loop-i-init : goal.loop-i-init
loop-i-init c = record { formed = c.requires.2; made = made_none c.args.n c.args.calls.now _ c.args.answers.now }

pub step_formed-r-requires : goal.step_formed-r-requires
step_formed-r-requires c = c.loop-i.invariant.formed

pub answer_image-a-requires : goal.answer_image-a-requires
answer_image-a-requires c = step_small _ _ _ c.step_formed-r.result _ _ c.step_formed-r.ensures

pub loop-i-preserved : goal.loop-i-preserved
loop-i-preserved c =
    let from = world_of c.args.state c.args.cache.now c.args.memory.now in
    let room : 6 * (c.loop-i.i + 1) ≤ length c.loop-i.answers = omega (arith, c.requires.1) in
    elim c.match-listed_call.branch [
      | in-Some w ↦
          going-same c.args.n c.args.calls.now from refl w.cache-is w.memory-is w.at-is
          (going-call c.args.n c.args.calls.now from c.loop-i.i c.loop-i.at c.loop-i.cache c.loop-i.memory c.loop-i.answers c.loop-i-test.true room c.loop-i.invariant
          _ w.step_formed-r.result _ _ _ _ (sym (ap (option_map call_of) w.in-Some.is) ∙ c.listed_call.ensures) w.step_formed-r.ensures
          (w.a-is ∙ w.answer_image-a.ensures) c.put_answer.ensures)
      | in-None w ↦
          going-same c.args.n c.args.calls.now from refl w.cache-is w.memory-is w.at-is
          (going-none c.args.n c.args.calls.now from c.loop-i.i c.loop-i.at c.loop-i.cache c.loop-i.memory c.loop-i.answers c.loop-i-test.true room c.loop-i.invariant
          _ _ (sym (ap (option_map call_of) w.in-None.is) ∙ c.listed_call.ensures) w.a-is c.put_answer.ensures)
    ]

pub returns : goal.returns
returns c =
    let all : c.loop-i.i ≡ c.args.n = omega arith in
    let from = world_of c.args.state c.args.cache.now c.args.memory.now in
    made_all c.args.n c.args.calls.now from _ c.loop-i.answers (c.loop-i.auto.answers ∙ c.requires.1)
    (subst (λ (i : ℕ). Made c.args.n c.args.calls.now from i (world_of c.loop-i.at c.loop-i.cache c.loop-i.memory) c.loop-i.answers) all c.loop-i.invariant.made)

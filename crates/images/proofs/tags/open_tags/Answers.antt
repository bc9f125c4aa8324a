-- `tags::open_tags` meets its contract. The loop: the first i entries are made.
use Prim.Native.Nat.{ℕ, ◌-◌}
use mathlib.Core.Path.{◌≡◌, ap, ◌∙◌}
use native.Mathlib.Omega.{arith}
use lib.ListN.{length}
use borrow.Author.Rules.{rules}
use Rattle.images.specs.Images.{opened_tag, opened_tags}
use Rattle.rules.specs.Shape.{no_tag}
use Rattle.images.proofs.Standing.{no_tag_image, bounded-rest, bounded-take}
use Rattle.images.proofs.Mapped.{made, made-step}
use Rattle.images.proofs.tags.open_tags.Goals as goal

pub loop-i-preserved : goal.loop-i-preserved
loop-i-preserved c =
    let long : length c.args.tags ≡ 256 = search rules in
    made-step opened_tag no_tag no_tag_image c.loop-i.i 256 c.args.tags c.loop-i.out c.from.result long (omega arith) c.loop-i.invariant c.from.ensures

pub returns : goal.returns
unfolding opened_tags
returns c =
    let long : length c.args.tags ≡ 256 = search rules in
    let e : c.loop-i.i ≡ c.min-i-end.result = omega arith in
    c.loop-i.invariant
    ∙ ap (λ (i : ℕ). made opened_tag no_tag i (256 - i) c.args.tags) (e ∙ c.min-i-end.ensures)
    ∙ rw (bounded-take c.args.n c.args.tags long, bounded-rest c.args.n c.args.tags long)

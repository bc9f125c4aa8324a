-- `tags::open_tags` meets its contract. The loop: the first i entries are made.
use Prim.Native.Nat.{◌-◌}
use mathlib.Core.Path.{◌≡◌}
use Rattle.images.specs.Images.{opened_tag}
use Rattle.rules.specs.Shape.{no_tag}
use Rattle.images.proofs.Mapped.{made}
use Rattle.images.proofs.tags.open_tags.Given as goal

abbrev pub invariant-loop-i : goal.invariant-loop-i
invariant-loop-i l = l.out ≡ made opened_tag no_tag l.i (256 - l.i) l.tags

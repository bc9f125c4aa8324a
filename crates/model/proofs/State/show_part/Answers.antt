-- `State::show_part` meets its contract: check 1 or 10 refuses, or the state is well formed.
use mathlib.Core.Path.{refl, sym, ◌∙◌}
use native.Mathlib.Omega.{arith}
use Rattle.model.proofs.Moves.{show-refused}
use Rattle.model.proofs.Calls.{unformed-refuses}
use Rattle.model.proofs.Facts.{formed-shaped}
use Rattle.model.proofs.State.show_part.Goals as goal

pub returns-then-not-is_formed : goal.returns-then-not-is_formed
returns-then-not-is_formed c =
    (show-refused _ _ _ _ (unformed-refuses _ _ _ _ (λ k. refl) (sym c.is_formed.ensures ∙ c.if-not-is_formed.true) tt), omega arith)

pub part_formed-requires : goal.part_formed-requires
part_formed-requires c = formed-shaped _ _ c.args.memory.now (sym c.is_formed.ensures ∙ c.if-not-is_formed.false)

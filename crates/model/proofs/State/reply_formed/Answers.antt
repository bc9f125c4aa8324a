-- `State::reply_formed` meets its contract.
use mathlib.Core.Path.{refl, sym, ◌∙◌, ap}
use native.Mathlib.Omega.{arith}
use Rattle.rules.specs.Shape.{is_free}
use Rattle.model.proofs.Calls.{formed-opens, one-refuses, one-does}
use Rattle.model.proofs.Facts.{formed-fillable}
use Rattle.model.proofs.Moves.{filled-state}
use Rattle.model.proofs.State.reply_formed.Goals as goal

pub returns-in_default : goal.returns-in_default
returns-in_default c = rw c.refused.ensures (sym (one-refuses _ _ _ (formed-opens _ _ _ c.requires tt) _ _ refl (ap is_free c.in_default.is)))

pub fill_line-requires : goal.fill_line-requires
fill_line-requires c = (formed-fillable c.args.self c.args.cache.now c.args.memory.now _ c.requires c.in-Line.is)

pub overflow_mul-result : goal.overflow_mul-result
overflow_mul-result c =
    let low = (formed-fillable c.args.self c.args.cache.now c.args.memory.now _ c.requires c.in-Line.is).low in
    omega (arith, low)

pub returns : goal.returns
returns c =
    filled-state c.args.self c.args.cache.now c.args.memory.now _ _ _ _ c.in-Line.is c.fill_line.ensures
    ∙ sym (one-does _ _ _ (formed-opens _ _ _ c.requires tt) _ _ refl (ap is_free c.in-Line.is))

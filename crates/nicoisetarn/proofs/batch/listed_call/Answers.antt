-- `batch::listed_call` meets its contract: the two numbers that no call has, then the call of the others.
use Prim.Native.Nat.{◌+◌, ◌-◌}
use native.Mathlib.Omega.{arith}
use lib.ListN.{drop}
use Rattle.nicoisetarn.proofs.Batches.{listed-fifth, listed-sixth, listed-known}
use Rattle.nicoisetarn.proofs.batch.listed_call.Goals as goal

pub returns-in_default-2 : goal.returns-in_default-2
returns-in_default-2 c =
    let at = c.args.at in
    listed-sixth (drop at c.args.calls.now) (at + 6 - at) (omega arith) (omega arith) (λ e. omega arith)

pub returns-in_default-3 : goal.returns-in_default-3
returns-in_default-3 c =
    let at = c.args.at in
    listed-fifth (drop at c.args.calls.now) (at + 6 - at) (omega arith) (λ e. omega arith)

pub returns : goal.returns
returns c =
    let at = c.args.at in
    listed-known (drop at c.args.calls.now) (at + 6 - at) (omega arith) (omega arith) (omega arith) _ c.call_numbered.ensures

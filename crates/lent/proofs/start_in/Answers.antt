-- `start_in` meets its contract: what was handed back is stored, or the state is kept.
use Rattle.std.proofs.lemmas.Result.{err_from_is_err_and}
use Rattle.lent.proofs.Starting.{start-stored, start-kept}
use Rattle.lent.proofs.start_in.Goals as goal

pub returns-in_err-r : goal.returns-in_err-r
returns-in_err-r c =
    let p = err_from_is_err_and c.from_residual.result c.from_residual.ensures.1 in
    rw (p.1, p.2) (start-kept _ _ _ c.args.state.now c.start-r.result _ c.start-r.ensures _ c.in_err-r.was)

pub returns : goal.returns
returns c = start-stored _ _ _ c.args.state.now c.start-r.result _ c.start-r.ensures _ c.in_ok-r.was

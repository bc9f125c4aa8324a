-- `store_queue::forward` meets its contract. The byte is that of the last store that covers it.
use Rattle.std.proofs.Common.{sym, ◌∙◌, ap, Some, option_map}
use Rattle.rules.specs.Forward.{store_byte}
use Rattle.store_queue.proofs.Forwarded.{found-begins, found-forwarded}
use Rattle.store_queue.proofs.forward.Goals as goal

pub returns-in_err-s : goal.returns-in_err-s
returns-in_err-s c =
    c.from_residual.ensures
    ∙ (ap (option_map (λ s. store_byte s c.args.a)) (sym c.in_err-s.was) ∙ found-forwarded c.args.i c.args.a c.args.stores _ c.last_cover.ensures)

pub overflow_sub-a : goal.overflow_sub-a
overflow_sub-a c = found-begins c.args.i c.args.a c.args.stores _ c.last_cover.ensures _ c.in_ok-s.was

pub returns : goal.returns
returns c =
    ap Some c.byte_of.ensures
    ∙ (ap (option_map (λ s. store_byte s c.args.a)) (sym c.in_ok-s.was) ∙ found-forwarded c.args.i c.args.a c.args.stores _ c.last_cover.ensures)

-- `State::check_state` meets its contract: the lines, the queues, the register, the checkpoints.
use borrow.Author.Rules.{rules}
use mathlib.Core.Path.{◌≡◌}
use Prim.Native.Nat.{◌≤◌}
use lib.ListN.{length}
use Rattle.std.proofs.lemmas.Result.{err_from_is_err_and}
use Rattle.rules.specs.Shape.{top_number}
use Rattle.model.specs.declared.State.{State}
use Rattle.model.specs.State.{queues_of}
use Rattle.model.proofs.Facts.{length-of, fit-shaped, shaped-self}
use Rattle.model.proofs.Checking.{lines_fit, state-lines, found-entries, found-request, found-checkpoints, found_nothing}
use Rattle.model.proofs.State.check_state.Goals as goal

pub returns-in_err-check_lines : goal.returns-in_err-check_lines
returns-in_err-check_lines c =
    let p = err_from_is_err_and c.from_residual.result c.from_residual.ensures.1 in
    rw (p.1, p.2) (state-lines (queues_of c.args.self) _ _ c.in_err-check_lines.ensures)

pub returns-then-not-queues_good : goal.returns-then-not-queues_good
returns-then-not-queues_good c =
    let s : State = c.args.self in
    let h₁ : length s.stores ≡ 16 = search (rules, length-of) in
    let h₂ : length s.loads ≡ 8 = search (rules, length-of) in
    let h₃ : s.last ≤ top_number = search rules in
    let told = found-entries s c.args.cache.now c.args.memory.now h₁ h₂ h₃ c.in_ok-check_lines.ensures in
    told _ c.queues_good.ensures c.if-not-queues_good.true

pub is_request_good-requires : goal.is_request_good-requires
is_request_good-requires c = shaped-self _ _ (fit-shaped _ _ _ (lines_fit _ c.in_ok-check_lines.ensures))

pub returns-then-not-is_request_good : goal.returns-then-not-is_request_good
returns-then-not-is_request_good c =
    let s : State = c.args.self in
    let h₁ : length s.stores ≡ 16 = search (rules, length-of) in
    let h₂ : length s.loads ≡ 8 = search (rules, length-of) in
    let h₃ : s.last ≤ top_number = search rules in
    let told = found-request s c.args.cache.now c.args.memory.now h₁ h₂ h₃ c.in_ok-check_lines.ensures in
    told _ c.queues_good.ensures (c.if-not-queues_good.false) _ c.is_request_good.ensures c.if-not-is_request_good.true

pub returns-then-not-are_formed : goal.returns-then-not-are_formed
returns-then-not-are_formed c =
    let s : State = c.args.self in
    let h₁ : length s.stores ≡ 16 = search (rules, length-of) in
    let h₂ : length s.loads ≡ 8 = search (rules, length-of) in
    let h₃ : s.last ≤ top_number = search rules in
    let told = found-checkpoints s c.args.cache.now c.args.memory.now h₁ h₂ h₃ c.in_ok-check_lines.ensures in
    told _ c.queues_good.ensures (c.if-not-queues_good.false) _ c.is_request_good.ensures (c.if-not-is_request_good.false) _ c.are_formed.ensures c.if-not-are_formed.true

pub returns : goal.returns
returns c =
    let s : State = c.args.self in
    let h₁ : length s.stores ≡ 16 = search (rules, length-of) in
    let h₂ : length s.loads ≡ 8 = search (rules, length-of) in
    let h₃ : s.last ≤ top_number = search rules in
    let told = found_nothing s c.args.cache.now c.args.memory.now h₁ h₂ h₃ c.in_ok-check_lines.ensures in
    told _ c.queues_good.ensures (c.if-not-queues_good.false) _ c.is_request_good.ensures (c.if-not-is_request_good.false) _ c.are_formed.ensures c.if-not-are_formed.false

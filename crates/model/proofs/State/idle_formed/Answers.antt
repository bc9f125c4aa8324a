-- `State::idle_formed` meets its contract.
use mathlib.Core.Path.{refl, sym, ◌∙◌}
use Rattle.rules.specs.Calls as rules
use Rattle.rules.specs.Shape.{line_of}
use Rattle.model.specs.State.{queues_of, hierarchy_of}
use Rattle.rules.proofs.QueueView.{parts}
use Rattle.model.proofs.Checking.{ready_at}
use Rattle.model.proofs.Moves.{writes-known, idle-drains, idle-absent, idle-unready, missing-absent, missing-unready}
use Rattle.model.proofs.Calls.{formed-opens, none-does}
use Rattle.model.proofs.Facts.{formed-sound, formed-shaped, shaped-room, fit-memory, oldest-fine, oldest-inside}
use Rattle.model.proofs.State.idle_formed.Goals as goal
use Rattle.model.proofs.State.idle_formed.Goals.{else-ready-via-then-ready+else-can_write, else-ready-via-else-ready}

pub drain_oldest-requires : goal.drain_oldest-requires
drain_oldest-requires c =
    let s = c.args.self in
    let cache = c.args.cache.now in
    let memory = c.args.memory.now in
    let ready = sym (c.store_ready-ready.ensures ∙ ready_at s cache memory) ∙ c.if-ready.true in
    let sound = formed-sound s cache memory c.requires in
    let p = parts (queues_of s) (hierarchy_of s cache memory) c.requires in
    let small = sound.small in
    (sound.shaped, oldest-fine (queues_of s) (hierarchy_of s cache memory) small p ready, rw (fit-memory s cache memory p.fit) (oldest-inside (queues_of s) (hierarchy_of s cache memory) small p ready), refl)

pub returns-then-can_write : goal.returns-then-can_write
unfolding line_of
returns-then-can_write c =
    let s = c.args.self in
    let cache = c.args.cache.now in
    let memory = c.args.memory.now in
    let told = c.store_ready-ready.ensures ∙ ready_at s cache memory in
    let room = shaped-room _ _ (formed-shaped s cache memory c.requires) in
    c.drain_oldest.ensures ∙ sym (none-does rules.idle _ _ (formed-opens rules.idle _ _ c.requires tt) refl ∙ idle-drains s cache memory (sym told ∙ c.if-ready.true) (sym (writes-known s _ room c.can_write.ensures) ∙ c.if-can_write.true))

pub idle_request-requires : goal.idle_request-requires
unfolding line_of
idle_request-requires c =
    let s = c.args.self in
    let cache = c.args.cache.now in
    let memory = c.args.memory.now in
    let told = c.store_ready-ready.ensures ∙ ready_at s cache memory in
    let room = shaped-room _ _ (formed-shaped s cache memory c.requires) in
    (formed-shaped s cache memory c.requires, refl, elim c.else-ready.branch [ else-ready-via-then-ready+else-can_write w ↦ missing-absent s _ told (sym (writes-known s _ room w.can_write.ensures) ∙ w.if-can_write.false) | else-ready-via-else-ready w ↦ missing-unready s _ told w.if-ready.false ])

pub returns : goal.returns
unfolding line_of
returns c =
    let s = c.args.self in
    let cache = c.args.cache.now in
    let memory = c.args.memory.now in
    let told = c.store_ready-ready.ensures ∙ ready_at s cache memory in
    let room = shaped-room _ _ (formed-shaped s cache memory c.requires) in
    elim c.else-ready.branch [
      | else-ready-via-then-ready+else-can_write w ↦ c.idle_request.ensures _ _ ∙ sym (none-does rules.idle _ _ (formed-opens rules.idle _ _ c.requires tt) refl ∙ idle-absent s cache memory (sym (writes-known s _ room w.can_write.ensures) ∙ w.if-can_write.false))
      | else-ready-via-else-ready w ↦ c.idle_request.ensures _ _ ∙ sym (none-does rules.idle _ _ (formed-opens rules.idle _ _ c.requires tt) refl ∙ idle-unready s cache memory (sym told ∙ w.if-ready.false))
    ]

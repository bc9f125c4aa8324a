-- `play` meets its contract.
use Rattle.script_play.specs.Player.{PlayerAt, player_at}
use lib.ListN.{length}
use mathlib.Core.Path.{◌≡◌, sym, ◌∙◌, ap}
use Rattle.model.proofs.Facts.{length-of}
use Rattle.script.specs.Commands.{held_bytes}
use Rattle.script.specs.Play as script
use Rattle.script_play.proofs.InputPlays.{roomy-tells, roomy-bounds, all-played, none-played}
use borrow.Author.Rules.{rules}
use Rattle.script_play.proofs.Player.play.Goals as goal

pub play_lines-requires : goal.play_lines-requires
play_lines-requires c =
    let s = player_at c.args.self c.args.cache.now c.args.memory.now c.args.out.now 0 in
    let roomy = sym (roomy-tells c.args.input.now s c.is_roomy.result c.is_roomy.ensures) ∙ c.if-is_roomy.true in
    let bounds = roomy-bounds c.args.input.now s roomy in
    (c.bounded.ensures.0, bounds.0, bounds.1, bounds.2)

pub returns-then-is_roomy : goal.returns-then-is_roomy
returns-then-is_roomy c =
    let cache = c.args.cache.now in
    let memory = c.args.memory.now in
    let s = player_at c.args.self cache memory c.args.out.now 0 in
    let roomy = sym (roomy-tells c.args.input.now s c.is_roomy.result c.is_roomy.ensures) ∙ c.if-is_roomy.true in
    let same = ap {B = PlayerAt} (λ (p : script.Player). record { player = p; lent = s.lent; out = s.out; at = 0 }) (c.bounded.ensures.1 cache memory) in
    all-played c.args.input.now s roomy same c.play_lines.ensures.0 c.play_lines.ensures.1

pub returns : goal.returns
returns c =
    let l : length c.args.self.line.bytes ≡ held_bytes = search (rules, length-of) in
    let input = c.args.input.now in
    let s = player_at c.args.self c.args.cache.now c.args.memory.now c.args.out.now 0 in
    let short = sym (roomy-tells input s c.is_roomy.result c.is_roomy.ensures) ∙ c.if-is_roomy.false in
    none-played input c.args.self c.args.cache.now c.args.memory.now c.args.out.now l short

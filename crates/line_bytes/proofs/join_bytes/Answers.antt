-- `join_bytes` meets its contract.
use Rattle.std.proofs.Common.{ℕ, ◌≡◌, ◌+◌, ◌*◌, ◌^◌, ◌∙◌, ◌&&◌, sym, ap, set, w32, Some, arith, rules}
use Rattle.std.proofs.lemmas.List.{get_or-set_other}
use Rattle.std.specs.Int.{from_le_bytes}
use Rattle.line_bytes.specs.Reads.{loaded}
use Rattle.line_bytes.proofs.Reading.{joined_above, left, left-lacking, left-joins, left-none, four-set}
use Rattle.line_bytes.proofs.join_bytes.Goals as goal

pub returns-in_err-b : goal.returns-in_err-b
returns-in_err-b c =
    c.from_residual.ensures
    ∙ sym (c.loop-k.invariant.2 ∙ left-lacking c.args.i c.args.a c.args.width c.args.stores c.args.cache.now c.args.p c.args.here c.loop-k.k _ _ c.loop-k-test.true (sym c.in_err-b.was ∙ c.byte_at.ensures))

pub loop-k-preserved : goal.loop-k-preserved
loop-k-preserved c =
    let g = c.loop-k.invariant in
    let k = c.loop-k.k in
    let b = c.in_ok-b.b in
    let low : from_le_bytes w32 (set c.loop-k.bytes k b.value) ≡ from_le_bytes w32 c.loop-k.bytes + 256 ^ k * b.value = four-set c.loop-k.bytes k b.value g.0 (omega arith) (g.1 k (omega arith)) in (
      search rules,
      λ j h. get_or-set_other c.loop-k.bytes k j b.value 0 (λ e. omega arith) ∙ g.1 j (omega arith),
      g.2
          ∙ (left-joins c.args.i c.args.a c.args.width c.args.stores c.args.cache.now c.args.p c.args.here k _ _ c.loop-k-test.true b (sym c.in_ok-b.was ∙ c.byte_at.ensures) (omega arith)
          ∙ ap (λ (n : ℕ). joined_above (k + 1) n (c.loop-k.forwarded && b.forwarded) (left c.args.i c.args.a c.args.width c.args.stores c.args.cache.now c.args.p c.args.here (k + 1))) (sym low)),
    )

pub returns : goal.returns
returns c =
    ap (λ (v : ℕ). Some (loaded c.loop-k.forwarded v)) c.from_le_bytes-value.ensures
    ∙ sym (c.loop-k.invariant.2 ∙ left-none c.args.i c.args.a c.args.width c.args.stores c.args.cache.now c.args.p c.args.here c.loop-k.k _ _ c.loop-k-test.false)

-- `answers::coded_preview` meets its contract, number by number.
use Rattle.std.proofs.Common.{rules}
use Rattle.std.specs.Prelude.{Some, None, is_some, unwrap_or}
use Rattle.std.specs.Prelude as std
use mathlib.Core.Path.{◌≡◌, refl, ap, ◌∙◌}
use Prim.Native.Nat.{ℕ}
use native.Mathlib.Omega.{arith}
use mir.Val.{bool_byte}
use Rattle.lists.specs.Bytes.{value_at}
use Rattle.records.specs.Records.{eviction_given}
use Rattle.nicoisetarn.specs.Answers.{evicts, line_evicted}
use Rattle.nicoisetarn.proofs.answers.coded_preview.Goals as goal

evicts-told : (e : std.Option ℕ) → bool_byte (is_some e) ≡ evicts (eviction_given e)
evicts-told None = refl
evicts-told (Some l) = refl

line-told : (e : std.Option ℕ) → unwrap_or e 0 ≡ line_evicted (eviction_given e)
line-told None = refl
line-told (Some l) = refl

pub returns : goal.returns
unfolding value_at
returns c =
    let told : c.is_some.result ≡ is_some c.args.p.evicted = search rules in
    let second : c.from.result ≡ evicts (eviction_given c.args.p.evicted) = c.from.ensures ∙ (ap bool_byte told ∙ evicts-told c.args.p.evicted) in
    let third : c.from-2.result ≡ line_evicted (eviction_given c.args.p.evicted) = c.from-2.ensures ∙ (c.unwrap_or.ensures ∙ line-told c.args.p.evicted) in
    let fifth : c.from_le_bytes.result ≡ value_at c.args.p.ages 0 4 = omega arith in
    rw (second, third, c.from-3.ensures, fifth)

-- `scan_all` meets its contract.
use Rattle.std.proofs.Common.{rules, ◌∙◌}
use Rattle.std.proofs.lemmas.Iterator.{YieldsList-from_slice}
use Rattle.script_text.specs.Reader.{scan_byte, no_number}
use Rattle.script_text.proofs.TryFold.{try_fold-list}
use Rattle.script_text.proofs.Scanning.{tries-scanned}
use Rattle.script_text.proofs.reader.scan_all.Goals as goal

pub returns : goal.returns
returns c =
    let y = YieldsList-from_slice {s = c.iter.result} c.args.bytes.now (search rules) in
    try_fold-list (λ s b. scan_byte b s) _ _ _ c.try_fold.ensures.ran y (λ a x w q k. search rules) ∙ tries-scanned c.args.bytes.now no_number

-- `preview_exact` promises what is proved in PreviewClaims.
use Rattle.rules.proofs.PreviewClaims.{preview-exact, no-other-previews}
use Rattle.rules.proofs.preview_exact.Goals as goal

pub returns : goal.returns
returns c = record { by-preview = preview-exact; by-others = no-other-previews }

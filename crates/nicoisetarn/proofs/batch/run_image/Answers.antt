-- `batch::run_image` meets its contract: the lengths fit, or nothing is made.
use mathlib.Core.Path.{refl, ◌∙◌}
use Rattle.nicoisetarn.proofs.BatchRuns.{fits_told, batch-unfit}
use Rattle.nicoisetarn.proofs.batch.run_image.Goals as goal

pub returns-then-not-batch_fits : goal.returns-then-not-batch_fits
returns-then-not-batch_fits c =
    batch-unfit c.args.calls.now c.args.answers.now c.args.image c.args.cache.now c.args.memory.now
    (fits_told c.args.calls.now c.args.answers.now _ c.batch_fits.ensures ∙ c.if-not-batch_fits.true) _ refl refl

pub run_fitting-requires : goal.run_fitting-requires
run_fitting-requires c = fits_told c.args.calls.now c.args.answers.now _ c.batch_fits.ensures ∙ c.if-not-batch_fits.false

-- `answers::answer_image` meets its contract: each kind by itself.
use native.Mathlib.Omega.{arith}
use Rattle.nicoisetarn.proofs.ShownPart.{part-fits, part-image}
use Rattle.nicoisetarn.proofs.answers.answer_image.Goals as goal

pub overflow_cast-start : goal.overflow_cast-start
overflow_cast-start c = let p = part-fits _ _ _ c.in-Shown.is c.requires in omega (arith, p.0)

pub overflow_cast-n : goal.overflow_cast-n
overflow_cast-n c = let p = part-fits _ _ _ c.in-Shown.is c.requires in omega (arith, p.1)

pub returns-in-Refused : goal.returns-in-Refused
returns-in-Refused c = rw c.in-Refused.is c.coded.ensures

pub returns-in-Stored : goal.returns-in-Stored
returns-in-Stored c = rw c.in-Stored.is c.coded-in-Stored.ensures

pub returns-in-Value : goal.returns-in-Value
returns-in-Value c = rw c.in-Value.is c.coded-in-Value.ensures

pub returns-in-Waits : goal.returns-in-Waits
returns-in-Waits c = rw c.in-Waits.is c.coded-in-Waits.ensures

pub returns-in-WaitsRequested : goal.returns-in-WaitsRequested
returns-in-WaitsRequested c = rw c.in-WaitsRequested.is c.coded-in-WaitsRequested.ensures

pub returns-in-Committed : goal.returns-in-Committed
returns-in-Committed c = rw c.in-Committed.is c.coded-in-Committed.ensures

pub returns-in-Kept : goal.returns-in-Kept
returns-in-Kept c = rw c.in-Kept.is c.coded-in-Kept.ensures

pub returns-in-Drained : goal.returns-in-Drained
returns-in-Drained c = rw c.in-Drained.is c.coded-in-Drained.ensures

pub returns-in-Requested : goal.returns-in-Requested
returns-in-Requested c = rw c.in-Requested.is c.coded-in-Requested.ensures

pub returns-in-Idled : goal.returns-in-Idled
returns-in-Idled c = rw c.in-Idled.is c.coded-in-Idled.ensures

pub returns-in-Filled : goal.returns-in-Filled
returns-in-Filled c = rw c.in-Filled.is c.coded-in-Filled.ensures

pub returns-in-Flushed : goal.returns-in-Flushed
returns-in-Flushed c = rw c.in-Flushed.is c.coded-in-Flushed.ensures

pub returns-in-Shown : goal.returns-in-Shown
returns-in-Shown c = part-image _ _ _ c.in-Shown.is _ c.coded-in-Shown.ensures

pub returns-in-Checkpointed : goal.returns-in-Checkpointed
returns-in-Checkpointed c = rw c.in-Checkpointed.is c.coded-in-Checkpointed.ensures

pub returns-in-Previewed : goal.returns-in-Previewed
returns-in-Previewed c = rw c.in-Previewed.is c.coded_preview.ensures

-- `refusal_table` promises what ByComputing computes.
use Rattle.rules.proofs.ByComputing.{start-refusals, input-refusals, state-refusals, clause-refusals, refusals-in-order}
use Rattle.rules.proofs.refusal_table.Goals as goal

pub returns : goal.returns
returns c =
    record {
      starts = start-refusals;
      input = input-refusals;
      state = state-refusals;
      clauses = clause-refusals;
      order = refusals-in-order;
    }

-- `marks_after` meets its contract, policy by policy.
use Rattle.records.proofs.marks_after.Goals as goal

pub returns-in-WriteBack : goal.returns-in-WriteBack
returns-in-WriteBack c = rw c.in-WriteBack.is c.with_mark.ensures

pub returns-in-WriteThrough : goal.returns-in-WriteThrough
returns-in-WriteThrough c = rw c.in-WriteThrough.is

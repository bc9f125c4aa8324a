-- `checkpoints_exact` promises what is proved in CheckpointClaims.
use Rattle.rules.proofs.CheckpointClaims.{sets-exactly, returns-exactly, aborts-exactly, commits-exactly, marks_stay, marks-ranked}
use Rattle.rules.proofs.checkpoints_exact.Goals as goal

pub returns : goal.returns
returns c =
    record {
      by-set = sets-exactly;
      by-return = returns-exactly;
      by-abort = aborts-exactly;
      by-commit = commits-exactly;
      by-others = marks_stay;
      by_rank = marks-ranked;
    }

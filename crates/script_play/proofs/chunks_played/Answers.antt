-- `chunks_played` promises what `chunks-played` proves.
use Rattle.script_play.proofs.InputPlays.{chunks-played}
use Rattle.script_play.proofs.chunks_played.Goals as goal

pub returns : goal.returns
returns c = chunks-played

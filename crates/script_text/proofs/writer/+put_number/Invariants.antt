-- `put_number` ends: the number falls at each call.
use Rattle.script_text.proofs.writer.+put_number.Given as goal

abbrev pub decreases-put_number : goal.decreases-put_number
decreases-put_number l = l.n

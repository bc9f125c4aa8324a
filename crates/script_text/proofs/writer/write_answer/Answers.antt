-- `write_answer` meets its contract.
use Rattle.script_text.proofs.Writing.{no_room, with-room}
use Rattle.script_text.proofs.writer.write_answer.Goals as goal

pub returns-then-not-has_room : goal.returns-then-not-has_room
returns-then-not-has_room c = no_room _ c.if-not-has_room.ensures

pub returns : goal.returns
returns c = with-room c.if-not-has_room.ensures c.say.ensures

-- By how many digits there are, and their number.
use borrow.Author.Rules.{rules}
use Rattle.commands.specs.Numbers.{room_empty, room_long, room_bad, room_large, room_read}
use Rattle.commands.proofs.number.read_room.Goals as goal

pub returns-then-is_empty : goal.returns-then-is_empty
returns-then-is_empty c = search (room_empty, room_long, rules)

pub returns-in_err-room : goal.returns-in_err-room
returns-in_err-room c = rw c.from_residual.ensures (room_bad _ (search rules) c.if-part-gt7.false c.in_err-room.ensures)

pub returns-then-room-gt1048576 : goal.returns-then-room-gt1048576
returns-then-room-gt1048576 c = room_large _ (search rules) c.if-part-gt7.false c.in_ok-room.ensures c.if-room-gt1048576.true

pub returns : goal.returns
returns c = room_read _ (search rules) c.if-part-gt7.false c.in_ok-room.ensures c.if-room-gt1048576.false

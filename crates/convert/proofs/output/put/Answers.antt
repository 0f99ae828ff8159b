-- `put`: the byte where there is room, else nothing. Assumes nothing.
use Rattle.convert.proofs.Pouring.{put-in, put-past}
use Rattle.convert.proofs.output.put.Goals as goal

pub returns-then-many-room : goal.returns-then-many-room
returns-then-many-room c = let a = c.args in put-in a.out.now a.many a.byte c.if-many-room.true

pub returns : goal.returns
returns c = let a = c.args in put-past a.out.now a.many a.byte c.if-many-room.false

-- `closed_end`: behind the clause that closes, else the text's length. Assumes nothing.
use Rattle.pieces.proofs.Ends.{ends-closed, ends-refused}
use Rattle.pieces.proofs.closed_end.Goals as goal

pub returns-in-Ok : goal.returns-in-Ok
returns-in-Ok c = ends-closed _ _ _ c.in-Ok.ensures

pub returns-in-Err : goal.returns-in-Err
returns-in-Err c = ends-refused _ _ _ c.in-Err.ensures

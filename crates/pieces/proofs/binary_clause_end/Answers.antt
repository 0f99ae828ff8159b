-- `binary_clause_end`: the place behind a clause, else the proof's length; a case on the command read. Assumes nothing.
use Rattle.pieces.proofs.Binary.{ends-added, ends-struck, ends-recorded, ends-wrong, ends-finished}
use Rattle.pieces.proofs.binary_clause_end.Goals as goal

pub returns-in-Added : goal.returns-in-Added
returns-in-Added c = ends-added _ _ _ c.in-Ok.ensures _ c.in-Added.is

pub returns-in-Struck : goal.returns-in-Struck
returns-in-Struck c = ends-struck _ _ _ c.in-Ok.ensures _ c.in-Struck.is

pub returns-in-Recorded : goal.returns-in-Recorded
returns-in-Recorded c = ends-recorded _ _ _ c.in-Ok.ensures _ _ c.in-Recorded.is

pub returns-in-Finished : goal.returns-in-Finished
returns-in-Finished c = ends-finished _ _ _ c.in-Ok.ensures c.in-Finished.is

pub returns-in_default : goal.returns-in_default
returns-in_default c = ends-wrong _ _ _ c.in_default.ensures

-- `clear_forgetful` leaves the memo as it is, or empty. Assumes nothing.
use Rattle.memo.proofs.Cells.{empty-follows}
use Rattle.memo.proofs.clear_forgetful.Goals as goal

pub returns-then-memo-gt1 : goal.returns-then-memo-gt1
returns-then-memo-gt1 c = empty-follows _ _ c.clear_memo.ensures

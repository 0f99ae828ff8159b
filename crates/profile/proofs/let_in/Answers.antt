-- `let_in` lets a command in, by its kind. Assumes nothing.
use Rattle.profile.proofs.let_in.Goals as goal

pub returns-in-Recorded : goal.returns-in-Recorded
returns-in-Recorded c = rw c.in-Recorded.is c.record_in.ensures

pub returns-in-Added : goal.returns-in-Added
returns-in-Added c = rw (c.in-Added.is, c.clause_in.ensures)

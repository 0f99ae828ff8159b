-- `clause_command`: struck or added, as it is told. Assumes nothing.
use Rattle.commands.proofs.clause_command.Goals as goal

pub returns-then-strikes : goal.returns-then-strikes
returns-then-strikes c = rw c.if-strikes.true

pub returns : goal.returns
returns c = rw c.if-strikes.false

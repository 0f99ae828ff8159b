-- `finish_step`: 0 where a 0 line was accepted, else 20. Assumes nothing.
use Rattle.entries.proofs.Stops.{stopped}
use Rattle.tries.proofs.command.finish_step.Goals as goal

pub returns-then-st : goal.returns-then-st
returns-then-st c = λ n l. stopped n l _ _ 0 0 (rw c.if-st.true)

pub returns : goal.returns
returns c = λ n l. stopped n l _ _ 20 0 (rw c.if-st.false)

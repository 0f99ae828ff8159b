-- `end_step`: each way out is one law of Stops. Assumes nothing.
use Rattle.state.specs.States.{state_of}
use Rattle.entries.proofs.Entries.{waits-is}
use Rattle.entries.proofs.Stops.{stopped}
use Rattle.steps.proofs.Stops.{end-16, end-11, end-0, end-20}
use Rattle.steps.proofs.end_step.Goals as goal

pub returns-then-waits : goal.returns-then-waits
returns-then-waits c = let a = c.args in λ n l. stopped n l a.st _ 16 0
    (end-16 (state_of l a.st) a.more (waits-is l a.st _ _ c.waits.ensures c.if-waits.true))

pub returns-then-more : goal.returns-then-more
returns-then-more c = let a = c.args in λ n l. stopped n l a.st _ 11 1
    (end-11 (state_of l a.st) a.more (waits-is l a.st _ _ c.waits.ensures c.if-waits.false)
    c.if-more.true)

pub returns-then-st : goal.returns-then-st
returns-then-st c = let a = c.args in λ n l. stopped n l a.st _ 0 0
    (end-0 (state_of l a.st) a.more (waits-is l a.st _ _ c.waits.ensures c.if-waits.false)
    c.if-more.false c.if-st.true)

pub returns : goal.returns
returns c = let a = c.args in λ n l. stopped n l a.st _ 20 0
    (end-20 (state_of l a.st) a.more (waits-is l a.st _ _ c.waits.ensures c.if-waits.false)
    c.if-more.false c.if-st.false)

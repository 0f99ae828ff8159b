-- `top_of` takes the lesser of two levels, as the definition does. Assumes nothing.
use borrow.Author.Tests.{lt-ltb, le-ltb}
use Rattle.operate.proofs.step.top_of.Goals as goal

pub returns-then-w-v : goal.returns-then-w-v
returns-then-w-v c =
    rw (← c.level_of-v.ensures, ← c.level_of-w.ensures, lt-ltb _ _ c.if-w-v.true)

pub returns : goal.returns
returns c =
    rw (← c.level_of-v.ensures, ← c.level_of-w.ensures, le-ltb _ _ c.if-w-v.false)

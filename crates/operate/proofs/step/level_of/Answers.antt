-- `level_of` gives 65 for a constant and else reads the column, as the definition does. Assumes nothing.
use borrow.Author.Tests.{lt-ltb, le-ltb}
use Rattle.operate.proofs.step.level_of.Goals as goal

pub returns-then-i-lt2 : goal.returns-then-i-lt2
returns-then-i-lt2 c =
    rw (lt-ltb _ _ c.if-i-lt2.true)

pub returns : goal.returns
returns c =
    rw (le-ltb _ _ c.if-i-lt2.false)

-- `is_beyond` compares the word with 2 to the power of the header's variables. Assumes nothing.
use native.Mathlib.Omega.{arith}
use Rattle.entries.proofs.SetEntries.{beyond-none, beyond-bit}
use Rattle.entries.proofs.set.is_beyond.Goals as goal

pub returns-then-variables-ge64 : goal.returns-then-variables-ge64
returns-then-variables-ge64 c = beyond-none c.args.variables c.args.set c.if-variables-ge64.true c.requires
    (omega (arith, c.ranges.set))

pub returns : goal.returns
returns c = beyond-bit _ _ c.if-variables-ge64.false

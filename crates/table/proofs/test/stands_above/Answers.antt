-- `stands_above` is the definition's test. Assumes nothing.
use Rattle.std.proofs.Common.{sym}
use Rattle.table.proofs.Places.{above-constant, above-node}
use Rattle.table.proofs.test.stands_above.Goals as goal

pub returns-then-child-lt2 : goal.returns-then-child-lt2
returns-then-child-lt2 c =
    sym (above-constant _ _ _ c.requires.0 c.requires.1 _ _ c.if-child-lt2.true)

pub returns : goal.returns
returns c =
    sym (above-node _ _ _ c.requires.0 c.requires.1 _ _ c.if-child-lt2.false)

-- `number_in`: a constant's number is its own, another node's is listed. Assumes nothing.
use mathlib.Core.Path.{sym}
use native.Mathlib.Omega.{arith}
use Rattle.shares.proofs.Sharing.{number-leaf, number-node}
use Rattle.alone.proofs.number_in.Goals as goal

pub returns-then-j-lt2 : goal.returns-then-j-lt2
returns-then-j-lt2 c =
    sym (number-leaf _ _ c.if-j-lt2.true)

pub returns : goal.returns
returns c =
    sym (number-node _ _ (omega (arith, c.if-j-lt2.false)))

-- `lesser` is one of the two. Assumes nothing.
use Rattle.std.proofs.Common.{inl, inr, arith}
use Rattle.memo.proofs.lesser.Goals as goal

pub returns-then-b-a : goal.returns-then-b-a
returns-then-b-a c = (omega (arith, c.if-b-a.true), omega arith, inr (omega arith))

pub returns : goal.returns
returns c = (omega arith, omega (arith, c.if-b-a.false), inl (omega arith))

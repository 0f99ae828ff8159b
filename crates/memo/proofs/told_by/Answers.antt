-- `told_by` compares the whole key, as the definition does. Assumes nothing.
use Rattle.std.proofs.Common.{arith, eq-eqb, ne_eqb}
use Rattle.memo.specs.Memo.{told_by}
use Rattle.memo.proofs.told_by.Goals as goal

pub returns-then-e-a : goal.returns-then-e-a
unfolding told_by
returns-then-e-a c = (rw (eq-eqb _ _ c.if-e-a.true), omega (arith, c.struct_known-2-1.given))

pub returns : goal.returns
unfolding told_by
returns c = (rw (ne_eqb _ _ c.if-e-a.false), omega (arith, c.struct_known-2-1.given))

-- `at_least` places the at-least diagram of the set. Assumes nothing.
use native.Mathlib.Omega.{arith}
use Rattle.sets.proofs.Rows.{none-wanted, too-many-wanted, first-row}
use Rattle.sets.proofs.at_least.Goals as goal

pub returns-then-k-eq0 : goal.returns-then-k-eq0
returns-then-k-eq0 c = none-wanted _ c.requires _ _ _ c.size_of-m.ensures c.if-k-eq0.true

pub returns-then-m-least : goal.returns-then-m-least
returns-then-m-least c = too-many-wanted _ c.requires _ _ _ c.size_of-m.ensures c.if-m-least.true

pub diagonals-requires-clause-first_row : goal.diagonals-requires-clause-first_row
diagonals-requires-clause-first_row c = first-row 64 _ (omega (arith, c.if-m-least.false, c.size_of-m.ensures.most))

-- The emptied table is good. The idea: it holds the two constants alone, which are in good order. Assumes nothing.
use mathlib.Core.Path.{sym, subst}
use mathlib.Core.List.{List}
use Prim.Native.Nat.{ℕ}
use Rattle.table.specs.Indexed.{Table, size, Good}
use Rattle.table.proofs.Written.{good-indexed}
use Rattle.verdict.specs.Steps.{emptied}
use Rattle.verdict.proofs.Clauses.{emptied-ordered}
use Rattle.formula.specs.Formula.{Opened}

pub opened-good : (T : Table) (members : List ℕ) → Opened T members → Good T
opened-good T members O = subst Good (sym O.written) (good-indexed (size T) emptied emptied-ordered O.least O.most)

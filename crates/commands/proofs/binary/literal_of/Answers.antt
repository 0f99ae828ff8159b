-- `literal_of`: 4 beyond the variables, else the literal. Assumes nothing.
use Prim.Native.Nat.{◌/◌}
use native.Mathlib.Omega.{arith}
use borrow.Author.Tests.{lt-ltb, le-ltb}
use Rattle.commands.proofs.binary.literal_of.Goals as goal

pub returns-then-from-v : goal.returns-then-from-v
returns-then-from-v c = rw (lt-ltb c.args.variables (c.args.number / 2) (omega arith))

pub returns : goal.returns
returns c = rw (le-ltb c.args.variables (c.args.number / 2) (omega arith))

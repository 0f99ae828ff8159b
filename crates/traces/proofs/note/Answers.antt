-- `note`: two stores. Assumes nothing.
use Prim.Native.Nat.{◌*◌}
use native.Mathlib.Omega.{arith}
use lib.ListN.{length-set}
use Rattle.traces.proofs.note.Goals as goal

-- src/lib.rt:89:5
pub bounds-fixed-i-2 : goal.bounds-fixed-i-2
bounds-fixed-i-2 c = omega (arith, c.requires.0, c.requires.1, length-set c.args.fixed.now (2 * c.args.rounds) c.args.u.positive)

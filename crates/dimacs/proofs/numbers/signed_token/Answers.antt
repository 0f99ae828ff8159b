-- `signed_token`, test by test. Assumes nothing.
use mathlib.Core.Path.{◌≡◌}
use native.Mathlib.Omega.{arith}
use borrow.Author.Tests.{le-ltb, ne_eqb}
use Rattle.std.specs.Prelude.{Some}
use Rattle.dimacs.proofs.numbers.signed_token.Goals as goal

pub returns : goal.returns
returns c =
    let some : c.args.number ≡ Some c.in_ok-v.v = grind arith in
    rw (some, ne_eqb _ _ c.if-v-eq0.false, le-ltb c.args.variables c.in_ok-v.v (omega arith))

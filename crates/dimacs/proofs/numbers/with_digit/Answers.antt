-- `with_digit` is the number with one digit more, cut off above 1,024. Assumes nothing.
use mathlib.Core.Path.{sym, ◌∙◌}
use Prim.Native.Nat.{◌+◌, ◌-◌, ◌*◌}
use native.Mathlib.Omega.{arith}
use Rattle.dimacs.proofs.Digits.{capped-min}
use Rattle.dimacs.proofs.numbers.with_digit.Goals as goal

pub returns : goal.returns
returns c =
    let m = c.args.n * 10 + c.from.result in
    record { value = c.min.ensures ∙ sym (capped-min m (c.args.n * 10 + (c.args.b - 48)) (omega arith)); upper_bound = omega arith }

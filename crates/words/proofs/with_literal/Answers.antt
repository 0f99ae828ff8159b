-- `with_literal` sets the variable's bit in the word of the sign. Assumes nothing.
use mathlib.Core.Path.{◌≡◌}
use mathlib.Core.Bool.{Bool, true, false}
use Prim.Native.Nat.{ℕ}
use Rattle.words.specs.declared.Literals.{Literals}
use Rattle.words.specs.Sets.{with_variable, with_literal}
use Rattle.words.proofs.with_literal.Goals as goal

with-positive : (u : Literals) (v : ℕ) (s : Bool) (p : ℕ) → s ≡ true → p ≡ with_variable u.positive v →
    record { positive = p; negative = u.negative } ≡ with_literal u v s
with-positive u v s p e q = rw (e, q)

with-negative : (u : Literals) (v : ℕ) (s : Bool) (n : ℕ) → s ≡ false → n ≡ with_variable u.negative v →
    record { positive = u.positive; negative = n } ≡ with_literal u v s
with-negative u v s n e q = rw (e, q)

pub returns-then-sign : goal.returns-then-sign
returns-then-sign c = with-positive c.args.set c.args.v _ _ c.if-sign.true
    c.with_variable.ensures

pub returns : goal.returns
returns c = with-negative c.args.set c.args.v _ _ c.if-sign.false
    c.with_variable-2.ensures

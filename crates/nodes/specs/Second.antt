-- The second operand of an operation: an operation of one diagram has node 1, whatever is passed.
use Rattle.std.specs.Prelude.{ℕ}
use Rattle.operate.specs.declared.Operation.{Operation}
use Rattle.operate.specs.declared.Operation.TheVariants.{Conjunction, Negation, Cofactor, Literals}

unfoldable pub second_of : Operation → ℕ → ℕ
second_of Conjunction g = g
second_of Negation g = 1
second_of Cofactor g = g
second_of (Literals p n) g = 1

-- What the inner functions of the single calls ask. No call open to others cites this file.
use Rattle.std.specs.Prelude.{◌≡◌, ℕ}
use Rattle.table.specs.Nodes.{Placing, place, diagram_at}
use Rattle.table.specs.Indexed.{Table, size, nodes_of}
use Rattle.operate.specs.declared.Operation.{Operation}
use Rattle.operate.specs.declared.Operation.TheVariants.{Conjunction, Negation, Cofactor, Literals}
use Rattle.operate.specs.Operate.{result}

-- An operation of one diagram has node 1 for its second operand.
abbrev pub OneOperand : Operation → ℕ → Type 0
OneOperand Conjunction g = Unit {0}
OneOperand Negation g = g ≡ 1
OneOperand Cofactor g = Unit {0}
OneOperand (Literals p n) g = g ≡ 1

-- Placing the operation's result.
abbrev pub placing_of : Operation → Table → ℕ → ℕ → Placing
placing_of op t f g = place (size t) (nodes_of t) (result op (diagram_at (nodes_of t) f) (diagram_at (nodes_of t) g))

-- The operations on diagrams that the table's nodes are made by, at 64 variables.
use Rattle.meaning.specs.Diagram.{Diagram}
use Rattle.meaning.specs.Operations.{conjunction, negation, cofactor, cofactor_literals}
use Rattle.meaning.specs.Words.{in_word}
use Rattle.operate.specs.declared.Operation.{Operation}
use Rattle.operate.specs.declared.Operation.TheVariants.{Conjunction, Negation, Cofactor, Literals}

-- What an operation makes of two diagrams; negation and the cofactor by literals are of the first alone.
unfoldable pub result : Operation → Diagram → Diagram → Diagram
unfolding in_word
result Conjunction f g = conjunction 64 f g
result Negation f g = negation 64 f
result Cofactor f g = cofactor 64 f g
result (Literals p n) f g = cofactor_literals 64 (in_word p) (in_word n) f

-- The literals that the witness of a clause's second try makes true. (02, 4/14)
use Rattle.std.specs.Prelude.{Bool, true, false, List, ◌∷◌, map, ℕ}
use Rattle.meaning.specs.Operations.{Literal}
use Rattle.clausal.specs.Literals.{Clause, literal, negated, has, without}

-- The variables that the literals make true, and those that they make false: as the rules have a set of literals.
abbrev pub makes_true : List Literal → ℕ → Bool
makes_true α v = has α (literal v true)

abbrev pub makes_false : List Literal → ℕ → Bool
makes_false α v = has α (literal v false)

-- The "witness [that] makes the pivot true and every other literal of it false".
abbrev pub witness : Literal → Clause → List Literal
witness p c = p ∷ map negated (without p c)

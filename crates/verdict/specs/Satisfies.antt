-- When an assignment satisfies the formula that was read. (01, Values)
use Rattle.std.specs.Prelude.{◌≡◌, Bool, true, false, ◌&&◌, List, [], ◌∷◌, ℕ}
use Rattle.meaning.specs.Diagram.{Assignment}
use Rattle.meaning.specs.Operations.{Literal, clause_value}
use Rattle.dimacs.specs.Clauses.{Reading, clause, complete, refusal, formula}

-- The clauses read, in file order.
unfoldable pub clauses_of : Reading → List (List Literal)
clauses_of (clause ls first rest) = ls ∷ clauses_of rest
clauses_of complete = []
clauses_of (refusal number place) = []

-- Whether the formula was read to its end.
unfoldable pub read_to_end : Reading → Bool
read_to_end (clause ls first rest) = read_to_end rest
read_to_end complete = true
read_to_end (refusal number place) = false

-- "An assignment satisfies the formula when every clause read is 1 under it."
unfoldable pub satisfies : Assignment → List (List Literal) → Bool
unfolding clause_value
satisfies a [] = true
satisfies a (ls ∷ rest) = clause_value ls a && satisfies a rest

-- What number 0 says of the formula's bytes: they are read to the end, and no assignment, of however many variables, satisfies them.
abbrev pub Unsatisfiable : List ℕ → Type 0
Unsatisfiable text = (read_to_end (formula text) ≡ true) × ((a : Assignment) → satisfies a (clauses_of (formula text)) ≡ false)

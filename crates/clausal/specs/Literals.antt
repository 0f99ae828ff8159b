-- Clauses as lists of literals, and sets of literals. (02, 4/14)
use Rattle.std.specs.Prelude.{Bool, false, not, ◌&&◌, ◌||◌, cond, List, [], ◌∷◌, ℕ, eqb}
use Rattle.std.specs.Bool.{beq}
use Rattle.meaning.specs.Operations.{Literal}

-- A list of literals stands for their set: order and repeats say nothing, but that a clause's first literal is its pivot.
abbrev pub Clause : Type 0
Clause = List Literal

abbrev pub literal : ℕ → Bool → Literal
literal v s = record { variable = v; positive = s }

abbrev pub negated : Literal → Literal
negated l = literal l.variable (not l.positive)

-- Whether the literals are one.
unfoldable pub alike : Literal → Literal → Bool
alike k l = eqb k.variable l.variable && beq k.positive l.positive

-- Whether the literal is among those listed.
unfoldable pub has : List Literal → Literal → Bool
unfolding alike
has [] l = false
has (k ∷ ks) l = alike k l || has ks l

-- The clause without a literal.
unfoldable pub without : Literal → Clause → Clause
unfolding alike
without l [] = []
without l (k ∷ ks) = cond (alike k l) (without l ks) (k ∷ without l ks)

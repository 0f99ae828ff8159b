-- The definitions at work on small formulas: a clause by its first try, by its second alone, by neither. The idea: each is computed.
-- Assumes nothing.
use mathlib.Core.Path.{◌≡◌, refl}
use mathlib.Core.Logic.{inl, inr}
use mathlib.Core.Bool.{true, false}
use mathlib.Core.List.{List, [], ◌∷◌, map}
use native.Mathlib.Decide.{ℕ_discrete}
use Rattle.meaning.specs.Diagram.{Diagram, diagram_from, value_from, same?}
use Rattle.meaning.specs.Operations.{Literal, clause}
use Rattle.meaning.specs.Rules.{rup}
use Rattle.clausal.specs.Drat.{all_false, all_false_but, falsified, propagated, Rup}
use Rattle.clausal.specs.Literals.{Clause, literal, has}
use Rattle.clausal.specs.Shown.{shown_by}

-- 1, -1 and so on, as DIMACS writes them
abbrev p1 : Literal
p1 = literal 1 true

abbrev n1 : Literal
n1 = literal 1 false

abbrev p2 : Literal
p2 = literal 2 true

abbrev n2 : Literal
n2 = literal 2 false

abbrev members : List Clause → List Diagram
members F = map (clause 2) F

-- over `1 2` and `-1 2` the clause `2` is shown as a RUP line
by_first : (rup 2 (members ((p1 ∷ p2 ∷ []) ∷ (n1 ∷ p2 ∷ []) ∷ [])) (clause 2 (p2 ∷ []))).shown ≡ true
unfolding rup clause diagram_from value_from ℕ_discrete same?
by_first = refl

-- over `1 2` the clause `1` is not, but no member has -1
not-by-first : (rup 2 (members ((p1 ∷ p2 ∷ []) ∷ [])) (clause 2 (p1 ∷ []))).shown ≡ false
unfolding rup clause diagram_from value_from ℕ_discrete same?
not-by-first = refl

by-second : shown_by 2 (members ((p1 ∷ p2 ∷ []) ∷ [])) (p1 ∷ []) ≡ true
unfolding shown_by clause diagram_from value_from ℕ_discrete same?
by-second = refl

-- over `1 2` and `-1 -2` it is shown by neither try
neither : shown_by 2 (members ((p1 ∷ p2 ∷ []) ∷ (n1 ∷ n2 ∷ []) ∷ [])) (p1 ∷ []) ≡ false
unfolding shown_by clause diagram_from value_from ℕ_discrete same?
neither = refl

-- the pivot is the first literal as written: over `-2 1` and `-1 -2` the clause `2 1` is not shown, `1 2` is
pivot-matters : shown_by 2 (members ((n2 ∷ p1 ∷ []) ∷ (n1 ∷ n2 ∷ []) ∷ [])) (p2 ∷ p1 ∷ []) ≡ false
unfolding shown_by clause diagram_from value_from ℕ_discrete same?
pivot-matters = refl

pivot-first : shown_by 2 (members ((n2 ∷ p1 ∷ []) ∷ (n1 ∷ n2 ∷ []) ∷ [])) (p1 ∷ p2 ∷ []) ≡ true
unfolding shown_by clause diagram_from value_from ℕ_discrete same?
pivot-first = refl

-- "The empty clause has no pivot": it is shown where the members conflict, and else not
empty-shown : shown_by 2 (members ((p1 ∷ []) ∷ (n1 ∷ []) ∷ [])) [] ≡ true
unfolding shown_by clause diagram_from value_from ℕ_discrete same?
empty-shown = refl

empty-not-shown : shown_by 2 (members ((p1 ∷ []) ∷ [])) [] ≡ false
unfolding shown_by clause diagram_from value_from ℕ_discrete same?
empty-not-shown = refl

-- RUP by the public definition, as a derivation: over `1` the clause `1` has its own negation in conflict with the member
rup-of-member : Rup ((p1 ∷ []) ∷ []) (p1 ∷ [])
unfolding all_false all_false_but has
rup-of-member = propagated (n1 ∷ []) n1 (inl refl) refl refl (falsified (p1 ∷ []) (inr (inl refl)) refl)

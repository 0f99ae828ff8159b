-- Unit propagation, RUP and RAT over clauses that are lists of literals: the public definitions of DRAT. No diagram occurs here. (02,
-- 4/14: "exactly what RUP and RAT over clauses accept") No call open to others cites this file: the theorem on the two tries does.
use Rattle.std.specs.Prelude.{◌≡◌, ◌⊎◌, Bool, true, ◌&&◌, ◌||◌, List, [], ◌∷◌, ◌++◌, map}
use Rattle.meaning.specs.Operations.{Literal}
use Rattle.clausal.specs.Literals.{Clause, negated, alike, has, without}

-- ---- literals and clauses

-- The clause is one of the formula's.
abbrev pub In : Clause → List Clause → Type 0
In c [] = ⊥
In c (d ∷ ds) = (c ≡ d) ⊎ In c ds

-- "without both signs of a variable" (02, 4/14)
abbrev pub Plain : Clause → Type 0
Plain c = (l : Literal) → has c l ≡ true → has c (negated l) ≡ true → ⊥

abbrev pub AllPlain : List Clause → Type 0
AllPlain [] = Unit {0}
AllPlain (c ∷ cs) = Plain c × AllPlain cs

-- ---- unit propagation

-- Where the literals of α are true, all literals of the clause are false.
unfoldable pub all_false : List Literal → Clause → Bool
unfolding has
all_false α [] = true
all_false α (l ∷ ls) = has α (negated l) && all_false α ls

-- Where the literals of α are true, all literals of the clause but l are false.
unfoldable pub all_false_but : List Literal → Literal → Clause → Bool
unfolding has alike
all_false_but α l [] = true
all_false_but α l (k ∷ ks) = (alike k l || has α (negated k)) && all_false_but α l ks

-- Unit propagation of the clauses F, the literals of α being true, comes to a conflict: a clause has all its literals false; or a clause
-- has all but one false, and with that one made true propagation comes to a conflict.
pub data Refutes (F : List Clause) : List Literal → Type 0 where
  falsified : {α : List Literal} (c : Clause) → In c F → all_false α c ≡ true → Refutes F α
  propagated : {α : List Literal} (c : Clause) (l : Literal) → In c F → has c l ≡ true → all_false_but α l c ≡ true → Refutes F (l ∷ α) →
      Refutes F α

-- ---- RUP and RAT

-- The negation of a clause: a unit clause for each of its literals.
abbrev pub negation : Clause → List Clause
negation c = map (λ l. negated l ∷ []) c

-- "reverse unit propagation": F with the clause's negation gives a conflict by unit propagation.
abbrev pub Rup : List Clause → Clause → Type 0
Rup F c = Refutes (negation c ++ F) []

-- "resolution asymmetric tautology" on the pivot p: for each clause d of F that has not-p the resolvent of the clause and d is RUP. Whether
-- the resolvent keeps p says nothing: theorem `pivot-dropped` in proofs/Resolvents.
abbrev pub Rat : List Clause → Literal → Clause → Type 0
Rat F p c = (d : Clause) → In d F → has d (negated p) ≡ true → Rup F (c ++ without (negated p) d)

-- What a DRAT check accepts: a clause that is RUP, or RAT on its first literal.
abbrev pub Accepted : List Clause → Clause → Type 0
Accepted F [] = Rup F []
Accepted F (p ∷ ls) = Rup F (p ∷ ls) ⊎ Rat F p (p ∷ ls)

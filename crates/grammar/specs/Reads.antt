-- What the reader makes of a text that it accepts: the header's variables, and the clauses in file order. (dimacs/specs) No call open to
-- others cites this file.
use Rattle.std.specs.Prelude.{◌≡◌, List, [], ◌∷◌, ℕ}
use Rattle.meaning.specs.Operations as meaning
use Rattle.dimacs.specs.Header.{Proper, header}
use Rattle.dimacs.specs.Clauses.{Reading, clause, complete, refusal, clauses_from}

-- The reading gives just the clauses cs and ends with nothing refused.
abbrev pub Gives : List (List meaning.Literal) → Reading → Type 0
Gives [] complete = Unit {0}
Gives [] (clause ls first rest) = ⊥
Gives [] (refusal number place) = ⊥
Gives (c ∷ cs) complete = ⊥
Gives (c ∷ cs) (clause ls first rest) = (ls ≡ c) × Gives cs rest
Gives (c ∷ cs) (refusal number place) = ⊥

-- The text s is read as a formula of n variables and the clauses cs, and accepted.
pub record Reads (s : List ℕ) (n : ℕ) (cs : List (List meaning.Literal)) : Type 0 where
  pub wanted : ℕ
  pub at : ℕ
  pub proper : header s ≡ Proper n wanted at
  pub gives : Gives cs (clauses_from s n wanted at)

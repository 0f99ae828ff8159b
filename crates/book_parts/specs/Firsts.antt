-- What the inner functions say of a book's formula. No call open to others cites this file.
use Rattle.std.specs.Prelude.{◌≡◌, List, ℕ, take}
use Rattle.table.specs.Indexed.{table_of, nodes_of}
use Rattle.dimacs.specs.Header.{header}
use Rattle.verdict.specs.Steps.{begun}
use Rattle.verdict.specs.Check.{Verdict, left, refused_formula}
use Rattle.verdict.specs.Run.{variables_of}
use Rattle.formula.specs.Formula.{Built}
use Rattle.book_parts.specs.declared.first.First.{First}
use Rattle.book_parts.specs.declared.first.First.TheVariants.{Made, Refused}

-- The verdict of the formula with no proof: 10 once all clauses are made.
abbrev pub verdict_by : List ℕ → List ℕ → List ℕ → List ℕ → List ℕ → List ℕ → First → Verdict
verdict_by vs ls hs ds ks members (Made variables count made) =
    left 10 0 count (begun (nodes_of (table_of vs ls hs ds ks count)) (take made members))
verdict_by vs ls hs ds ks members (Refused number place peak) = refused_formula number place peak

-- What is left then.
abbrev pub ReadBy : List ℕ → List ℕ → List ℕ → List ℕ → List ℕ → List ℕ → List ℕ → First → Type 0
ReadBy text vs ls hs ds ks members (Made variables count made) =
    Built variables (table_of vs ls hs ds ks count) members made × (variables ≡ variables_of (header text))
ReadBy text vs ls hs ds ks members (Refused number place peak) = Unit {0}

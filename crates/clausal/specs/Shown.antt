-- The two tries of a DRAT clause, by the rules over diagrams. (02, 4/14) No call open to others cites this file: the theorem on them does.
use Rattle.std.specs.Prelude.{Bool, ◌||◌, List, [], ◌∷◌, ℕ}
use Rattle.meaning.specs.Diagram.{Diagram}
use Rattle.meaning.specs.Operations.{clause}
use Rattle.meaning.specs.Rules.{rup, pr}
use Rattle.clausal.specs.Literals.{Clause, has, without}
use Rattle.clausal.specs.Tries.{makes_true, makes_false, witness}

-- Whether one of the tries shows the clause, `ms` being the members: "A clause is tried as a RUP line; failing with 19, as a PR line";
-- "The empty clause has no pivot", so it has no second try.
unfoldable pub shown_by : ℕ → List Diagram → Clause → Bool
unfolding rup pr clause has without
shown_by n ms [] = (rup n ms (clause n [])).shown
shown_by n ms (p ∷ ls) =
    let c = p ∷ ls in
    let ω = witness p c in
    (rup n ms (clause n c)).shown || (pr n (makes_true ω) (makes_false ω) ms (clause n c)).shown

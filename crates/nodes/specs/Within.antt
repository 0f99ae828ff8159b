-- What the inner calls say of arrays whose first n places are the columns. No call open to others cites this file.
use Rattle.std.specs.Prelude.{cond, false, List, ℕ, take, leb}
use Rattle.table.specs.Columns.{columns_made}
use Rattle.operate.specs.declared.Operation.{Operation}
use Rattle.single.specs.declared.Evaluated.{Evaluated}
use Rattle.single.specs.Single.{Made, unchanged, operation, Counted, at_least_call, evaluation}
use Rattle.nodes.specs.Second.{second_of}

-- "The table has 2 to 65,536 places": 7 where the slice has more, and the arrays stay.
unfoldable pub operation_within : Operation → ℕ → List ℕ → List ℕ → List ℕ → List ℕ → List ℕ → ℕ → ℕ → ℕ → Made
operation_within op n vars lows highs heads links count f g =
    let first = columns_made (take n vars) (take n lows) (take n highs) heads links in
    cond (leb n 65536) (operation op first count f (second_of op g)) (unchanged (columns_made vars lows highs heads links) count 7)

unfoldable pub at_least_within : ℕ → List ℕ → List ℕ → List ℕ → List ℕ → List ℕ → ℕ → ℕ → ℕ → Counted
at_least_within n vars lows highs heads links count set k =
    let first = columns_made (take n vars) (take n lows) (take n highs) heads links in
    let seven : Counted = record { made = unchanged (columns_made vars lows highs heads links) count 7; counted = false; excluded = 0 } in
    cond (leb n 65536) (at_least_call first count set k) seven

unfoldable pub evaluation_within : ℕ → List ℕ → List ℕ → List ℕ → List ℕ → List ℕ → ℕ → ℕ → ℕ → Evaluated
evaluation_within n vars lows highs heads links count f word =
    let first = columns_made (take n vars) (take n lows) (take n highs) heads links in
    cond (leb n 65536) (evaluation first count f word) (record { number = 7; yes = false; count = count })

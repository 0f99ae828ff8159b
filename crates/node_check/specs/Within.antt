-- What the inner call says of arrays whose first n places are the columns. No call open to others cites this file.
use Rattle.std.specs.Prelude.{cond, false, List, ℕ, take, leb}
use Rattle.table.specs.Columns.{columns_made}
use Rattle.commands.specs.declared.Mode.{Mode}
use Rattle.verdict.specs.Check.{CheckOutcome, check}

-- "The table has 2 to 65,536 places": 7 where the slice has more, and the arrays stay.
unfoldable pub check_within : Mode → ℕ → List ℕ → List ℕ → List ℕ → List ℕ → List ℕ → ℕ → List ℕ → List ℕ → List ℕ → List ℕ → List ℕ →
    CheckOutcome
check_within mode n vars lows highs heads links count members struck scratch formula proof =
    let first = columns_made (take n vars) (take n lows) (take n highs) heads links in
    let seven : CheckOutcome = record {
      number = 7;
      in_proof = false;
      place = 0;
      lines = 0;
      rounds = 0;
      count = count;
      peak = 0;
      columns = columns_made vars lows highs heads links;
      members = members;
      struck = struck;
      scratch = scratch;
    } in
    cond (leb n 65536) (check mode first count members struck scratch formula proof) seven

-- What the call of the whole check says, with every lent list as it leaves it.
use Rattle.std.specs.Prelude.{List, ℕ}
use Rattle.table.specs.Columns.{Columns}
use Rattle.verdict.specs.Check.{CheckOutcome}
use Rattle.session.specs.declared.Checked.{Checked}

abbrev pub check_outcome : Columns → List ℕ → List ℕ → List ℕ → Checked → CheckOutcome
check_outcome columns members struck scratch r = record {
  number = r.number;
  in_proof = r.in_proof;
  place = r.place;
  lines = r.lines;
  rounds = r.rounds;
  count = r.count;
  peak = r.peak;
  columns = columns;
  members = members;
  struck = struck;
  scratch = scratch;
}

-- The outcome of the call that checks by truth table: its answer, and what the lent lists hold after it. (02, 14/14)
use Rattle.std.specs.Prelude.{List, ℕ}
use Rattle.small_verdict.specs.Small.{SmallOutcome}
use Rattle.small.specs.declared.SmallChecked.{SmallChecked}

abbrev pub small_outcome : List ℕ → List ℕ → List ℕ → SmallChecked → SmallOutcome
small_outcome members struck scratch r = record {
  number = r.number;
  in_proof = r.in_proof;
  place = r.place;
  lines = r.lines;
  rounds = r.rounds;
  members = members;
  struck = struck;
  scratch = scratch;
}

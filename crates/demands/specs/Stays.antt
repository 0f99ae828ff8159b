-- What stays between a proof as text and in binary: all that a check says and leaves but the place. (02, 9/14) No call open to others cites
-- this file.
use Rattle.verdict.specs.Check.{Verdict, CheckOutcome}

-- "verdict, lines and rounds stay, the place not": without the place.
abbrev pub placeless : Verdict → Verdict
placeless v = record {
  number = v.number;
  in_proof = v.in_proof;
  place = 0;
  lines = v.lines;
  rounds = v.rounds;
  peak = v.peak;
  nodes = v.nodes;
  members = v.members;
  struck = v.struck;
}

abbrev pub placeless_outcome : CheckOutcome → CheckOutcome
placeless_outcome o = record {
  number = o.number;
  in_proof = o.in_proof;
  place = 0;
  lines = o.lines;
  rounds = o.rounds;
  count = o.count;
  peak = o.peak;
  columns = o.columns;
  members = o.members;
  struck = o.struck;
  scratch = o.scratch;
}

-- What the call returns, with every lent list as it leaves it. (02, 8/14)
use Rattle.std.specs.Prelude.{List, ℕ}
use Rattle.table.specs.Columns.{Columns}
use Rattle.causes.specs.Answers.{WhyOutcome}
use Rattle.explain.specs.declared.Why.{Why}

-- The columns, members, marks and scratch list, the words for the literals, and what is returned.
abbrev pub why_outcome : Columns → List ℕ → List ℕ → List ℕ → List ℕ → Why → WhyOutcome
why_outcome columns members struck scratch words r = record {
  number = r.number;
  part = record { in_proof = r.in_proof; start = r.start; end = r.end };
  told = record {
    variable = r.variable;
    child = r.child;
    word = r.word;
    rounds = r.rounds;
    has_member = r.has_member;
    member = r.member;
    words = words;
  };
  count = r.count;
  columns = columns;
  members = members;
  struck = struck;
  scratch = scratch;
}

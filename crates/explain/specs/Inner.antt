-- What the inner functions of the call give. No call open to others cites this file.
use Rattle.std.specs.Prelude.{false, List, ℕ}
use Rattle.table.specs.Columns.{Columns}
use Rattle.session.specs.declared.Checked.{Checked}
use Rattle.causes.specs.Explanation.{Explanation}
use Rattle.causes.specs.Answers.{Told, WhyOutcome}
use Rattle.command_causes.specs.declared.Cause.{Cause}
use Rattle.command_causes.specs.Causes.{of_numbers}
use Rattle.explain.specs.declared.Why.{Why}

-- An explanation and its cause told, with the lists and the count as the check leaves them.
abbrev pub explained_in : Explanation → Told → ℕ → Columns → List ℕ → List ℕ → List ℕ → WhyOutcome
explained_in e t count columns members struck scratch = record {
  number = e.number;
  part = e.part;
  told = t;
  count = count;
  columns = columns;
  members = members;
  struck = struck;
  scratch = scratch;
}

-- No cause beside the number.
abbrev pub no_cause : Cause
no_cause = of_numbers 0 0 0

-- An empty part and no cause.
abbrev pub why_nothing : ℕ → ℕ → Why
why_nothing number count = record {
  number = number;
  in_proof = false;
  start = 0;
  end = 0;
  variable = 0;
  child = 0;
  word = 0;
  rounds = 0;
  has_member = false;
  member = 0;
  count = count;
}

-- What a check says, the end of the piece at its place, and the cause.
abbrev pub why_of : Checked → ℕ → Cause → Why
why_of v end c = record {
  number = v.number;
  in_proof = v.in_proof;
  start = v.place;
  end = end;
  variable = c.variable;
  child = c.child;
  word = c.word;
  rounds = c.rounds;
  has_member = c.has_member;
  member = c.member;
  count = v.count;
}

-- What the report over a table of the caller's says and leaves. (01, The program and its line; 02, 2/14)
use Rattle.std.specs.Prelude.{Bool, List, ℕ}
use Rattle.table.specs.Columns.{Columns}
use Rattle.commands.specs.declared.Mode.{Mode}
use Rattle.verdict.specs.Check.{CheckOutcome, check}
use Rattle.report.specs.declared.Line.{Line}
use Rattle.report.specs.Files.{file_refused, of_files}

-- The line, and every lent list as it is left.
pub record ReportOutcome : Type 0 where
  pub line : Line
  pub columns : Columns
  pub members : List ℕ
  pub struck : List ℕ
  pub scratch : List ℕ

abbrev pub report_outcome : Columns → List ℕ → List ℕ → List ℕ → Line → ReportOutcome
report_outcome columns members struck scratch line =
    record { line = line; columns = columns; members = members; struck = struck; scratch = scratch }

-- "number, place, accepted lines, rounds" and the peak of the check, and what it leaves.
abbrev pub of_check : CheckOutcome → ReportOutcome
of_check o =
    let line : Line = record { number = o.number; place = o.place; lines = o.lines; rounds = o.rounds; peak = o.peak } in
    report_outcome o.columns o.members o.struck o.scratch line

-- As the program's line, but of the check in the lent table: a file that is not taken (24, 25) changes nothing lent. The check empties the
-- table, so that the count before it does not matter.
unfoldable pub report_on : Mode → Columns → List ℕ → List ℕ → List ℕ → Bool → List ℕ → Bool → List ℕ → ReportOutcome
unfolding check of_files
report_on mode lent members struck scratch is_formula formula is_proof proof =
    let checked = of_check (check mode lent 2 members struck scratch formula proof) in
    of_files (λ number place. report_outcome lent members struck scratch (file_refused number place)) is_formula formula is_proof proof
    checked

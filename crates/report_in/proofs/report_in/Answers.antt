-- The line put and the status are those of the report over the lent table. By the callees' contracts alone. Assumes nothing.
use mathlib.Core.Path.{sym, ap, ◌∙◌}
use lib.ListN.{length}
use Rattle.report.specs.declared.Line.{Line}
use Rattle.report.specs.Files.{status_of}
use Rattle.report.specs.Line.{line_bytes}
use Rattle.report_in.specs.Lent.{ReportOutcome}
use Rattle.report_in.proofs.Telling.{left_so, told-refuted}
use Rattle.report_in.proofs.report_in.Goals as goal

pub returns : goal.returns
returns c =
    let told = c.line_in-told.ensures in
    let line = ap (λ (o : ReportOutcome). o.line) told in
    let put = c.put_line-length.ensures in
    let bytes = put.line_after ∙ ap line_bytes line in
    let status = c.status_of-status.ensures ∙ ap (λ (l : Line). status_of l.number) line in
    record {
      fact = (
        left_so _ _ _ _ _ _ told,
        bytes,
        put.line_unchanged,
        put.prefix_len.1 ∙ ap length bytes,
        status,
      );
      unsatisfiable = λ z. told-refuted _ _ _ _ _ _ _ _ _ (sym status ∙ z);
    }

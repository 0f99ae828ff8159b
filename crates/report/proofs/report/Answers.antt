-- The line put and the status are those of what is said of the two files.
-- By the callees' contracts alone. Assumes nothing.
use mathlib.Core.Path.{sym, ap, ◌∙◌}
use lib.ListN.{length}
use lib.ListN.{length}
use Rattle.report.specs.declared.Line.{Line}
use Rattle.report.specs.Line.{line_bytes}
use Rattle.report.specs.Files.{status_of}
use Rattle.report.proofs.Saying.{status-refuted}
use Rattle.report.proofs.report.Goals as goal

pub returns : goal.returns
returns c =
    let bytes = c.put_line-length.ensures.line_after ∙ ap line_bytes c.line_on-told.ensures in
    let status = c.status_of-status.ensures ∙ ap (λ (l : Line). status_of l.number) c.line_on-told.ensures in
    record {
      line_after = bytes;
      line_unchanged = c.put_line-length.ensures.line_unchanged;
      status_value = status;
      prefix_len = c.put_line-length.ensures.prefix_len;
      length_value = c.put_line-length.ensures.prefix_len.1 ∙ ap length bytes;
      unsatisfiable = λ z. status-refuted _ _ _ _ _ (sym status ∙ z);
    }

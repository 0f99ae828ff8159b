-- The refusal of two files is the definition's: that of the formula, else that of the proof. Assumes nothing.
use mathlib.Core.Path.{ap₂, ◌∙◌}
use Rattle.std.specs.Option.{option_or}
use Rattle.report.proofs.Saying.{files-either}
use Rattle.report.proofs.files.Goals as goal

pub returns : goal.returns
returns c =
    let a = c.args in
    c.or.ensures ∙ ap₂ option_or c.file.ensures c.file-2.ensures ∙ files-either a.first a.second a.formula.now a.proof.now

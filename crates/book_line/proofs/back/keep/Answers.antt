-- `keep`: the parts one after the other. Assumes nothing.
use mathlib.Core.Path.{ap₂, ◌∙◌}
use Rattle.shares.specs.Books.{padded}
use Rattle.book_line.proofs.back.keep.Goals as goal

pub returns : goal.returns
returns c =
    record {
      own_after = c.zero_numbers_from.ensures;
      members_after = c.zero_numbers_from-2.ensures;
      struck_after = c.zero_marks_from.ensures ∙ ap₂ padded c.copy_marks.ensures c.copy_marks.auto.struck;
    }

-- A place that is found is read. Assumes nothing.
use mathlib.Core.Path.{sym, ap, subst}
use lib.ListN.{length}
use Rattle.conflict.specs.Marks.{marked_at, FoundInside}
use Rattle.conflict.proofs.is_marked.Goals as goal

-- src/lib.rt:47:13
pub bounds-marks-k : goal.bounds-marks-k
bounds-marks-k c = subst (FoundInside (length c.args.marks.now)) c.in-At.is
    c.requires

-- src/lib.rt:40:1
pub returns-in-At : goal.returns-in-At
returns-in-At c = ap (marked_at c.args.marks.now) (sym c.in-At.is)

-- `grow` empties the new cells and moves the old ones (Cells). Assumes nothing.
use Rattle.std.proofs.Common.{◌∙◌, length-set}
use Rattle.memo.proofs.Cells.{grown-follows}
use Rattle.memo.proofs.grow.Goals as goal

pub shape_of-memo : goal.shape_of-memo
shape_of-memo c =
    length-set c.move_all.new.memo 0 c.args.more ∙ c.move_all.auto.memo ∙ c.clear_places.auto.memo

pub returns : goal.returns
returns c =
    grown-follows c.args.memo.now _ _ c.args.n c.args.more c.requires.3 c.requires.0 c.requires.1
    c.clear_places.ensures c.move_all.ensures

-- `branch_at` reads the node at its place. Assumes nothing.
use Rattle.paths.proofs.Walks.{branch-is}
use Rattle.paths.proofs.branch_at.Goals as goal

pub returns : goal.returns
returns c = branch-is _ _ _ _ c.requires.0 _ c.requires.1 c.requires.2

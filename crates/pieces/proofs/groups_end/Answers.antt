use Rattle.pieces.proofs.Binary.{ends-groups}
use Rattle.pieces.proofs.groups_end.Goals as goal

pub returns : goal.returns
returns c = ends-groups c.args.s.now c.args.at _ c.groups_at-groups.ensures

-- `drop_to` leaves the table of the first nodes: one node is taken out at each turn (IndexStores). Assumes nothing.
use Rattle.std.proofs.Common.{refl}
use Rattle.table.proofs.IndexStores.{drop-start, drop-next, drop-end}
use Rattle.table.proofs.drop_to.Goals as goal

pub loop-k-init : goal.loop-k-init
loop-k-init c =
    drop-start _ _ c.requires.0 c.requires.2

pub loop-k-preserved : goal.loop-k-preserved
loop-k-preserved c =
    drop-next _ _ _ _ _ c.requires.0 c.requires.1 c.loop-k-test.true
    c.loop-k.invariant refl c.bucket_of-b.ensures.value

pub returns : goal.returns
returns c = drop-end _ _ _ c.loop-k-test.false c.loop-k.invariant

-- `entry_node` reads entries 0 and 1 as the constants, the others from the scratch list. Assumes nothing.
use lib.ListN.{take}
use Rattle.entries.proofs.Entries.{node-constant, node_at}
use Rattle.entries.proofs.node.entry_node.Goals as goal

pub returns-then-k-lt2 : goal.returns-then-k-lt2
returns-then-k-lt2 c = node-constant (take c.args.entries c.args.scratch.now) _ c.if-k-lt2.true

pub returns : goal.returns
returns c = node_at _ _ c.requires.0 _ c.if-k-lt2.false c.requires.1

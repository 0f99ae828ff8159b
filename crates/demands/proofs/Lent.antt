-- Nodes stored in lent columns are read back, and columns and index are in good order. Assumes nothing.
use mathlib.Core.Path.{◌≡◌, ap, ◌∙◌}
use mathlib.Core.Bool.{true}
use mathlib.Core.List.{List}
use Prim.Native.Nat.{ℕ, ◌≤◌}
use lib.ListN.{length, take}
use Rattle.table.specs.Nodes.{Node}
use Rattle.table.specs.Columns.{padded, stored_as}
use Rattle.table.proofs.Order.{Ordered}
use Rattle.table.proofs.Written.{rows-columns}
use Rattle.table.proofs.InOrder.{padded-take, stored-in-order}
use Rattle.demands.specs.Calls.{nodes_of_columns, in_good_order}

pub read_back : (s : ℕ) (t : List Node) → nodes_of_columns (stored_as s t) (length t) ≡ t
unfolding stored_as
read_back s t = ap (take (length t)) (rows-columns (padded s t)) ∙ padded-take s t

pub left-good : (s : ℕ) (t : List Node) → Ordered t → length t ≤ s → in_good_order (stored_as s t) (length t) ≡ true
left-good = stored-in-order

-- What a look at the members by not-g said holds where a turn has made the member's cofactor by the witness. The idea: nodes that are
-- placed change no diagram. Assumes nothing.
use mathlib.Core.Path.{◌≡◌}
use mathlib.Core.List.{List}
use Prim.Native.Nat.{ℕ}
use Rattle.table.specs.Nodes.{diagram_at}
use Rattle.table.specs.Indexed.{Table, nodes_of, Outcome}
use Rattle.table.specs.Lists.{diagrams_of}
use Rattle.table.proofs.Outcomes.{longer, grown}
use Rattle.table.proofs.Extended.{longer-extended}
use Rattle.walks.specs.Readable.{ListReady}
use Rattle.operate.specs.declared.Operation.TheVariants.{Literals}
use Rattle.operate.specs.Operate.{result}
use Rattle.operate.specs.Inner.{applied}
use Rattle.operate.proofs.Results.{result-reduced}
use Rattle.quiet.specs.declared.Looked.{Looked}
use Rattle.quiet.specs.Quiet.{LookSays}
use Rattle.quiet.proofs.Known.{looked-kept}

pub turn-looked : (T : Table) (list memo : List ℕ) → ListReady T list memo → (f p n : ℕ) (o : Outcome) → o ≡ applied T (Literals p n) f 1
    → (looked : Looked) → LookSays (diagrams_of (nodes_of T) list) looked → LookSays (diagrams_of (nodes_of o.table) list) looked
turn-looked T list memo R f p n o e looked =
    let h = result (Literals p n) (diagram_at (nodes_of T) f) (diagram_at (nodes_of T) 1) in
    looked-kept T o.table R.good
    (longer-extended T o.table (longer T h o (grown T R.good h (result-reduced (Literals p n) (diagram_at (nodes_of T) f)
    (diagram_at (nodes_of T) 1)) o e))) list R.inside looked

-- `is_one` starts from an empty memo. Assumes nothing.
use mathlib.Core.Path.{sym, subst}
use Prim.Native.Nat.{ℕ}
use Rattle.walks.specs.Readable.{Cleared, nodes_in}
use Rattle.walks.proofs.Here.{length-in}
use Rattle.walks.proofs.Constant.{constant-cleared}
use Rattle.walks.proofs.is_one.Goals as goal

-- src/lib.rt:94:5
pub one_from-requires-clause-one_memo : goal.one_from-requires-clause-one_memo
one_from-requires-clause-one_memo c =
    constant-cleared (nodes_in c.args.vars.now c.args.lows.now c.args.highs.now c.args.count) _ _ _
    (subst (λ (m : ℕ). Cleared m c.clear_cells.new.memo) (sym (length-in _ _ _ _ c.requires.0)) c.clear_cells.ensures)

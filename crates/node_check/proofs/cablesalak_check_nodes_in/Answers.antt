-- `cablesalak_check_nodes_in`: the check over arrays that the nodes are loaded to, and are written back from, is the check over the nodes.
-- Assumes nothing.
use mathlib.Core.Path.{◌≡◌, ◌∙◌}
use mathlib.Core.List.{List, ◌++◌}
use Prim.Native.Nat.{ℕ}
use lib.ListN.{length, take, drop, length-replicate}
use Rattle.table.specs.Columns.{columns_made}
use Rattle.checker.specs.Forms.{form_of}
use Rattle.commands.specs.declared.Mode.{Mode}
use Rattle.commands.specs.Commands.{in_form}
use Rattle.verdict.specs.Check.{check}
use Rattle.verdict.specs.Satisfies.{Unsatisfiable}
use Rattle.session.specs.declared.Checked.{Checked}
use Rattle.session.specs.Checked.{check_outcome}
use Rattle.columns.specs.declared.Node.{Node}
use Rattle.columns.specs.Slice.{vars_of, lows_of, highs_of}
use Rattle.columns.specs.Inner.{as_nodes}
use Rattle.columns.proofs.Setting.{Cut}
use Rattle.columns.proofs.Whole.{Sized}
use Rattle.node_check.specs.Within.{check_within}
use Rattle.node_check.proofs.Calls.{check-told}
use Rattle.node_check.proofs.cablesalak_check_nodes_in.Goals as goal

-- m nodes are loaded, to v, l, h; the arrays are then vs, ls, hs, and the nodes `out`
through : (mode : Mode) (ds js : List ℕ) (count : ℕ) (ms ks ss formula proof ds' js' ms' ks' ss' : List ℕ) (r : Checked)
    (ys out : List Node) (m : ℕ) (vs₀ ls₀ hs₀ v l h vs ls hs : List ℕ) → Cut (length ys) m → Sized vs ls hs
    → (v ≡ vars_of (take m ys) ++ drop m vs₀) × (l ≡ lows_of (take m ys) ++ drop m ls₀) × (h ≡ highs_of (take m ys) ++ drop m hs₀)
    → out ≡ as_nodes (take m vs) (take m ls) (take m hs) ++ drop m ys
    → check_outcome (columns_made (take (length ys) vs) (take (length ys) ls) (take (length ys) hs) ds' js') ms' ks' ss' r
    ≡ check_within mode (length ys) v l h ds js count ms ks ss formula proof
    → (check_outcome (columns_made (vars_of out) (lows_of out) (highs_of out) ds' js') ms' ks' ss' r
    ≡ check mode (columns_made (vars_of ys) (lows_of ys) (highs_of ys) ds js) count ms ks ss formula proof)
    × (r.number ≡ 0 → Unsatisfiable formula)
unfolding vars_of lows_of highs_of
through mode ds js count ms ks ss formula proof ds' js' ms' ks' ss' r ys out m vs₀ ls₀ hs₀ v l h vs ls hs cut sized loads saved told =
    rw saved (check-told mode ds js count ms ks ss formula proof ds' js' ms' ks' ss' r ys m vs₀ ls₀ hs₀ vs ls hs cut sized
    (told ∙ rw (loads.0, loads.1, loads.2)))

pub returns : goal.returns
returns c = through (in_form (form_of c.args.form) c.args.consequence) c.args.heads.now c.args.links.now c.args.count
    c.args.members.now c.args.struck.now c.args.scratch.now c.args.formula.now c.args.proof.now c.check_within-r.new.heads
    c.check_within-r.new.links c.check_within-r.new.members c.check_within-r.new.struck c.check_within-r.new.scratch
    c.check_within-r.result c.args.nodes.now c.save.new.nodes c.places-n.result _ _ _ c.load.new.vars
    c.load.new.lows c.load.new.highs c.check_within-r.new.vars c.check_within-r.new.lows c.check_within-r.new.highs
    c.places-n.ensures (
      c.check_within-r.auto.vars ∙ c.load.auto.vars ∙ length-replicate {A = ℕ} 65536 0,
      c.check_within-r.auto.lows ∙ c.load.auto.lows ∙ length-replicate {A = ℕ} 65536 0,
      c.check_within-r.auto.highs ∙ c.load.auto.highs ∙ length-replicate {A = ℕ} 65536 0,
    ) c.load.ensures c.save.ensures c.check_within-r.ensures

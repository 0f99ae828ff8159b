-- `at_least`: the call over arrays that the nodes are loaded to, and are written back from, is the call over the nodes. Assumes nothing.
use mathlib.Core.Path.{◌≡◌, ◌∙◌}
use mathlib.Core.List.{List, ◌++◌}
use Prim.Native.Nat.{ℕ}
use lib.ListN.{length, take, drop, length-replicate}
use Rattle.table.specs.Columns.{columns_made}
use Rattle.single.specs.declared.least.AtLeast.{AtLeast}
use Rattle.single.specs.Single.{counted_of, at_least_call}
use Rattle.columns.specs.declared.Node.{Node}
use Rattle.columns.specs.Slice.{vars_of, lows_of, highs_of}
use Rattle.columns.specs.Inner.{as_nodes}
use Rattle.columns.proofs.Setting.{Cut}
use Rattle.columns.proofs.Whole.{Sized}
use Rattle.nodes.specs.Within.{at_least_within}
use Rattle.nodes.proofs.Calls.{at-least-whole}
use Rattle.nodes.proofs.at_least.Goals as goal

-- m nodes are loaded, to v, l, h; the arrays are then vs, ls, hs, and the nodes `out`
through : (ds js : List ℕ) (count set k : ℕ) (ds' js' : List ℕ) (r : AtLeast) (ys out : List Node) (m : ℕ)
    (vs₀ ls₀ hs₀ v l h vs ls hs : List ℕ) → Cut (length ys) m → Sized vs ls hs
    → (v ≡ vars_of (take m ys) ++ drop m vs₀) × (l ≡ lows_of (take m ys) ++ drop m ls₀) × (h ≡ highs_of (take m ys) ++ drop m hs₀)
    → out ≡ as_nodes (take m vs) (take m ls) (take m hs) ++ drop m ys
    → counted_of (columns_made (take (length ys) vs) (take (length ys) ls) (take (length ys) hs) ds' js') r
    ≡ at_least_within (length ys) v l h ds js count set k
    → counted_of (columns_made (vars_of out) (lows_of out) (highs_of out) ds' js') r
    ≡ at_least_call (columns_made (vars_of ys) (lows_of ys) (highs_of ys) ds js) count set k
unfolding vars_of lows_of highs_of
through ds js count set k ds' js' r ys out m vs₀ ls₀ hs₀ v l h vs ls hs cut sized loads saved told =
    rw saved (at-least-whole ds js count set k ds' js' r ys m vs₀ ls₀ hs₀ vs ls hs cut sized (told ∙ rw (loads.0, loads.1, loads.2)))

pub returns : goal.returns
returns c = through c.args.heads.now c.args.links.now c.args.count c.args.set c.args.k c.at_least_within-r.new.heads
    c.at_least_within-r.new.links c.at_least_within-r.result c.args.nodes.now c.save.new.nodes c.places-n.result _ _ _ c.load.new.vars
    c.load.new.lows c.load.new.highs c.at_least_within-r.new.vars c.at_least_within-r.new.lows c.at_least_within-r.new.highs
    c.places-n.ensures (
      c.at_least_within-r.auto.vars ∙ c.load.auto.vars ∙ length-replicate {A = ℕ} 65536 0,
      c.at_least_within-r.auto.lows ∙ c.load.auto.lows ∙ length-replicate {A = ℕ} 65536 0,
      c.at_least_within-r.auto.highs ∙ c.load.auto.highs ∙ length-replicate {A = ℕ} 65536 0,
    ) c.load.ensures c.save.ensures c.at_least_within-r.ensures

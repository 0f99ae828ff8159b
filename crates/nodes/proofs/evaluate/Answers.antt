-- `evaluate`: the evaluation over arrays that the nodes are loaded to is the evaluation over the nodes. Assumes nothing.
use mathlib.Core.Path.{◌≡◌, ◌∙◌}
use mathlib.Core.List.{List, ◌++◌}
use Prim.Native.Nat.{ℕ}
use lib.ListN.{length, take, drop}
use Rattle.table.specs.Columns.{columns_made}
use Rattle.single.specs.declared.Evaluated.{Evaluated}
use Rattle.single.specs.Single.{evaluation}
use Rattle.columns.specs.declared.Node.{Node}
use Rattle.columns.specs.Slice.{vars_of, lows_of, highs_of}
use Rattle.columns.proofs.Setting.{Cut}
use Rattle.nodes.specs.Within.{evaluation_within}
use Rattle.nodes.proofs.Calls.{evaluation-whole}
use Rattle.nodes.proofs.evaluate.Goals as goal

-- m nodes are loaded, to v, l, h
through : (ys : List Node) (m : ℕ) (ds js : List ℕ) (count f word : ℕ) (vs₀ ls₀ hs₀ v l h : List ℕ) (r : Evaluated) → Cut (length ys) m
    → (v ≡ vars_of (take m ys) ++ drop m vs₀) × (l ≡ lows_of (take m ys) ++ drop m ls₀) × (h ≡ highs_of (take m ys) ++ drop m hs₀)
    → r ≡ evaluation_within (length ys) v l h ds js count f word
    → r ≡ evaluation (columns_made (vars_of ys) (lows_of ys) (highs_of ys) ds js) count f word
unfolding vars_of lows_of highs_of
through ys m ds js count f word vs₀ ls₀ hs₀ v l h r cut loads told =
    evaluation-whole ys m ds js count f word vs₀ ls₀ hs₀ r cut (told ∙ rw (loads.0, loads.1, loads.2))

pub returns : goal.returns
returns c = through c.args.nodes.now c.places-n.result c.args.heads.now c.args.links.now c.args.count c.args.node.0 c.args.word _ _ _
    c.load.new.vars c.load.new.lows c.load.new.highs c.evaluate_within.result c.places-n.ensures c.load.ensures c.evaluate_within.ensures

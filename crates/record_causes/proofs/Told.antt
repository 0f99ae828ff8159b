-- What the two functions work out is the cause of the state held. The entries' nodes are read from the scratch list. Assumes nothing.
use mathlib.Core.Path.{◌≡◌, sym, ap, ap₂, ◌∙◌, subst}
use mathlib.Core.Bool.{cond}
use mathlib.Core.List.{List, ◌∷◌}
use Prim.Native.Nat.{ℕ, ◌+◌, ◌≤◌, ◌<◌}
use lib.ListN.{length, get_or, take}
use Rattle.meaning.specs.Words.{in_word, assignment_of}
use Rattle.table.specs.Nodes.{Node, at, above, diagram_at}
use Rattle.table.specs.Indexed.{nodes_of}
use Rattle.table.specs.Lists.{Inside}
use Rattle.walks.specs.Readable.{nodes_in}
use Rattle.records.specs.declared.NodeBody.{NodeBody}
use Rattle.records.specs.declared.Rule.TheVariants.{Pr}
use Rattle.verdict.specs.Steps.{entry_node, diagram_in}
use Rattle.state.specs.declared.State.{State}
use Rattle.state.specs.States.{Lent, state_of}
use Rattle.entries.proofs.Entries.{node-inside}
use Rattle.causes.specs.Causes.{variables, assignment, variables_of, offender, smallest, line_cause}

-- The node of an entry, as the scratch list has it.
abbrev pub node_for : List ℕ → ℕ → ℕ → ℕ
node_for scratch entries e = get_or (0 ∷ 1 ∷ take entries scratch) e 0

pub told-inside : (scratch : List ℕ) (entries count : ℕ) → entries ≤ length scratch → 2 ≤ count → Inside count (take entries scratch)
    → (e k : ℕ) → e < entries + 2 → k ≡ node_for scratch entries e → k < count
told-inside scratch entries count room two inside e k p is =
    subst (λ (j : ℕ). j < count) (sym is) (node-inside scratch entries room count two inside e p)

module _ (l : Lent) (st : State) where
  abbrev nodes : List Node
  nodes = nodes_in l.vars l.lows l.highs st.count

  pub node-told : (b : NodeBody) (low high r : ℕ) → low ≡ node_for l.scratch st.entries b.low.0
      → high ≡ node_for l.scratch st.entries b.high.0 → r ≡ (at nodes (cond (above nodes b.variable low) high low)).var
      → variables_of (state_of l st) b ≡ variables b.variable r
  unfolding variables_of offender entry_node nodes_of
  node-told b low high r low-is high_is e =
      ap (λ (k : ℕ). variables b.variable k)
      (sym (e ∙ ap₂ (λ (x y : ℕ). (at nodes (cond (above nodes b.variable x) y x)).var) low-is high_is))

  pub shut-told : (n root g w : ℕ) → g ≡ node_for l.scratch st.entries root
      → assignment_of n w ≡ smallest n (in_word st.witness.positive) (in_word st.witness.negative) (diagram_at nodes g)
      → line_cause n 18 (state_of l st) Pr (diagram_in (state_of l st) (entry_node (state_of l st) root)) ≡ assignment (assignment_of n w)
  unfolding line_cause entry_node nodes_of
  shut-told n root g w is e =
      ap assignment
      (sym (e ∙ ap (λ (k : ℕ). smallest n (in_word st.witness.positive) (in_word st.witness.negative) (diagram_at nodes k)) is))

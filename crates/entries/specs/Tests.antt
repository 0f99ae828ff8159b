-- The numbers with which a record is refused before anything is made, 0 where it is not. No call open to others cites this file.
use Rattle.std.specs.Prelude.{◌≡◌, not, ◌&&◌, cond, ℕ, length, leb}
use Rattle.table.specs.Nodes.{above}
use Rattle.records.specs.declared.NodeBody.{NodeBody}
use Rattle.records.specs.declared.SetKind.{SetKind}
use Rattle.records.specs.declared.SetBody.{SetBody}
use Rattle.entries.specs.declared.node.NodeTest.{NodeTest}
use Rattle.entries.specs.declared.node.NodeTest.TheVariants as node
use Rattle.verdict.specs.Steps.{State, is_entry, entry_node, is_variable, beyond, no_parity}

-- "Node: 10, 21, 12, 13, 14, 23."
unfoldable pub node_refusal : ℕ → State → NodeBody → ℕ
node_refusal n st b =
    let v = b.variable in
    let l = b.low.0 in
    let h = b.high.0 in
    cond (leb 4096 (length st.entries)) 21
    (cond (not (is_variable n v)) 12
    (cond (not (is_entry st l && is_entry st h)) 13
    (cond (not (above st.nodes v (entry_node st l) && above st.nodes v (entry_node st h))) 14 0)))

-- What the tests of a node record say: the number that refuses it, or the nodes of its two entries.
abbrev pub NodeTested : ℕ → State → NodeBody → NodeTest → Type 0
NodeTested n st b (node.Refused number) = (number ≡ node_refusal n st b) × (number ≡ 0 → ⊥)
NodeTested n st b (node.Fits low high) =
    (node_refusal n st b ≡ 0) × (low.0 ≡ entry_node st b.low.0) × (high.0 ≡ entry_node st b.high.0)

-- "after 10 and 21, a set bit beyond the header with 12, a parity byte above 1 with 29" (02, 5/14), for a line with so many entries
unfoldable pub set_refusal : ℕ → ℕ → SetKind → SetBody → ℕ
set_refusal n entries kind b = cond (leb 4096 entries) 21 (cond (beyond n b.set) 12 (cond (no_parity kind b.byte) 29 0))

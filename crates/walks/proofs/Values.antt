-- The value of a node under a word, step by step: from a node to its side, and at a constant. Assumes nothing.
use mathlib.Core.Path.{◌≡◌, sym, ap, ◌∙◌}
use mathlib.Core.Logic.{◌≢◌}
use mathlib.Core.Bool.{false, cond}
use mathlib.Core.List.{List}
use Prim.Native.Nat.{ℕ, zero, suc, ◌+◌, ◌-◌, ◌/◌, ◌%◌, ◌^◌, ◌≤◌, ◌<◌}
use native.Mathlib.Omega.{arith}
use lib.ListN.{get_or}
use lib.Dec.{eqb}
use borrow.Author.Tests.{eq-eqb, ne_eqb}
use Rattle.meaning.specs.Diagram.{value_from}
use Rattle.meaning.specs.Words.{in_word, truth_from}
use Rattle.meaning.proofs.Words.{truth-at}
use Rattle.table.specs.Nodes.{Node, at}
use Rattle.table.proofs.Numbers.{diagram_at-zero, diagram_at-one, diagram_at-node}
use Rattle.walks.specs.Readable.{Readable, nodes_in, value_under}
use Rattle.walks.proofs.Here.{Here, here, node_in, ordered-in, length-in}

module _ (vs ls hs : List ℕ) (count k w : ℕ) (R : Readable vs ls hs count) (two : 2 ≤ k) (inside : k < count) where
  abbrev t : List Node
  t = nodes_in vs ls hs count

  value-node : value_under t k w ≡ cond (in_word w (get_or vs k 0)) (value_under t (get_or hs k 0) w) (value_under t (get_or ls k 0) w)
  unfolding value_under value_from
  value-node =
      let H : Here vs ls hs count k = here vs ls hs count R k two inside in
      let v : 1 + (get_or vs k 0 - 1) ≡ get_or vs k 0 = omega arith in
      let b : get_or (truth_from 1 64 w) (get_or vs k 0 - 1) false ≡ in_word w (get_or vs k 0) =
      truth-at 1 64 w (get_or vs k 0 - 1) (omega arith) ∙ ap (in_word w) v in
      rw (
        diagram_at-node t (ordered-in vs ls hs count R) k two (omega (arith, length-in vs ls hs count R)),
        node_in vs ls hs count R k inside,
        b,
      )

  pub value-high : w / 2 ^ (get_or vs k 0 - 1) % 2 ≡ 1 → value_under t (get_or hs k 0) w ≡ value_under t k w
  unfolding in_word
  value-high e = sym (rw (eq-eqb (w / 2 ^ (get_or vs k 0 - 1) % 2) 1 e) at value-node)

  pub value_low : w / 2 ^ (get_or vs k 0 - 1) % 2 ≢ 1 → value_under t (get_or ls k 0) w ≡ value_under t k w
  unfolding in_word
  value_low n = sym (rw (ne_eqb (w / 2 ^ (get_or vs k 0 - 1) % 2) 1 n) at value-node)

pub value-end : (t : List Node) (k w : ℕ) → k < 2 → value_under t k w ≡ eqb k 1
unfolding value_under value_from
value-end t zero w p = rw (diagram_at-zero t)
value-end t (suc zero) w p = rw (diagram_at-one t)
value-end t (suc (suc k)) w p = absurd (omega arith)

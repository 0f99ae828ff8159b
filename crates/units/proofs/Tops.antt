-- U of a node that has 1 for a child: its own literal, where the other child is 0, and else none. The idea: 1 has no unit, so the sides
-- have none in common. Assumes nothing.
use mathlib.Core.Path.{◌≡◌, sym, ap, ◌∙◌}
use mathlib.Core.Logic.{◌⊎◌, ⊎_elim}
use mathlib.Core.Bool.{Bool, true, false, ◌&&◌, ◌||◌, cond}
use mathlib.Core.List.{List}
use Prim.Native.Nat.{ℕ, ◌^◌, ◌-◌, ◌≤◌, ◌<◌}
use lib.ListN.{get_or}
use lib.Dec.{eqb}
use Rattle.meaning.specs.Operations.{is_unit}
use Rattle.meaning.specs.Words.{in_word}
use Rattle.meaning.proofs.Booleans.{and-false, and-true}
use Rattle.meaning.proofs.Words.{in-bit, in-none}
use Rattle.table.specs.Nodes.{Node, diagram_at}
use Rattle.walks.specs.Readable.{Readable, nodes_in}
use Rattle.walks.proofs.Here.{here}
use Rattle.words.specs.Sets.{has}
use Rattle.units.specs.Units.{UnitsAt, OfVariables, literal_where}
use Rattle.units.proofs.Branches.{one-units, unit-node}

literal-in : (w side v : ℕ) → 1 ≤ w → 1 ≤ v → in_word (literal_where w side) v ≡ (eqb w v && eqb side 0)
unfolding literal_where
literal-in w side v p q = go (eqb side 0)
  where
    go : (b : Bool) → in_word (cond b (2 ^ (w - 1)) 0) v ≡ (eqb w v && b)
    go true = in-bit w v p q ∙ sym (and-true (eqb w v))
    go false = in-none v ∙ sym (and-false (eqb w v))

pub one_known : (n : ℕ) (t : List Node) → UnitsAt n t 1 (record { positive = 0; negative = 0 })
unfolding UnitsAt has
one_known n t v true lo hi = in-none v ∙ sym (one-units n t v true lo hi)
one_known n t v false lo hi = in-none v ∙ sym (one-units n t v false lo hi)

module _ (n : ℕ) (vs ls hs : List ℕ) (count : ℕ) (R : Readable vs ls hs count) (narrow : OfVariables n (nodes_in vs ls hs count)) (k : ℕ)
    (two : 2 ≤ k) (inside : k < count) where
  abbrev t : List Node
  t = nodes_in vs ls hs count

  abbrev w : ℕ
  w = get_or vs k 0

  abbrev l : ℕ
  l = get_or ls k 0

  abbrev h : ℕ
  h = get_or hs k 0

  abbrev U : ℕ → ℕ → Bool → Bool
  U j v s = is_unit n (diagram_at t j) v s

  -- the sides have no unit in common
  none-common : (l ≡ 1) ⊎ (h ≡ 1) → (v : ℕ) (s : Bool) → 1 ≤ v → v ≤ n → (U l v s && U h v s) ≡ false
  none-common one v s lo hi =
      ⊎_elim (λ e. ap (λ (j : ℕ). U j v s && U h v s) e ∙ ap (λ (x : Bool). x && U h v s) (one-units n t v s lo hi))
      (λ e. ap (λ (j : ℕ). U l v s && U j v s) e ∙ ap (λ (x : Bool). U l v s && x) (one-units n t v s lo hi) ∙ and-false (U l v s)) one

  own : (l ≡ 1) ⊎ (h ≡ 1) → (v : ℕ) (s : Bool) → 1 ≤ v → v ≤ n → in_word (literal_where w (cond s l h)) v ≡ U k v s
  own one v s lo hi =
      literal-in w (cond s l h) v (here vs ls hs count R k two inside).least lo
      ∙ sym (unit-node n vs ls hs count R narrow k two inside v s lo hi
      ∙ ap (λ (x : Bool). x || (eqb w v && eqb (cond s l h) 0)) (none-common one v s lo hi))

  pub top-units : (l ≡ 1) ⊎ (h ≡ 1) → UnitsAt n t k (record { positive = literal_where w l; negative = literal_where w h })
  unfolding UnitsAt has
  top-units one v true lo hi = own one v true lo hi
  top-units one v false lo hi = own one v false lo hi

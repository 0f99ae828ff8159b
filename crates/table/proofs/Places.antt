-- What each test of a place says of the rows: a node's parts, the count. The idea: a failed test is a false factor of the
-- definition.
-- Assumes nothing.
use Rattle.std.proofs.Common.{◌≡◌, ℕ, ◌-◌, ◌<◌, ◌≤◌, Bool, true, false, ◌&&◌, ltb, List, length, get_or, take, drop, sym, ap, ◌∙◌, arith}
use Rattle.std.proofs.Common.{length-drop, take_all, take-take, le-ltb, lt-ltb, eq-eqb, ne_eqb, le-leb}
use mathlib.Core.Bool.{and-true, and-false}
use borrow.Author.Tests.{lt-leb}
use Rattle.table.specs.Nodes.{Node, node_of, at, above, all_blank, fits, nodes_in_order, good_places}
use Rattle.table.specs.Columns.{rows}
use Rattle.table.proofs.Written.{length-rows}
use Rattle.table.proofs.Chain.{rows-var, rows_at}

-- ---- one node

module _ (vs ls hs : List ℕ) (p : length ls ≡ length vs) (q : length hs ≡ length vs) (v child : ℕ) where
  pub above-constant : child < 2 → above (rows vs ls hs) v child ≡ true
  unfolding above
  above-constant lt = rw (lt-ltb child 2 lt)

  pub above-node : 2 ≤ child → above (rows vs ls hs) v child ≡ ltb v (get_or vs child 0)
  unfolding above
  above-node le = rw (le-ltb child 2 le, rows-var vs ls hs p q child)

module _ (t : List Node) (k v l h : ℕ) where
  abbrev fitting : Bool
  fitting = fits t k (node_of v l h)

  pub unfit-zero : v < 1 → fitting ≡ false
  unfolding fits
  unfit-zero e = rw (lt-leb 1 v e)

  pub unfit-great : 64 < v → fitting ≡ false
  unfolding fits
  unfit-great e = rw (lt-leb v 64 e, and-false)

  pub unfit-low : k ≤ l → fitting ≡ false
  unfolding fits
  unfit-low e = rw (le-ltb l k e, and-false, and-false)

  pub unfit-high : k ≤ h → fitting ≡ false
  unfolding fits
  unfit-high e = rw (le-ltb h k e, and-false, and-false, and-false)

  pub unfit-equal : l ≡ h → fitting ≡ false
  unfolding fits
  unfit-equal e = rw (eq-eqb l h e, and-false, and-false, and-false)

  pub unfit-above : above t v l ≡ false → fitting ≡ false
  unfolding fits
  unfit-above e = rw (e, and-false)

  pub fit-above : 1 ≤ v → v ≤ 64 → l < k → h < k → (l ≡ h → ⊥) → above t v l ≡ true → fitting ≡ above t v h
  unfolding fits
  fit-above a b d e f g = rw (le-leb 1 v a, le-leb v 64 b, lt-ltb l k d, lt-ltb h k e, ne_eqb l h f, g, and-true)

pub fits_read : (vs ls hs : List ℕ) → length ls ≡ length vs → length hs ≡ length vs → (k : ℕ)
    → fits (rows vs ls hs) k (at (rows vs ls hs) k) ≡ fits (rows vs ls hs) k (node_of (get_or vs k 0) (get_or ls k 0) (get_or hs k 0))
fits_read vs ls hs p q k = ap (fits (rows vs ls hs) k) (rows_at vs ls hs p q k)

-- ---- the whole test

module _ (vs ls hs : List ℕ) (p : length ls ≡ length vs) (q : length hs ≡ length vs) (count : ℕ) where
  abbrev all : List Node
  all = rows vs ls hs

  length-all : length all ≡ length vs
  length-all = length-rows vs ls hs p q

  pub too_few : count < 2 → good_places all count ≡ false
  unfolding good_places
  too_few e = rw (lt-leb 2 count e)

  pub too_many : length vs < count → good_places all count ≡ false
  unfolding good_places
  too_many e = rw (length-all, lt-leb count (length vs) e, and-false)

  module _ (least : 2 ≤ count) (within : count ≤ length vs) where
    order-parts : good_places all count ≡ (nodes_in_order (take count all) && all_blank (drop count all))
    unfolding good_places
    order-parts = rw (length-all, le-leb 2 count least, le-leb count (length vs) within)

    pub bad-start : all_blank (take 2 all) ≡ false → good_places all count ≡ false
    unfolding nodes_in_order
    bad-start e = order-parts ∙ rw (take-take 2 count all least, e)

    rest-whole : take (length vs - count) (drop count all) ≡ drop count all
    rest-whole = take_all (length vs - count) (drop count all) (omega (arith, length-drop count all, length-all))

    pub bad-rest : all_blank (take (length vs - count) (drop count all)) ≡ false → good_places all count ≡ false
    bad-rest e = order-parts ∙ ap (λ (b : Bool). nodes_in_order (take count all) && b) (sym (ap all_blank rest-whole) ∙ e)
        ∙ and-false (nodes_in_order (take count all))

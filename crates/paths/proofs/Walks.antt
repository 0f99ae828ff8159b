-- What the walks over a table's nodes read, in terms of diagrams: a node and its sides, how many paths, where a diagram is 1. Assumes
-- nothing.
use mathlib.Core.Path.{◌≡◌, refl}
use mathlib.Core.Bool.{true, false, cond}
use mathlib.Core.List.{List}
use Prim.Native.Nat.{ℕ, zero, suc, ◌+◌, ◌≤◌, ◌<◌}
use native.Mathlib.Omega.{arith}
use lib.ListN.{length, get_or}
use Rattle.meaning.specs.Diagram.{Diagram}
use Rattle.meaning.specs.Words.{in_word}
use Rattle.words.specs.declared.Literals.{Literals}
use Rattle.words.specs.Sets.{with_literal}
use Rattle.table.specs.Nodes.{Node, diagram_at}
use Rattle.table.proofs.Order.{Ordered}
use Rattle.table.proofs.Numbers.{diagram_at-zero, diagram_at-one, diagram_at-node}
use Rattle.walks.specs.Readable.{Readable, nodes_in}
use Rattle.walks.proofs.Here.{Here, here, node_in, ordered-in, length-in}
use Rattle.paths.specs.declared.Branch.{Branch}
use Rattle.paths.specs.declared.NextPath.{NextPath}
use Rattle.paths.specs.Paths.{path_count}
use Rattle.paths.specs.Walk.{BranchAt, is_one, first_from, found, after_from}

abbrev branch : ℕ → ℕ → ℕ → Branch
branch v l h = record { variable = v; low = record { 0 = l }; high = record { 0 = h } }

pub branch-is : (vs ls hs : List ℕ) (count : ℕ) → Readable vs ls hs count → (k : ℕ) → 2 ≤ k → k < count
    → BranchAt (nodes_in vs ls hs count) k (branch (get_or vs k 0) (get_or ls k 0) (get_or hs k 0))
branch-is vs ls hs count R k two inside =
    let H : Here vs ls hs count k = here vs ls hs count R k two inside in
    record {
      is = rw (
        diagram_at-node (nodes_in vs ls hs count) (ordered-in vs ls hs count R) k two (omega (arith, length-in vs ls hs count R)),
        node_in vs ls hs count R k inside,
      );
      least = H.least;
      most = H.most;
      low-less = H.low-less;
      high-less = H.high-less;
    }

-- ---- how many paths

pub count-zero : (t : List Node) (k : ℕ) → k ≡ 0 → path_count (diagram_at t k) ≡ 1
unfolding path_count
count-zero t k e = rw (e, diagram_at-zero t)

pub count-one : (t : List Node) (k : ℕ) → k ≡ 1 → path_count (diagram_at t k) ≡ 0
unfolding path_count
count-one t k e = rw (e, diagram_at-one t)

pub count-branch : (t : List Node) (k : ℕ) (r : Branch) → BranchAt t k r → path_count (diagram_at t k)
    ≡ path_count (diagram_at t r.low.0) + path_count (diagram_at t r.high.0)
unfolding path_count
count-branch t k r B = rw B.is

-- ---- where a diagram is 1

pub one-is : (t : List Node) (k : ℕ) → k ≡ 1 → is_one (diagram_at t k) ≡ true
one-is t k e = rw (e, diagram_at-one t)

pub one-not : (t : List Node) → Ordered t → (k : ℕ) → k < length t → (k ≡ 1 → ⊥) → is_one (diagram_at t k) ≡ false
one-not t O zero p other = rw (diagram_at-zero t)
one-not t O (suc zero) p other = absurd (other refl)
one-not t O (suc (suc k)) p other = rw (diagram_at-node t O (suc (suc k)) (omega arith) p)

-- ---- the way down

pub first_leaf : (t : List Node) (k : ℕ) (u : Literals) → k < 2 → first_from (diagram_at t k) u ≡ u
unfolding first_from
first_leaf t zero u p = rw (diagram_at-zero t)
first_leaf t (suc zero) u p = rw (diagram_at-one t)
first_leaf t (suc (suc k)) u p = absurd (omega arith)

pub first-branch : (t : List Node) (k : ℕ) (r : Branch) (u : Literals) → BranchAt t k r
    → first_from (diagram_at t k) u
    ≡ cond (is_one (diagram_at t r.low.0)) (first_from (diagram_at t r.high.0) (with_literal u r.variable true))
    (first_from (diagram_at t r.low.0) (with_literal u r.variable false))
unfolding first_from
first-branch t k r u B = rw B.is

pub after-leaf : (t : List Node) (k word : ℕ) (u : Literals) (other : NextPath) → k < 2 → after_from (diagram_at t k) word u other ≡ other
unfolding after_from
after-leaf t zero word u other p = rw (diagram_at-zero t)
after-leaf t (suc zero) word u other p = rw (diagram_at-one t)
after-leaf t (suc (suc k)) word u other p = absurd (omega arith)

module _ (t : List Node) (k word : ℕ) (r : Branch) (u : Literals) (other : NextPath) (B : BranchAt t k r) where
  abbrev low : Diagram
  low = diagram_at t r.low.0

  abbrev high : Diagram
  high = diagram_at t r.high.0

  pub after-high : in_word word r.variable ≡ true → after_from (diagram_at t k) word u other
      ≡ after_from high word (with_literal u r.variable true) other
  unfolding after_from
  after-high e = rw (B.is, e)

  pub after-low : in_word word r.variable ≡ false → is_one high ≡ true → after_from (diagram_at t k) word u other
      ≡ after_from low word (with_literal u r.variable false) other
  unfolding after_from
  after-low e one = rw (B.is, e, one)

  pub after-fork : in_word word r.variable ≡ false → is_one high ≡ false
      → after_from (diagram_at t k) word u other ≡ after_from low word (with_literal u r.variable false)
      (found true (first_from high (with_literal u r.variable true)))
  unfolding after_from
  after-fork e one = rw (B.is, e, one)

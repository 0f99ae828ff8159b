-- The numbers of a good table as the code reads them: a node's level bounds its diagram's variables, and a node's child by a variable not
-- above it is that side of its diagram. The idea: the columns read as the nodes, and good order speaks of those. Assumes nothing.
use mathlib.Core.Path.{◌≡◌, refl, sym, ap, ◌∙◌}
use mathlib.Core.Bool.{Bool, true, false, cond}
use mathlib.Core.List.{List}
use Prim.Native.Nat.{ℕ, zero, suc, ◌≤◌, ◌<◌}
use native.Mathlib.Omega.{arith}
use native.Mathlib.Decide.{ℕ_discrete, dec_lt}
use lib.ListN.{length, get_or}
use borrow.Author.Tests.{eq-eqb, ne_eqb, lt-ltb, le-ltb}
use Rattle.meaning.specs.Diagram.{Diagram, leaf, node}
use Rattle.meaning.specs.Reduced.{Reduced}
use Rattle.meaning.proofs.Canonical.{side}
use Rattle.meaning.proofs.Cofactor.{side-below}
use Rattle.table.specs.Nodes.{Node, at, diagram_at}
use Rattle.table.specs.Indexed.{Table, nodes_of, Good}
use Rattle.table.proofs.Order.{Fits, Ordered}
use Rattle.table.proofs.Written.{length-nodes, good-ordered, var-at, low-at, high-at}
use Rattle.table.proofs.Numbers.{diagram_at-zero, diagram_at-one, diagram_at-node, diagram_at-injective, diagram_at-reduced-from}
use Rattle.operate.specs.Inner.{level, top, child_or}

-- ---- the lesser of two levels

module _ (vars : List ℕ) (f g : ℕ) where
  pub top-first : top vars f g ≤ level vars f
  top-first = go (dec_lt (level vars g) (level vars f))
    where
      go : Dec (level vars g < level vars f) → top vars f g ≤ level vars f
      go (yes p) = rw (lt-ltb _ _ p) (omega arith)
      go (no n) = rw (le-ltb (level vars g) (level vars f) (omega (arith, n))) (omega arith)

  pub top-second : top vars f g ≤ level vars g
  top-second = go (dec_lt (level vars g) (level vars f))
    where
      go : Dec (level vars g < level vars f) → top vars f g ≤ level vars g
      go (yes p) = rw (lt-ltb _ _ p) (omega arith)
      go (no n) = rw (le-ltb (level vars g) (level vars f) (omega (arith, n))) (omega (arith, n))

  pub top-both : (i : ℕ) → i ≤ level vars f → i ≤ level vars g → i ≤ top vars f g
  top-both i p q = go (dec_lt (level vars g) (level vars f))
    where
      go : Dec (level vars g < level vars f) → i ≤ top vars f g
      go (yes r) = rw (lt-ltb _ _ r) q
      go (no n) = rw (le-ltb (level vars g) (level vars f) (omega (arith, n))) p

  pub top-is-first : level vars f ≤ level vars g → top vars f g ≡ level vars f
  top-is-first p = rw (le-ltb (level vars g) (level vars f) p)

-- ---- numbers and their diagrams

module _ (t : Table) (G : Good t) where
  abbrev pub diagram_of : ℕ → Diagram
  diagram_of k = diagram_at (nodes_of t) k

  len : length (nodes_of t) ≡ t.count
  len = length-nodes t G

  O : Ordered (nodes_of t)
  O = good-ordered t G

  pub is_zero : (k : ℕ) → k ≡ 0 → diagram_of k ≡ leaf false
  is_zero k e = ap diagram_of e ∙ diagram_at-zero (nodes_of t)

  pub is_one : (k : ℕ) → k ≡ 1 → diagram_of k ≡ leaf true
  is_one k e = ap diagram_of e ∙ diagram_at-one (nodes_of t)

  pub zero_is : (k : ℕ) → k < t.count → diagram_of k ≡ leaf false → k ≡ 0
  zero_is k p e = diagram_at-injective (nodes_of t) O k 0 (omega (arith, len)) (omega (arith, O.two))
      (e ∙ sym (diagram_at-zero (nodes_of t)))

  pub one-is : (k : ℕ) → k < t.count → diagram_of k ≡ leaf true → k ≡ 1
  one-is k p e = diagram_at-injective (nodes_of t) O k 1 (omega (arith, len)) (omega (arith, O.two)) (e ∙ sym (diagram_at-one (nodes_of t)))

  -- ---- levels

  constant-variable : (f : ℕ) → f < 2 → ◌≡◌ {A = ℕ} (get_or t.vars f 0) 0
  constant-variable zero p = var-at t G 0 ∙ ap (λ (x : Node). x.var) O.first
  constant-variable (suc zero) p = var-at t G 1 ∙ ap (λ (x : Node). x.var) O.second
  constant-variable (suc (suc k)) p = absurd (omega arith)

  pub level-constant : (f : ℕ) → f < 2 → ◌≡◌ {A = ℕ} (level t.vars f) 65
  level-constant f p = rw (lt-ltb f 2 p)

  level-node : (f : ℕ) → 2 ≤ f → level t.vars f ≡ (at (nodes_of t) f).var
  level-node f p = rw (le-ltb f 2 p) (var-at t G f)

  module _ (f : ℕ) (inside : f < t.count) where
    fits-at : 2 ≤ f → Fits (nodes_of t) f (at (nodes_of t) f)
    fits-at p = O.fits f p (omega (arith, len))

    pub level-least : 1 ≤ level t.vars f
    level-least = go (dec_lt f 2)
      where
        go : Dec (f < 2) → 1 ≤ level t.vars f
        go (yes p) = omega (arith, level-constant f p)
        go (no n) = let two : 2 ≤ f = omega (arith, n) in omega (arith, level-node f two, (fits-at two).least)

    pub level-most : 2 ≤ f → level t.vars f ≤ 64
    level-most two = omega (arith, level-node f two, (fits-at two).most)

    pub level-reduced : (i : ℕ) → i ≤ level t.vars f → Reduced i 65 (diagram_of f)
    level-reduced i p = diagram_at-reduced-from (nodes_of t) O f (omega (arith, len)) i (λ two. omega (arith, level-node f two))

  -- ---- children

  -- The child on side b by the variable x, the node itself where x is not its variable.
  abbrev pub child : Bool → ℕ → ℕ → ℕ
  child b f x = child_or t.vars (cond b t.highs t.lows) f x

  pub record Child (b : Bool) (f x : ℕ) : Type 0 where
    pub inside : child b f x < t.count
    pub after : x < level t.vars (child b f x)
    pub is : side x b (diagram_of f) ≡ diagram_of (child b f x)

  -- the level of a child that is a node's, from what good order says of it
  child-level : (v k : ℕ) → v ≤ 64 → (2 ≤ k → v < (at (nodes_of t) k).var) → v < level t.vars k
  child-level v k most above = go (dec_lt k 2)
    where
      go : Dec (k < 2) → v < level t.vars k
      go (yes p) = omega (arith, level-constant k p)
      go (no n) = let two : 2 ≤ k = omega (arith, n) in omega (arith, level-node k two, above two)

  -- a node's own children
  module _ (f : ℕ) (inside : f < t.count) (two : 2 ≤ f) where
    F : Fits (nodes_of t) f (at (nodes_of t) f)
    F = fits-at f inside two

    abbrev pub own : Bool → ℕ
    own b = get_or (cond b t.highs t.lows) f 0

    own-inside : (b : Bool) → own b < t.count
    own-inside true = omega (arith, high-at t G f, F.high-less)
    own-inside false = omega (arith, low-at t G f, F.low-less)

    own-after : (b : Bool) → get_or t.vars f 0 < level t.vars (own b)
    own-after true = rw (high-at t G f, var-at t G f)
        (child-level (at (nodes_of t) f).var (at (nodes_of t) f).high F.most F.above-high)
    own-after false = rw (low-at t G f, var-at t G f) (child-level (at (nodes_of t) f).var (at (nodes_of t) f).low F.most F.above_low)

    pub node-is : diagram_of f ≡ node (get_or t.vars f 0) (diagram_of (own false)) (diagram_of (own true))
    node-is = diagram_at-node (nodes_of t) O f two (omega (arith, len)) ∙ rw (var-at t G f, low-at t G f, high-at t G f)

    own_is : (b : Bool) → side (get_or t.vars f 0) b (diagram_of f) ≡ diagram_of (own b)
    unfolding side
    own_is b = ap (side (get_or t.vars f 0) b) node-is ∙ go b (ℕ_discrete (get_or t.vars f 0) (get_or t.vars f 0))
      where
        go : (b : Bool) (d : Dec (get_or t.vars f 0 ≡ get_or t.vars f 0))
            → elim d [
              | yes e ↦ cond b (diagram_of (own true)) (diagram_of (own false))
              | no n ↦ node (get_or t.vars f 0)
                  (diagram_of (own false)) (diagram_of (own true))
            ]
            ≡ diagram_of (own b)
        go true (yes e) = refl
        go false (yes e) = refl
        go b (no n) = absurd (n refl)

  pub child-of : (b : Bool) (f x : ℕ) → f < t.count → 1 ≤ x → x ≤ 64 → x ≤ level t.vars f → Child b f x
  child-of b f x inside least most bound = go (ℕ_discrete (get_or t.vars f 0) x)
    where
      -- x is the node's variable
      at-root : get_or t.vars f 0 ≡ x → 2 ≤ f → Child b f x
      at-root e two =
          let c : child b f x ≡ own f inside two b = rw (eq-eqb _ _ e) in
          record {
            inside = rw c (own-inside f inside two b);
            after = rw (c, ← e) (own-after f inside two b);
            is = rw (c, ← e) (own_is f inside two b);
          }

      -- it is not: x comes before all variables of the diagram
      below : (get_or t.vars f 0 ≡ x → ⊥) → x < level t.vars f → Child b f x
      below n less =
          let c : child b f x ≡ f = rw (ne_eqb _ _ n) in
          record {
            inside = rw c inside;
            after = rw c less;
            is = rw c (side-below x 65 b (diagram_of f) (level-reduced f inside (suc x) less));
          }

      go : Dec (get_or t.vars f 0 ≡ x) → Child b f x
      go (yes e) = elim (dec_lt f 2) [ yes p ↦ absurd (omega (arith, constant-variable f p)) | no p ↦ at-root e (omega (arith, p)) ]
      go (no n) = below n (elim (dec_lt f 2) [ yes p ↦ omega (arith, level-constant f p) | no p ↦ node-below (omega (arith, p)) ])
        where
          node-below : 2 ≤ f → x < level t.vars f
          node-below two = omega (arith, n, level-node f two, var-at t G f)

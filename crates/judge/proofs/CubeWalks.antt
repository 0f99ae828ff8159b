-- The walk down a conjunction of literals. The idea: its literals are those found and those of the node that the walk has come to; past a
-- child that is 0 one more is found. Assumes nothing.
use mathlib.Core.Path.{◌≡◌, refl, sym, ap, ap₂, ◌∙◌, subst}
use mathlib.Core.Logic.{inl, inr}
use mathlib.Core.Bool.{Bool, true, false, not, ◌&&◌, ◌||◌}
use mathlib.Core.List.{List, [], ◌∷◌}
use Prim.Native.Nat.{ℕ, suc, ◌≤◌, ◌<◌}
use native.Mathlib.Omega.{arith}
use native.Mathlib.Decide.{dec_lt}
use lib.Dec.{eqb}
use lib.ListN.{get_or}
use lib.Bits.{bit_or}
use Rattle.meaning.specs.Diagram.{Diagram, leaf, node}
use Rattle.meaning.specs.Words.{in_word}
use Rattle.meaning.proofs.Words.{in-none}
use Rattle.words.specs.declared.Literals as words
use Rattle.words.specs.Sets.{with_variable}
use Rattle.words.proofs.LiteralSets.{in-with}
use Rattle.table.specs.Nodes.{Node, diagram_at}
use Rattle.table.specs.Indexed.{Table, nodes_of, Good}
use Rattle.table.specs.Lists.{Inside}
use Rattle.table.proofs.Numbers.{diagram_at-zero, diagram_at-one, diagram_at-reduced}
use Rattle.table.proofs.Written.{length-nodes, good-ordered}
use Rattle.operate.specs.declared.Operation.TheVariants.{Cofactor, Literals}
use Rattle.operate.specs.Operate.{result}
use Rattle.walks.specs.Readable.{Readable, nodes_in}
use Rattle.walks.proofs.Here.{Here, here, ordered-in, length-in}
use Rattle.supports.proofs.Words.{is-node, support-leaf}
use Rattle.members.specs.Made.{results}
use Rattle.judge.specs.declared.cube.Cofactoring.{Cofactoring}
use Rattle.judge.specs.Cubes.{is_zero, IsCube, literal_in, CubeOf, ByNode}
use Rattle.judge.proofs.Cubes.{literal-high, literal-low, cube-cofactor}

-- The walk has come to node k of the diagram D, with these literals found.
pub record Walking (t : List Node) (count : ℕ) (D : Diagram) (positive negative k : ℕ) : Type 0 where
  pub inside : k < count
  pub cubes : IsCube (diagram_at t k) → IsCube D
  pub positives : (w : ℕ) → 1 ≤ w → literal_in true D w ≡ (in_word positive w || literal_in true (diagram_at t k) w)
  pub negatives : (w : ℕ) → 1 ≤ w → literal_in false D w ≡ (in_word negative w || literal_in false (diagram_at t k) w)

or-moved : (a b c : Bool) → (a || (b || c)) ≡ ((a || b) || c)
or-moved true b c = refl
or-moved false b c = refl

or-none : (a : Bool) → (a || false) ≡ a
or-none true = refl
or-none false = refl

module _ (vs ls hs : List ℕ) (count : ℕ) (R : Readable vs ls hs count) where
  abbrev t : List Node
  t = nodes_in vs ls hs count

  pub walking-first : (f : ℕ) → f < count → Walking t count (diagram_at t f) 0 0 f
  walking-first f p = record { inside = p; cubes = λ c. c; positives = none true; negatives = none false }
    where
      none : (s : Bool) (w : ℕ) → 1 ≤ w → literal_in s (diagram_at t f) w ≡ (in_word 0 w || literal_in s (diagram_at t f) w)
      none s w q = sym (ap (λ (b : Bool). b || literal_in s (diagram_at t f) w) (in-none w))

  -- a number other than 0 is no 0
  number-some : (k : ℕ) → k < count → (k ≡ 0 → ⊥) → is_zero (diagram_at t k) ≡ false
  number-some k p n = go (dec_lt k 2)
    where
      go : Dec (k < 2) → is_zero (diagram_at t k) ≡ false
      go (yes q) = let e : k ≡ 1 = omega (arith, n) in ap (λ (j : ℕ). is_zero (diagram_at t j)) e ∙ ap is_zero (diagram_at-one t)
      go (no m) = ap is_zero (is-node vs ls hs count R k (omega (arith, m)) p)

  module _ (D : Diagram) (positive negative k : ℕ) (W : Walking t count D positive negative k) where
    -- the walk ends at 1
    pub walking-last : k ≡ 1 → CubeOf (record { positive = positive; negative = negative }) D
    walking-last e = record {
      cube = W.cubes (subst IsCube (sym one) refl);
      positive = λ w p.
          sym (W.positives w p ∙ ap (λ (E : Diagram). in_word positive w || literal_in true E w) one ∙ or-none (in_word positive w));
      negative = λ w p.
          sym (W.negatives w p ∙ ap (λ (E : Diagram). in_word negative w || literal_in false E w) one ∙ or-none (in_word negative w));
    }
      where
        one : diagram_at t k ≡ leaf true
        one = ap (diagram_at t) e ∙ diagram_at-one t

    module _ (two : 2 ≤ k) where
      abbrev v : ℕ
      v = get_or vs k 0

      abbrev low : ℕ
      low = get_or ls k 0

      abbrev high : ℕ
      high = get_or hs k 0

      pub at-node : Here vs ls hs count k
      at-node = here vs ls hs count R k two W.inside

      is : diagram_at t k ≡ node v (diagram_at t low) (diagram_at t high)
      is = is-node vs ls hs count R k two W.inside

      -- past a low child that is 0
      pub walking-high : low ≡ 0 → Walking t count D (with_variable positive v) negative high
      walking-high z = record {
        inside = omega (arith, at-node.high-less, W.inside);
        cubes = λ c. W.cubes (subst IsCube (sym is) (inl (zero, c)));
        positives = λ w p.
            W.positives w p ∙ ap (λ (b : Bool). in_word positive w || b) (literal true w)
            ∙ or-moved (in_word positive w) (eqb v w) (literal_in true (diagram_at t high) w)
            ∙ ap (λ (b : Bool). b || literal_in true (diagram_at t high) w) (sym (in-with positive v w at-node.least p));
        negatives = λ w p. W.negatives w p ∙ ap (λ (b : Bool). in_word negative w || b) (literal false w);
      }
        where
          zero : diagram_at t low ≡ leaf false
          zero = ap (diagram_at t) z ∙ diagram_at-zero t

          literal : (s : Bool) (w : ℕ) → literal_in s (diagram_at t k) w ≡ ((s && eqb v w) || literal_in s (diagram_at t high) w)
          literal s w =
              ap (λ (E : Diagram). literal_in s E w) is ∙ literal-high s v (diagram_at t low) (diagram_at t high) w (ap is_zero zero)

      -- past a high child that is 0
      pub walking-low : (low ≡ 0 → ⊥) → high ≡ 0 → Walking t count D positive (with_variable negative v) low
      walking-low n z = record {
        inside = omega (arith, at-node.low-less, W.inside);
        cubes = λ c. W.cubes (subst IsCube (sym is) (inr (ap (diagram_at t) z ∙ diagram_at-zero t, c)));
        positives = λ w p. W.positives w p ∙ ap (λ (b : Bool). in_word positive w || b) (literal true w);
        negatives = λ w p.
            W.negatives w p ∙ ap (λ (b : Bool). in_word negative w || b) (literal false w)
            ∙ or-moved (in_word negative w) (eqb v w) (literal_in false (diagram_at t low) w)
            ∙ ap (λ (b : Bool). b || literal_in false (diagram_at t low) w) (sym (in-with negative v w at-node.least p));
      }
        where
          literal : (s : Bool) (w : ℕ) → literal_in s (diagram_at t k) w ≡ ((not s && eqb v w) || literal_in s (diagram_at t low) w)
          literal s w =
              ap (λ (E : Diagram). literal_in s E w) is
              ∙ literal-low s v (diagram_at t low) (diagram_at t high) w (number-some low (omega (arith, at-node.low-less, W.inside)) n)

-- ---- the cofactor by a node

module _ (vs ls hs : List ℕ) (count : ℕ) (R : Readable vs ls hs count) (n : ℕ) (inside : n < count) (by : words.Literals)
    (C : CubeOf by (diagram_at (nodes_in vs ls hs count) n)) where
  -- by the literals of a conjunction
  pub cube-by-node : ByNode (nodes_in vs ls hs count) count n (record {
    op = Literals by.positive by.negative;
    g = record { 0 = 1 };
    gained = 0;
    touching = bit_or by.positive by.negative;
  })
  unfolding result
  cube-by-node = record {
    inside = omega (arith, R.least);
    allowed = refl;
    touches = refl;
    gains = support-leaf (nodes_in vs ls hs count) 1 0 (omega arith);
    same = λ f o.
        sym (cube-cofactor (in_word by.positive) (in_word by.negative) f (diagram_at (nodes_in vs ls hs count) n) o
        (diagram_at-reduced (nodes_in vs ls hs count) (ordered-in vs ls hs count R) n (omega (arith, length-in vs ls hs count R)))
        C.cube (λ w p. (C.positive w p, C.negative w p)));
  }

-- what the operation makes of listed nodes are their cofactors
module _ (T : Table) (G : Good T) (n : ℕ) (r : Cofactoring) (B : ByNode (nodes_of T) T.count n r) where
  pub same-results : (list : List ℕ) → Inside T.count list → results r.op T list r.g.0 ≡ results Cofactor T list n
  same-results [] inside = refl
  same-results (k ∷ ks) inside =
      ap₂ ◌∷◌ (B.same (diagram_at (nodes_of T) k) (diagram_at-reduced (nodes_of T) (good-ordered T G) k
      (omega (arith, length-nodes T G, inside 0 (omega arith))))) (same-results ks (λ i p. inside (suc i) (omega arith)))

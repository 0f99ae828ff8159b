-- Definitions that compute in another form than 01's words, brought back to its words: "the negation of another", "go to (a)", a node's
-- value by its children's. The idea: no diagram is its own negation; n rounds are enough. Assumes nothing.
use mathlib.Core.Path.{◌≡◌, sym, ap, ◌∙◌}
use mathlib.Core.Logic.{◌≢◌, ◌↔◌}
use mathlib.Core.Bool.{Bool, true, false, not, ◌||◌, cond}
use mathlib.Core.List.{List, [], ◌∷◌}
use Prim.Native.Nat.{ℕ, zero, suc, ◌+◌, ◌≤◌, ◌<◌}
use native.Mathlib.Omega.{arith}
use lib.ListN.{length, replicate, length-replicate}
use lib.Seq.{length-take-le}
use Rattle.meaning.specs.Diagram.{Assignment, holds, Diagram, leaf, same, value, value_from}
use Rattle.meaning.specs.Operations.{negation}
use Rattle.meaning.specs.Rules.{any, conflicts, first_with_unit, by_units, by_diagram, round, still, taking, propagate, unit_prop}
use Rattle.meaning.proofs.Booleans.{t≢f, or_cases, or_left, or_right}
use Rattle.meaning.proofs.Units.{same-eq, eq-same}
use Rattle.meaning.proofs.Pointwise.{negation-value}
use Rattle.meaning.proofs.Cofactor.{cofactor-reduced}
use Rattle.meaning.proofs.Ends.{AllReduced, map-reduced, by_units-reduced, more-rounds}
use Rattle.table.specs.Nodes.{at}
use Rattle.table.specs.Columns.{rows, Columns}
use Rattle.table.proofs.Order.{GoodPlaces}
use Rattle.table.proofs.InOrder.{good-order}
use Rattle.table.proofs.Numbers.{diagram_at-zero, diagram_at-one, diagram_at-node}
use Rattle.demands.specs.Calls.{nodes_of_columns, in_good_order, value_at}
use Rattle.demands.specs.Words.{member_at, Conflict, is_zero, negated}

-- ---- "a member is 0 or the negation of another"

-- No diagram is its own negation.
negation-other : (n : ℕ) (f : Diagram) → negation n f ≢ f
negation-other n f e = go (value f a) (sym (negation-value n a (length-replicate n false) f) ∙ ap (λ (g : Diagram). value g a) e)
  where
    a : Assignment
    a = replicate n false

    go : (b : Bool) → not b ≡ b → ⊥
    go true p = t≢f (sym p)
    go false p = t≢f p

any-there : (p : Diagram → Bool) (ms : List Diagram) → any p ms ≡ true → (i : ℕ) × (i < length ms) × (p (member_at ms i) ≡ true)
unfolding any
any-there p [] e = t≢f (sym e)
any-there p (f ∷ ms) e =
    or_cases {A = (i : ℕ) × (i < suc (length ms)) × (p (member_at (f ∷ ms) i) ≡ true)} (p f) (any p ms) e (λ here. (0, omega arith, here))
    (λ later. let (i, inside, is) = any-there p ms later in (suc i, omega arith, is))

there-any : (p : Diagram → Bool) (ms : List Diagram) (i : ℕ) → i < length ms → p (member_at ms i) ≡ true → any p ms ≡ true
unfolding any
there-any p [] i inside is = absurd (omega arith)
there-any p (f ∷ ms) zero inside is = or_left (p f) (any p ms) is
there-any p (f ∷ ms) (suc i) inside is = or_right (p f) (any p ms) (there-any p ms i (omega arith) is)

-- The test of (a) is 01's sentence.
pub conflicts-exactly : (n : ℕ) (ms : List Diagram) → (conflicts n ms ≡ true) ↔ Conflict n ms
unfolding conflicts
conflicts-exactly n ms = (to, from)
  where
    to : (any (same (leaf false)) ms || any (λ f. any (λ g. same f (negation n g)) ms) ms) ≡ true → Conflict n ms
    to e =
        or_cases (any (same (leaf false)) ms) (any (λ f. any (λ g. same f (negation n g)) ms) ms) e
        (λ x. let (i, inside, is) = any-there (same (leaf false)) ms x in is_zero i inside (sym (same-eq (leaf false) (member_at ms i) is)))
        (λ x.
        let (i, inside, found) = any-there (λ f. any (λ g. same f (negation n g)) ms) ms x in
        let (j, within, is) = any-there (λ g. same (member_at ms i) (negation n g)) ms found in
        let equal : member_at ms i ≡ negation n (member_at ms j) = same-eq (member_at ms i) (negation n (member_at ms j)) is in
        negated i j inside within (λ q. negation-other n (member_at ms j) (sym equal ∙ ap (member_at ms) q)) equal)

    from : Conflict n ms → (any (same (leaf false)) ms || any (λ f. any (λ g. same f (negation n g)) ms) ms) ≡ true
    from (is_zero i inside is) =
        or_left (any (same (leaf false)) ms) (any (λ f. any (λ g. same f (negation n g)) ms) ms)
        (there-any (same (leaf false)) ms i inside (eq-same (leaf false) (member_at ms i) (sym is)))
    from (negated i j inside within differ is) =
        or_right (any (same (leaf false)) ms) (any (λ f. any (λ g. same f (negation n g)) ms) ms)
        (there-any (λ f. any (λ g. same f (negation n g)) ms) ms i inside
        (there-any (λ g. same (member_at ms i) (negation n g)) ms j within (eq-same (member_at ms i) (negation n (member_at ms j)) is)))

-- ---- "go to (a)"

-- "(a) .. conflict; (b) else .. count one round, go to (a); (c) else no conflict", with no bound on the rounds: what it does with members
-- from then on.
abbrev pub GoesOn : ℕ → List Diagram → Type 0
GoesOn n ms = unit_prop n ms ≡ cond (conflicts n ms) (still true)
    (taking (first_with_unit n ms) (λ u. round (by_units n u ms) (unit_prop n (by_units n u ms))))

unit_prop-goes-on : (n : ℕ) (ms : List Diagram) → AllReduced n ms → GoesOn n ms
unfolding unit_prop propagate
unit_prop-goes-on n ms o = let e : n + 1 ≡ suc n = omega arith in sym (rw e at (more-rounds n 1 ms o))

-- Of the members that a line's propagation begins with, cofactored by a diagram, and of those that a round leaves.
pub line-goes-on : (n : ℕ) (g : Diagram) (ms : List Diagram) → GoesOn n (by_diagram n g ms)
line-goes-on n g ms = unit_prop-goes-on n (by_diagram n g ms) (map-reduced n _ ms (λ f. cofactor-reduced n f g))

pub round-goes-on : (n : ℕ) (u : Diagram) (ms : List Diagram) → GoesOn n (by_units n u ms)
round-goes-on n u ms = unit_prop-goes-on n (by_units n u ms) (by_units-reduced n u ms)

-- ---- a node's value

-- "Node 0 has the value 0, node 1 the value 1; any other node has the value of its high where its variable is true, of its low where it
-- is false": in every table in good order.
pub zero-value : (c : Columns) (count : ℕ) (a : Assignment) → value_at c count 0 a ≡ false
unfolding value_from
zero-value c count a = ap (λ (D : Diagram). value D a) (diagram_at-zero (nodes_of_columns c count))

pub one_value : (c : Columns) (count : ℕ) (a : Assignment) → value_at c count 1 a ≡ true
unfolding value_from
one_value c count a = ap (λ (D : Diagram). value D a) (diagram_at-one (nodes_of_columns c count))

pub node-value : (c : Columns) (count : ℕ) → in_good_order c count ≡ true → (k : ℕ) → 2 ≤ k → k < count → (a : Assignment)
    → value_at c count k a ≡ cond (holds a (at (nodes_of_columns c count) k).var)
    (value_at c count (at (nodes_of_columns c count) k).high a)
    (value_at c count (at (nodes_of_columns c count) k).low a)
unfolding value_from
node-value c count order k two inside a =
    let G : GoodPlaces (rows c.vars c.lows c.highs) count = good-order (rows c.vars c.lows c.highs) count c.heads
    c.links order in
    let len : length (nodes_of_columns c count) ≡ count = length-take-le count (rows c.vars c.lows c.highs) G.within in
    ap (λ (D : Diagram). value D a) (diagram_at-node (nodes_of_columns c count) G.ordered k two (omega arith))

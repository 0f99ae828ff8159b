-- The single calls: whatever columns, count and operands are handed in, a call is refused and changes nothing, or its node has exactly 01's
-- value of the operation. The idea: placing keeps good order and every old diagram, and gives the operation's diagram a number. Assumes
-- nothing.
use mathlib.Core.Path.{◌≡◌, refl, sym, ap, ◌∙◌}
use mathlib.Core.Logic.{◌≢◌}
use mathlib.Core.Bool.{Bool, true, false, not, ◌&&◌, cond}
use mathlib.Core.List.{List}
use Prim.Native.Nat.{ℕ, ◌<◌}
use native.Mathlib.Omega.{arith}
use lib.ListN.{length}
use lib.Seq.{length-take-le}
use lib.Dec.{eqb, ltb}
use borrow.Author.Tests.{eqb-true, eqb-false, ltb-true}
use Rattle.meaning.specs.Diagram.{Assignment, Diagram, leaf, value}
use Rattle.meaning.specs.Operations.{nearest}
use Rattle.meaning.specs.Words.{in_word, assignment_of}
use Rattle.meaning.proofs.Booleans.{and_both}
use Rattle.meaning.proofs.Nearest.{Nearest, nearest-is, sat-of}
use Rattle.meaning.proofs.Pointwise.{conjunction-value, negation-value, literals-value}
use Rattle.meaning.proofs.Cofactor.{cofactor-value}
use Rattle.table.specs.Nodes.{Node, diagram_at, Placing, full, placed, place}
use Rattle.table.specs.Columns.{rows, size_fits, Columns, stored_as}
use Rattle.table.proofs.Order.{GoodPlaces}
use Rattle.table.proofs.Numbers.{diagram_at-zero, diagram_at-injective, diagram_at-reduced}
use Rattle.table.proofs.Growth.{diagram_at-grown}
use Rattle.table.proofs.Placing.{After, place_after}
use Rattle.table.proofs.Written.{length-rows}
use Rattle.table.proofs.Sizes.{Sized, sized}
use Rattle.table.proofs.InOrder.{good-order}
use Rattle.operate.specs.declared.Operation.{Operation}
use Rattle.operate.specs.declared.Operation.TheVariants.{Conjunction, Negation, Cofactor, Literals}
use Rattle.operate.specs.Operate.{result}
use Rattle.operate.proofs.Results.{result-reduced}
use Rattle.single.specs.Single as single
use Rattle.single.specs.Single.{refusal, evaluation, operand_refusal, made_by, operation}
use Rattle.demands.specs.Calls.{nodes_of_columns, in_good_order, value_at, value_of, OperationSays, answered, refused}
use Rattle.demands.proofs.Lent.{read_back, left-good}

result_value : (op : Operation) (f g : Diagram) (a : Assignment) → length a ≡ 64 → value (result op f g) a
    ≡ value_of op (value f) (value g) a
unfolding result value_of
result_value Conjunction f g a len = conjunction-value 64 a len f g
result_value Negation f g a len = negation-value 64 a len f
result_value Cofactor f g a len = cofactor-value 64 f g a len
result_value (Literals p n) f g a len = literals-value 64 a len (in_word p) (in_word n) f

-- 0 lies behind all refusals
pub not-refused : (c d e : Bool) → ◌≡◌ {A = ℕ} (cond (not c) 7 (cond (not d) 26 (cond e 0 13))) 0 → (c ≡ true) × (d ≡ true) × (e ≡ true)
not-refused true true true z = (refl, refl, refl)
not-refused true true false z = absurd (omega arith)
not-refused true false e z = absurd (omega arith)
not-refused false d e z = absurd (omega arith)

module _ (op : Operation) (c : Columns) (count f g : ℕ) where
  abbrev t₀ : List Node
  t₀ = nodes_of_columns c count

  abbrev D : Diagram
  D = result op (diagram_at t₀ f) (diagram_at t₀ g)

  made-says : (S : Sized c.vars c.lows c.highs c.heads c.links) (G : GoodPlaces (rows c.vars c.lows c.highs) count)
      (p : Placing)
      → After (length c.vars) t₀ D p → OperationSays op c count f g (made_by c count p)
  unfolding made_by
  made-says S G (full t) A = let other : ◌≢◌ {A = ℕ} 23 0 = λ z. omega arith in refused other refl
  made-says S G (placed t k) A =
      let s : ℕ = length c.vars in
      let len : length t₀ ≡ count = length-take-le count (rows c.vars c.lows c.highs) G.within in
      let size : length (rows c.vars c.lows c.highs) ≡ s = length-rows c.vars c.lows c.highs S.lows S.highs in
      let back : nodes_of_columns (stored_as s t) (length t) ≡ t = read_back s t in
      answered refl (record {
        below = A.inside;
        good = left-good s t A.kept.ordered (A.kept.room (omega (arith, G.within)));
        kept = λ j q. rw back (diagram_at-grown t₀ t G.ordered A.kept.extends j (omega arith));
        values = λ a long. rw back (ap (λ (E : Diagram). value E a) A.is ∙ result_value op (diagram_at t₀ f) (diagram_at t₀ g) a long);
      })

  -- Demand 3 of a single call, and "a refused single call changes nothing": for every table, count and operand.
  pub operation-says : OperationSays op c count f g (operation op c count f g)
  unfolding operation refusal
  operation-says = go (eqb n 0) refl (eqb m 0) refl
    where
      n : ℕ
      n = refusal c count f g

      m : ℕ
      m = operand_refusal op g

      same : ℕ → single.Made
      same = single.unchanged c count

      done : single.Made
      done = made_by c count (place (length c.vars) t₀ D)

      go : (p : Bool) → eqb n 0 ≡ p → (q : Bool) → eqb m 0 ≡ q → OperationSays op c count f g (cond p (cond q done (same m)) (same n))
      go true e true h =
          let (fits, order, _) = not-refused (size_fits c.vars c.lows c.highs c.heads c.links) (in_good_order c count)
          (ltb f count && ltb g count) (eqb-true n 0 e) in
          let G : GoodPlaces (rows c.vars c.lows c.highs) count =
          good-order (rows c.vars c.lows c.highs) count c.heads c.links order in
          made-says (sized c.vars c.lows c.highs c.heads c.links fits) G (place (length c.vars) t₀ D)
          (place_after (length c.vars) t₀ G.ordered D (result-reduced op (diagram_at t₀ f) (diagram_at t₀ g)))
      go true e false h = refused (eqb-false m 0 h) refl
      go false e q h = refused (eqb-false n 0 e) refl

-- "f cofactored by g, g not 0, has at each assignment f's value at the nearest one that satisfies g." (01, The rules): where the call is
-- not refused, the assignment that its value is taken at satisfies g, and no other that does is nearer.
pub cofactor-nearest : (c : Columns) (count f g : ℕ) → (operation Cofactor c count f g).number ≡ 0
    → (a : Assignment) → Nearest 64 (value_at c count g) a (nearest 64 (value_at c count g) a)
unfolding operation refusal operand_refusal
cofactor-nearest c count f g z a = go (eqb n 0) refl (eqb g 0) refl z
  where
    n : ℕ
    n = refusal c count f g

    t₀ : List Node
    t₀ = nodes_of_columns c count

    same : ℕ → single.Made
    same = single.unchanged c count

    done : single.Made
    done = made_by c count (place (length c.vars) t₀ (result Cofactor (diagram_at t₀ f) (diagram_at t₀ g)))

    go : (p : Bool) → eqb n 0 ≡ p → (q : Bool) → eqb g 0 ≡ q → (cond p (cond (eqb (cond q 27 0) 0) done (same (cond q 27 0))) (same n)
        ).number ≡ 0
        → Nearest 64 (value_at c count g) a (nearest 64 (value_at c count g) a)
    go false e q h z = absurd (eqb-false n 0 e z)
    go true e true h z = absurd (omega arith)
    go true e false h z =
        let (fits, order, inside) = not-refused (size_fits c.vars c.lows c.highs c.heads c.links) (in_good_order c count)
        (ltb f count && ltb g count) (eqb-true n 0 e) in
        let G : GoodPlaces (rows c.vars c.lows c.highs) count =
        good-order (rows c.vars c.lows c.highs) count c.heads c.links order in
        let len : length t₀ ≡ count = length-take-le count (rows c.vars c.lows c.highs) G.within in
        let below : g < length t₀ = omega (arith, ltb-true g count (and_both (ltb f count) (ltb g count) inside).1) in
        let other : diagram_at t₀ g ≢ leaf false = λ is. eqb-false g 0 h
        (diagram_at-injective t₀ G.ordered g 0 below (omega (arith, G.least)) (is ∙ sym (diagram_at-zero t₀))) in
        nearest-is 64 (value_at c count g) a (sat-of 64 1 65 (diagram_at t₀ g) refl (diagram_at-reduced t₀ G.ordered g below) other)

-- "Evaluation, where it does not refuse, says yes exactly when the node's value under the word's assignment is 1"; "(evaluation: no)"
-- with a refusal. (01, Values; What the call says and leaves)
pub evaluation-says : (c : Columns) (count f word : ℕ)
    → ((evaluation c count f word).number ≡ 0 → (evaluation c count f word).yes ≡ value_at c count f (assignment_of 64 word))
    × ((evaluation c count f word).number ≢ 0 → (evaluation c count f word).yes ≡ false)
unfolding evaluation
evaluation-says c count f word = ((λ z. rw z), (λ other. go (eqb number 0) refl other))
  where
    number : ℕ
    number = refusal c count f f

    answer : Bool
    answer = value_at c count f (assignment_of 64 word)

    go : (b : Bool) → eqb number 0 ≡ b → number ≢ 0 → (b && answer) ≡ false
    go true e other = absurd (other (eqb-true number 0 e))
    go false e other = refl

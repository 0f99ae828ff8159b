-- The call that makes an at-least diagram: whatever columns, count, set and k are handed in, it is refused and changes nothing, or its node
-- has exactly 02's value, and the excluded assignments are counted where the set has at most 32 variables. Assumes nothing.
use mathlib.Core.Path.{◌≡◌, refl, ap, ◌∙◌}
use mathlib.Core.Logic.{◌≢◌}
use mathlib.Core.Bool.{Bool, true, false, cond}
use mathlib.Core.List.{List}
use Prim.Native.Nat.{ℕ}
use native.Mathlib.Omega.{arith}
use lib.ListN.{length}
use lib.Seq.{length-take-le}
use borrow.Author.Tests.{ne_eqb}
use Rattle.meaning.specs.Diagram.{Diagram, value}
use Rattle.meaning.specs.Reduced.{Reduced}
use Rattle.meaning.specs.Sets.{at_least_value, at_least}
use Rattle.meaning.specs.Words.{in_word}
use Rattle.meaning.proofs.Values.{diagram-reduced}
use Rattle.meaning.proofs.Sets.{at_least-value}
use Rattle.table.specs.Nodes.{Node, Placing, full, placed, place}
use Rattle.table.specs.Columns.{rows, size_fits, Columns, stored_as}
use Rattle.table.proofs.Order.{GoodPlaces}
use Rattle.table.proofs.Growth.{diagram_at-grown}
use Rattle.table.proofs.Placing.{After, place_after}
use Rattle.table.proofs.Written.{length-rows}
use Rattle.table.proofs.Sizes.{Sized, sized}
use Rattle.table.proofs.InOrder.{good-order}
use Rattle.single.specs.Single.{unchanged, made_by, with_count, at_least_call}
use Rattle.demands.specs.Calls.{nodes_of_columns, in_good_order, LeastSays, least-answered, least-refused}
use Rattle.demands.proofs.Lent.{read_back, left-good}

module _ (c : Columns) (count set k : ℕ) where
  abbrev t₀ : List Node
  t₀ = nodes_of_columns c count

  abbrev D : Diagram
  D = at_least 64 (in_word set) k

  at-least-reduced : Reduced 1 65 D
  unfolding at_least
  at-least-reduced = diagram-reduced 64 (at_least_value (in_word set) k)

  made-says : (S : Sized c.vars c.lows c.highs c.heads c.links) (G : GoodPlaces (rows c.vars c.lows c.highs) count)
      (p : Placing)
      → After (length c.vars) t₀ D p → LeastSays c count set k (with_count (made_by c count p) set k)
  unfolding made_by with_count
  made-says S G (full t) A = let other : ◌≢◌ {A = ℕ} 23 0 = λ z. omega arith in least-refused other refl
  made-says S G (placed t j) A =
      let s : ℕ = length c.vars in
      let len : length t₀ ≡ count = length-take-le count (rows c.vars c.lows c.highs) G.within in
      let size : length (rows c.vars c.lows c.highs) ≡ s = length-rows c.vars c.lows c.highs S.lows S.highs in
      let back : nodes_of_columns (stored_as s t) (length t) ≡ t = read_back s t in
      least-answered refl (record {
        below = A.inside;
        good = left-good s t A.kept.ordered (A.kept.room (omega (arith, G.within)));
        kept = λ i q. rw back (diagram_at-grown t₀ t G.ordered A.kept.extends i (omega arith));
        values = λ a long. rw back (ap (λ (E : Diagram). value E a) A.is ∙ at_least-value (in_word set) 64 k a long);
        counted = refl;
        excluded = λ e. rw e;
        no-count = λ e. rw e;
      })

  refused_says : (number : ℕ) → number ≢ 0 → LeastSays c count set k (with_count (unchanged c count number) set k)
  unfolding with_count
  refused_says number other = least-refused other (rw (ne_eqb number 0 other))

  -- Demand 3 of the call, and "a refused single call changes nothing": for every table, count, set and k.
  pub at-least-says : LeastSays c count set k (at_least_call c count set k)
  unfolding at_least_call
  at-least-says = go (size_fits c.vars c.lows c.highs c.heads c.links) refl (in_good_order c count) refl
    where
      go : (p : Bool) → size_fits c.vars c.lows c.highs c.heads c.links ≡ p → (q : Bool) → in_good_order c count ≡ q
          → LeastSays c count set k (with_count (cond p (cond q (made_by c count (place (length c.vars) t₀ D)) (unchanged c count 26))
          (unchanged c count 7)) set k)
      go true fits true order =
          let G : GoodPlaces (rows c.vars c.lows c.highs) count =
          good-order (rows c.vars c.lows c.highs) count c.heads c.links order in
          made-says (sized c.vars c.lows c.highs c.heads c.links fits) G (place (length c.vars) t₀ D)
          (place_after (length c.vars) t₀ G.ordered D at-least-reduced)
      go true fits false order = refused_says 26 (λ z. omega arith)
      go false fits q order = refused_says 7 (λ z. omega arith)

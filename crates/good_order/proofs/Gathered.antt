-- Zeros found by or-ing. The idea: an or is 0 exactly where both are, so the or of the places so far is 0 exactly where all of them are.
-- Assumes nothing.
use mathlib.Core.Path.{◌≡◌, refl, sym, ap, ◌∙◌}
use mathlib.Core.Bool.{Bool, true, false}
use mathlib.Core.List.{List}
use Prim.Native.Nat.{ℕ, ◌+◌, ◌-◌, ◌≤◌, ◌<◌}
use native.Mathlib.Omega.{arith}
use lib.ListN.{length, get_or, take, drop, length-take}
use lib.Seq.{get_or-take, get_or-drop}
use lib.Bits.{bit_or, or_zero_r, or_add_and, and_le_l, and_le_r}
use lib.Dec.{eqb}
use borrow.Author.Tests.{eqb-true, eqb-false}
use Rattle.table.specs.Nodes.{Node, node_of, blank, at, all_blank}
use Rattle.table.specs.Columns.{rows}
use Rattle.table.proofs.Order.{all-blank, every-blank}
use Rattle.table.proofs.Chain.{rows_at}
use Rattle.good_order.specs.Tested.{Decides, Empty}
use Rattle.good_order.proofs.Testing.{one_more}

or_left : (a b : ℕ) → bit_or a b ≡ 0 → a ≡ 0
or_left a b e = omega (arith, e, or_add_and a b, and_le_r a b)

or_right : (a b : ℕ) → bit_or a b ≡ 0 → b ≡ 0
or_right a b e = omega (arith, e, or_add_and a b, and_le_l a b)

or-both : (a b : ℕ) → a ≡ 0 → b ≡ 0 → bit_or a b ≡ 0
or-both a b p q = rw (p, q) (or_zero_r 0)

-- ---- the loop

-- `all` is the or of the places from `from` up to i.
pub record Gathered (column : List ℕ) (from to i all : ℕ) : Type 0 where
  pub least : from ≤ i
  pub most : i ≤ to
  pub zeros : all ≡ 0 → Empty column from i
  pub zero : Empty column from i → all ≡ 0

module _ (column : List ℕ) (from to : ℕ) where
  pub gathered_none : from ≤ to → Gathered column from to from 0
  gathered_none h = record { least = omega arith; most = h; zeros = λ _ k a b. absurd (omega arith); zero = λ _. refl }

  pub gathered_next : (i all : ℕ) → Gathered column from to i all → i < to →
      Gathered column from to (i + 1) (bit_or all (get_or column i 0))
  gathered_next i all G more = record {
    least = omega (arith, G.least);
    most = omega arith;
    zeros = λ e. one_more (λ k. get_or column k 0 ≡ 0) from i (G.zeros (or_left all (get_or column i 0) e))
        (or_right all (get_or column i 0) e);
    zero = λ E. or-both all (get_or column i 0) (G.zero (λ k a b. E k a (omega arith))) (E i G.least (omega arith));
  }

  pub gathered-all : (i all : ℕ) → Gathered column from to i all → to ≤ i → Decides (eqb all 0) (Empty column from to)
  gathered-all i all G end = record {
    yes = λ e k a b. G.zeros (eqb-true all 0 e) k a (omega arith);
    no = λ e E. eqb-false all 0 e (G.zero (λ k a b. E k a (omega (arith, G.most))));
  }

-- ---- rows of zeros

module _ (vs ls hs : List ℕ) (p : length ls ≡ length vs) (q : length hs ≡ length vs) (from to : ℕ) (within : to ≤ length vs) where
  abbrev part : List Node
  part = take (to - from) (drop from (rows vs ls hs))

  part_at : (k : ℕ) → from ≤ k → k < to → at part (k - from) ≡ node_of (get_or vs k 0) (get_or ls k 0) (get_or hs k 0)
  part_at k a b =
      get_or-take (to - from) (drop from (rows vs ls hs)) (k - from) blank (omega arith)
      ∙ get_or-drop from (rows vs ls hs) (k - from) blank
      ∙ ap (at (rows vs ls hs)) (there k a)
      ∙ rows_at vs ls hs p q k
    where
      there : (k : ℕ) → from ≤ k → from + (k - from) ≡ k
      there k a = omega arith

  module _ (e : all_blank part ≡ true) where
    node-blank : (k : ℕ) → from ≤ k → k < to → node_of (get_or vs k 0) (get_or ls k 0) (get_or hs k 0) ≡ blank
    node-blank k a b = sym (part_at k a b) ∙ all-blank part e (k - from)

    blank-vars : Empty vs from to
    blank-vars k a b = ap (λ (x : Node). x.var) (node-blank k a b)

    blank-lows : Empty ls from to
    blank-lows k a b = ap (λ (x : Node). x.low) (node-blank k a b)

    blank-highs : Empty hs from to
    blank-highs k a b = ap (λ (x : Node). x.high) (node-blank k a b)

  -- one column that has more than zeros
  not-blank : (b : Bool) → (b ≡ true → ⊥) → false ≡ b
  not-blank true h = absurd (h refl)
  not-blank false h = refl

  pub no-vars : (r : Bool) → r ≡ false → Decides r (Empty vs from to) → false ≡ all_blank part
  no-vars r z D = not-blank (all_blank part) (λ e. D.no z (blank-vars e))

  pub no-lows : (r : Bool) → r ≡ false → Decides r (Empty ls from to) → false ≡ all_blank part
  no-lows r z D = not-blank (all_blank part) (λ e. D.no z (blank-lows e))

  pub no-or-highs : (r s t : Bool) → r ≡ true → s ≡ true → Decides r (Empty vs from to) → Decides s (Empty ls from to)
      → Decides t (Empty hs from to) → t ≡ all_blank part
  no-or-highs r s false y z D E F = not-blank (all_blank part) (λ e. F.no refl (blank-highs e))
  no-or-highs r s true y z D E F = sym (every-blank part (λ j b. zeros j (omega (arith, b, short))))
    where
      short : length part ≤ to - from
      short = omega (arith, length-take (to - from) (drop from (rows vs ls hs)))

      zeros : (j : ℕ) → j < to - from → at part j ≡ blank
      zeros j b =
          ap (at part) (there j) ∙ part_at (from + j) (omega arith) (omega arith)
          ∙ none (D.yes y (from + j) (omega arith) (omega arith)) (E.yes z (from + j) (omega arith) (omega arith))
          (F.yes refl (from + j) (omega arith) (omega arith))
        where
          there : (j : ℕ) → j ≡ (from + j) - from
          there j = omega arith

          none : {v l h : ℕ} → v ≡ 0 → l ≡ 0 → h ≡ 0 → node_of v l h ≡ blank
          none a b c = rw (a, b, c) refl

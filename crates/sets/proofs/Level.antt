-- One level of a parity diagram made in the table: no variable left, the other parity's node turned round, or both sides made and joined.
-- The idea: the outcome is a placing, and what is there is not placed again. Assumes nothing.
use mathlib.Core.Path.{◌≡◌, sym, ap, ap₂, ◌∙◌}
use mathlib.Core.Logic.{◌≢◌}
use mathlib.Core.Bool.{Bool, true, false, not}
use Prim.Native.Nat.{ℕ, suc, ◌+◌, ◌-◌, ◌≤◌, ◌<◌}
use native.Mathlib.Omega.{arith}
use native.Mathlib.Numerals.{add-one}
use lib.ListN.{get_or}
use Rattle.meaning.specs.Diagram.{Diagram, leaf, node, branch}
use Rattle.meaning.specs.Reduced.{Reduced}
use Rattle.meaning.proofs.Booleans.{not-not}
use Rattle.meaning.proofs.Canonical.{reduced-from, branch_differ}
use Rattle.table.specs.Nodes.{at, diagram_at}
use Rattle.table.specs.Indexed.{Table, nodes_of, Good, Outcome}
use Rattle.table.proofs.Order.{Fits}
use Rattle.table.proofs.Written.{length-nodes, good-ordered, low-at, high-at}
use Rattle.table.proofs.Numbers.{diagram_at-zero, diagram_at-one, diagram_at-node}
use Rattle.table.proofs.Outcomes.{place_in, put_in, Grown, grown, there, put-in, low-full, high-full, joined}
use Rattle.meaning.specs.Words.{in_word}
use Rattle.meaning.specs.Sets.{parity}
use Rattle.meaning.proofs.Tallies.{tally-end, tally-reduced, tally-skipped, tally-here, parity-is, parity-differ}
use Rattle.sets.specs.Variables.{NextIn}
use Rattle.sets.specs.Building.{placed_in, remaining, Buildable}

-- ---- the word's variables from v on

module _ (set : ℕ) where
  skipped : (v w : ℕ) (odd : Bool) → NextIn set v w → remaining set v odd ≡ remaining set w odd
  skipped v w odd N = tally-skipped not not (in_word set) 65 v w odd N.least N.most N.none

  here : (w : ℕ) (odd : Bool) → w ≤ 64 → in_word set w ≡ true → remaining set w odd
      ≡ branch w (remaining set (suc w) odd) (remaining set (suc w) (not odd))
  here w odd most e = tally-here not not (in_word set) 65 w odd (omega arith) e

  ended : (odd : Bool) → remaining set 65 odd ≡ leaf (not odd)
  ended odd = tally-end not not (in_word set) 65 odd

  remaining-reduced : (v : ℕ) (odd : Bool) → 1 ≤ v → v ≤ 65 → Reduced 1 65 (remaining set v odd)
  remaining-reduced v odd p q = reduced-from 1 v 65 (remaining set v odd) p
      (tally-reduced not not (in_word set) (65 - v) v 65 odd (omega arith))

  remaining-differ : (v : ℕ) (odd : Bool) → remaining set v odd ≢ remaining set v (not odd)
  remaining-differ v odd = parity-differ (in_word set) (65 - v) v odd

  -- all of them are the set's
  pub whole-made : (T : Table) (odd b : Bool) → odd ≡ b → (o : Outcome) → o ≡ placed_in T (remaining set 1 b) → o
      ≡ placed_in T (parity 64 (in_word set) odd)
  whole-made T odd b e o p = p ∙ ap (placed_in T) (sym (parity-is (in_word set) 64 b))
      ∙ ap (λ (x : Bool). placed_in T (parity 64 (in_word set) x)) (sym e)

pub whole_ready : (T : Table) → Good T → (set : ℕ) (odd : Bool) → Buildable T set 1 odd 0
whole_ready T G set odd = record {
  good = G;
  least = omega arith;
  most = omega arith;
  inside = omega (arith, G.least);
  is =
      λ p. absurd (omega arith);
}

-- the constant that is left where no variable is
abbrev pub constant_of : Bool → ℕ
constant_of true = 0
constant_of false = 1

module _ (T : Table) (set v : ℕ) (odd : Bool) (other : ℕ) (B : Buildable T set v odd other) (w : ℕ) (N : NextIn set v w) where
  constant-is : (b : Bool) → diagram_at (nodes_of T) (constant_of b) ≡ leaf (not b)
  constant-is true = diagram_at-zero (nodes_of T)
  constant-is false = diagram_at-one (nodes_of T)

  constant-inside : (b : Bool) → constant_of b < T.count
  constant-inside true = omega (arith, B.good.least)
  constant-inside false = omega (arith, B.good.least)

  -- no variable is left
  pub none_left : w ≡ 65 → record { table = T; full = false; node = constant_of odd } ≡ placed_in T (remaining set v odd)
  none_left e =
      sym (there T B.good (constant_of odd) (constant-inside odd))
      ∙ ap (place_in T) (constant-is odd ∙ sym (skipped set v w odd N ∙ ap (λ (x : ℕ). remaining set x odd) e ∙ ended set odd))

  module _ (ne : w ≡ 65 → ⊥) where
    within : w ≤ 64
    within = omega (arith, N.most, ne)

    abbrev low : Diagram
    low = remaining set (w + 1) odd

    abbrev high : Diagram
    high = remaining set (w + 1) (not odd)

    over : remaining set v odd ≡ branch w low high
    over = skipped set v w odd N ∙ here set w odd within (N.here within) ∙ rw (add-one w)

    reduced : (b : Bool) → Reduced 1 65 (remaining set (w + 1) b)
    reduced b = remaining-reduced set (w + 1) b (omega arith) (omega (arith, within))

    -- ---- the other parity is there: its sides are these turned round

    module _ (two : 2 ≤ other) where
      other-is : node (at (nodes_of T) other).var (diagram_at (nodes_of T) (at (nodes_of T) other).low)
          (diagram_at (nodes_of T) (at (nodes_of T) other).high) ≡ node w high low
      other-is =
          sym (diagram_at-node (nodes_of T) (good-ordered T B.good) other two (omega (arith, B.inside, length-nodes T B.good)))
          ∙ B.is two ∙ skipped set v w (not odd) N ∙ here set w (not odd) within (N.here within)
          ∙ rw (sym (add-one w)) (branch_differ w high (remaining set (w + 1) (not (not odd))) (remaining-differ set (w + 1) (not odd)))
          ∙ ap (λ (b : Bool). node w high (remaining set (w + 1) b)) (not-not odd)

      fits : Fits (nodes_of T) other (at (nodes_of T) other)
      fits = (good-ordered T B.good).fits other two (omega (arith, B.inside, length-nodes T B.good))

      pub turned-is : (l h : ℕ) → l ≡ get_or T.highs other 0 → h ≡ get_or T.lows other 0 → (o : Outcome) → o ≡ put_in T w l h → o
          ≡ placed_in T (remaining set v odd)
      turned-is l h p q o e =
          let lo : l ≡ (at (nodes_of T) other).high = p ∙ high-at T B.good other in
          let hi : h ≡ (at (nodes_of T) other).low = q ∙ low-at T B.good other in
          let a : diagram_at (nodes_of T) (at (nodes_of T) other).high ≡ low = cc other-is in
          let b : diagram_at (nodes_of T) (at (nodes_of T) other).low ≡ high = cc other-is in
          e ∙ put-in T B.good w l h (omega (arith, lo, fits.high-less, B.inside)) (omega (arith, hi, fits.low-less, B.inside))
          ∙ ap₂ (λ (m n : Diagram). place_in T (branch w m n)) (ap (diagram_at (nodes_of T)) lo ∙ a) (ap (diagram_at (nodes_of T)) hi ∙ b)
          ∙ ap (place_in T) (sym over)

    -- ---- both sides made

    pub low-ready : Buildable T set (w + 1) odd 0
    low-ready = record {
      good = B.good;
      least = omega arith;
      most = omega (arith, within);
      inside = omega (arith, B.good.least);
      is =
          λ p. absurd (omega arith);
    }

    module _ (o₁ : Outcome) (e₁ : o₁ ≡ placed_in T (remaining set (w + 1) odd)) where
      W₁ : Grown T low o₁
      W₁ = grown T B.good low (reduced odd) o₁ e₁

      pub low-done : o₁.full ≡ true → o₁ ≡ placed_in T (remaining set v odd)
      low-done f = low-full T B.good w low high (reduced odd) (reduced (not odd)) o₁ e₁ f ∙ ap (place_in T) (sym over)

      module _ (f₁ : o₁.full ≡ false) where
        pub high-ready : Buildable o₁.table set (w + 1) (not odd) o₁.node
        high-ready = record {
          good = W₁.good;
          least = omega arith;
          most = omega (arith, within);
          inside = W₁.inside;
          is = λ _. W₁.is f₁ ∙ ap (remaining set (w + 1)) (sym (not-not odd));
        }

        module _ (o₂ : Outcome) (e₂ : o₂ ≡ placed_in o₁.table (remaining set (w + 1) (not odd))) where
          pub high-good : Good o₂.table
          high-good = (grown o₁.table W₁.good high (reduced (not odd)) o₂ e₂).good

          pub high-done : o₂.full ≡ true → o₂ ≡ placed_in T (remaining set v odd)
          high-done f = high-full T B.good w low high (reduced odd) (reduced (not odd)) o₁ e₁ f₁ o₂ e₂ f ∙ ap (place_in T) (sym over)

          pub both-done : o₂.full ≡ false → (o₃ : Outcome) → o₃ ≡ put_in o₂.table w o₁.node o₂.node → o₃
              ≡ placed_in T (remaining set v odd)
          both-done f₂ o₃ e₃ = joined T B.good w low high (reduced odd) (reduced (not odd)) o₁ e₁ f₁ o₂ e₂ f₂ o₃ e₃
              ∙ ap (place_in T) (sym over)

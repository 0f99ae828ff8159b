-- Each call over the arrays, with the nodes loaded before and written back after, is the call over the slice's own columns: `whole` of
-- columns/proofs/Whole, since columns of wrong size make each call say 7 and leave them. Assumes nothing.
use mathlib.Core.Path.{◌≡◌, ap, ◌∙◌}
use mathlib.Core.Bool.{false}
use Prim.Native.Nat.{ℕ, ◌≤◌}
use native.Mathlib.Omega.{arith}
use mathlib.Core.List.{List}
use lib.ListN.{length, take}
use lib.Dec.{leb}
use borrow.Author.Tests.{leb-true, leb-false}
use Rattle.table.specs.Columns.{size_fits, columns_made}
use Rattle.operate.specs.declared.Operation.{Operation}
use Rattle.single.specs.declared.Evaluated.{Evaluated}
use Rattle.single.specs.declared.call.Single.{Single}
use Rattle.single.specs.declared.least.AtLeast.{AtLeast}
use Rattle.single.specs.Single.{Made, made_of, unchanged, refusal, operation, Counted, counted_of, with_count, at_least_call, evaluation}
use Rattle.columns.specs.declared.Node.{Node}
use Rattle.columns.specs.Slice.{vars_of, lows_of, highs_of}
use Rattle.nodes.specs.Second.{second_of}
use Rattle.nodes.specs.Within.{operation_within, at_least_within, evaluation_within}
use Rattle.columns.proofs.Lists.{by-test, var_of, low_of, high_of, column, slice}
use Rattle.columns.proofs.Setting.{Cut}
use Rattle.columns.proofs.Whole.{Sized, columns-before, unfit, vars-past, whole}

-- ---- conjunction, negation, both cofactors
module _ (op : Operation) (ds js : List ℕ) (count f g : ℕ) (ds' js' : List ℕ) (r : Single) where
  abbrev said : List ℕ → List ℕ → List ℕ → Made
  said v l h = made_of (columns_made v l h ds' js') r

  abbrev kept : List ℕ → List ℕ → List ℕ → Made
  kept v l h = unchanged (columns_made v l h ds js) count 7

  operation-refused : (v l h : List ℕ) → size_fits v l h ds js ≡ false → operation op (columns_made v l h ds js) count f (second_of op g)
      ≡ kept v l h
  unfolding operation refusal
  operation-refused v l h e = rw e

  operation-moved : (a b c v l h : List ℕ) → said a b c ≡ kept v l h → ((a ≡ v) × (b ≡ l) × (c ≡ h))
      × ((v l h : List ℕ) → said v l h ≡ kept v l h)
  operation-moved a b c v l h e = (
    (ap (λ (o : Made). o.columns.vars) e, ap (λ (o : Made). o.columns.lows) e, ap (λ (o : Made). o.columns.highs) e),
    (λ v l h. ap (λ (o : Made). record {
      number = o.number;
      node = o.node;
      count = o.count;
      columns =
          columns_made v l h o.columns.heads o.columns.links;
    }) e),
  )

  pub operation-whole : (ys : List Node) (m : ℕ) (vs₀ ls₀ hs₀ vs ls hs : List ℕ) → Cut (length ys) m → Sized vs ls hs
      → said (take (length ys) vs) (take (length ys) ls) (take (length ys) hs)
      ≡ operation_within op (length ys) (column var_of ys vs₀ m) (column low_of ys ls₀ m) (column high_of ys hs₀ m) ds js count f g
      → said (vars_of (slice vs ls hs ys m)) (lows_of (slice vs ls hs ys m)) (highs_of (slice vs ls hs ys m))
      ≡ operation op (columns_made (vars_of ys) (lows_of ys) (highs_of ys) ds js) count f (second_of op g)
  unfolding operation_within
  operation-whole ys m vs₀ ls₀ hs₀ vs ls hs cut e told =
      whole ds js said (λ v l h. operation op (columns_made v l h ds js) count f (second_of op g)) kept operation-refused operation-moved ys
      vs₀ ls₀ hs₀ vs ls hs e m cut told

-- ---- at least
module _ (ds js : List ℕ) (count set k : ℕ) (ds' js' : List ℕ) (r : AtLeast) where
  abbrev told_of : List ℕ → List ℕ → List ℕ → Counted
  told_of v l h = counted_of (columns_made v l h ds' js') r

  abbrev uncounted : List ℕ → List ℕ → List ℕ → Counted
  uncounted v l h = record { made = unchanged (columns_made v l h ds js) count 7; counted = false; excluded = 0 }

  at-least-refused : (v l h : List ℕ) → size_fits v l h ds js ≡ false → at_least_call (columns_made v l h ds js) count set k
      ≡ uncounted v l h
  unfolding at_least_call with_count
  at-least-refused v l h e = rw e

  at-least-moved : (a b c v l h : List ℕ) → told_of a b c ≡ uncounted v l h → ((a ≡ v) × (b ≡ l) × (c ≡ h))
      × ((v l h : List ℕ) → told_of v l h ≡ uncounted v l h)
  at-least-moved a b c v l h e = (
    (
      ap (λ (o : Counted). o.made.columns.vars) e,
      ap (λ (o : Counted). o.made.columns.lows) e,
      ap (λ (o : Counted). o.made.columns.highs) e,
    ),
    (λ v l h. ap (λ (o : Counted). record {
      made = record {
        number = o.made.number;
        node = o.made.node;
        count = o.made.count;
        columns =
            columns_made v l h o.made.columns.heads o.made.columns.links;
      };
      counted = o.counted;
      excluded = o.excluded;
    }) e),
  )

  pub at-least-whole : (ys : List Node) (m : ℕ) (vs₀ ls₀ hs₀ vs ls hs : List ℕ) → Cut (length ys) m → Sized vs ls hs
      → told_of (take (length ys) vs) (take (length ys) ls) (take (length ys) hs)
      ≡ at_least_within (length ys) (column var_of ys vs₀ m) (column low_of ys ls₀ m) (column high_of ys hs₀ m) ds js count set k
      → told_of (vars_of (slice vs ls hs ys m)) (lows_of (slice vs ls hs ys m)) (highs_of (slice vs ls hs ys m))
      ≡ at_least_call (columns_made (vars_of ys) (lows_of ys) (highs_of ys) ds js) count set k
  unfolding at_least_within
  at-least-whole ys m vs₀ ls₀ hs₀ vs ls hs cut e told =
      whole ds js told_of (λ v l h. at_least_call (columns_made v l h ds js) count set k) uncounted at-least-refused at-least-moved ys vs₀
      ls₀
      hs₀ vs ls hs e m cut told

-- ---- evaluation, which leaves the columns
pub evaluation-whole : (ys : List Node) (m : ℕ) (ds js : List ℕ) (count f word : ℕ) (vs₀ ls₀ hs₀ : List ℕ) (r : Evaluated) →
    Cut (length ys) m
    → r ≡ evaluation_within (length ys) (column var_of ys vs₀ m) (column low_of ys ls₀ m) (column high_of ys hs₀ m) ds js count f word
    → r ≡ evaluation (columns_made (vars_of ys) (lows_of ys) (highs_of ys) ds js) count f word
unfolding evaluation_within evaluation refusal
evaluation-whole ys m ds js count f word vs₀ ls₀ hs₀ r cut told = by-test (leb (length ys) 65536)
    (λ t. let h : length ys ≤ 65536 = leb-true _ _ t in
    let same : m ≡ length ys = omega (arith, cut.0, cut.2 h) in
    let b = columns-before ys vs₀ ls₀ hs₀ in
    told ∙ rw (t, same, b.0, b.1, b.2))
    (λ t. told ∙ rw (t, unfit (vars_of ys) (lows_of ys) (highs_of ys) ds js (vars-past ys (leb-false _ _ t))))

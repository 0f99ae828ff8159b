-- The check over the arrays, with the nodes loaded before and written back after, is the check over the slice's own columns: `whole` of
-- columns/proofs/Whole, since columns of wrong size make the check say 7 and leave them. Assumes nothing.
use mathlib.Core.Path.{◌≡◌, sym, ap, ◌∙◌}
use mathlib.Core.Bool.{false}
use Prim.Native.Nat.{ℕ}
use mathlib.Core.List.{List}
use lib.ListN.{length, take}
use Rattle.table.specs.Columns.{size_fits, columns_made}
use Rattle.commands.specs.declared.Mode.{Mode}
use Rattle.verdict.specs.Check.{CheckOutcome, lent_fits, check}
use Rattle.verdict.specs.Satisfies.{Unsatisfiable}
use Rattle.verdict.proofs.Refuted.{check-refuted}
use Rattle.session.specs.declared.Checked.{Checked}
use Rattle.session.specs.Checked.{check_outcome}
use Rattle.columns.specs.declared.Node.{Node}
use Rattle.columns.specs.Slice.{vars_of, lows_of, highs_of}
use Rattle.columns.proofs.Lists.{var_of, low_of, high_of, column, slice}
use Rattle.columns.proofs.Setting.{Cut}
use Rattle.columns.proofs.Whole.{Sized, whole}
use Rattle.node_check.specs.Within.{check_within}

module _ (mode : Mode) (ds js : List ℕ) (count : ℕ) (ms ks ss formula proof ds' js' ms' ks' ss' : List ℕ) (r : Checked) where
  abbrev seven : List ℕ → List ℕ → List ℕ → CheckOutcome
  seven v l h = record {
    number = 7;
    in_proof = false;
    place = 0;
    lines = 0;
    rounds = 0;
    count = count;
    peak = 0;
    columns =
        columns_made v l h ds js;
    members = ms;
    struck = ks;
    scratch = ss;
  }

  abbrev out : List ℕ → List ℕ → List ℕ → CheckOutcome
  out v l h = check_outcome (columns_made v l h ds' js') ms' ks' ss' r

  check-refused : (v l h : List ℕ) → size_fits v l h ds js ≡ false → check mode (columns_made v l h ds js) count ms ks ss formula proof
      ≡ seven v l h
  unfolding check lent_fits
  check-refused v l h e = rw e

  check-moved : (a b c v l h : List ℕ) → out a b c ≡ seven v l h → ((a ≡ v) × (b ≡ l) × (c ≡ h))
      × ((v l h : List ℕ) → out v l h ≡ seven v l h)
  check-moved a b c v l h e = (
    (
      ap (λ (o : CheckOutcome). o.columns.vars) e,
      ap (λ (o : CheckOutcome). o.columns.lows) e,
      ap (λ (o : CheckOutcome). o.columns.highs) e,
    ),
    (λ v l h. ap (λ (o : CheckOutcome). record {
      number = o.number;
      in_proof = o.in_proof;
      place = o.place;
      lines = o.lines;
      rounds =
          o.rounds;
      count = o.count;
      peak = o.peak;
      columns = columns_made v l h o.columns.heads o.columns.links;
      members =
          o.members;
      struck = o.struck;
      scratch = o.scratch;
    }) e),
  )

  check-whole : (ys : List Node) (m : ℕ) (vs₀ ls₀ hs₀ vs ls hs : List ℕ) → Cut (length ys) m → Sized vs ls hs
      → out (take (length ys) vs) (take (length ys) ls) (take (length ys) hs)
      ≡ check_within mode (length ys) (column var_of ys vs₀ m) (column low_of ys ls₀ m) (column high_of ys hs₀ m) ds js count ms ks ss
      formula proof
      → out (vars_of (slice vs ls hs ys m)) (lows_of (slice vs ls hs ys m)) (highs_of (slice vs ls hs ys m))
      ≡ check mode (columns_made (vars_of ys) (lows_of ys) (highs_of ys) ds js) count ms ks ss formula proof
  unfolding check_within
  check-whole ys m vs₀ ls₀ hs₀ vs ls hs cut e told =
      whole ds js out (λ v l h. check mode (columns_made v l h ds js) count ms ks ss formula proof) seven check-refused check-moved ys vs₀
      ls₀ hs₀ vs ls hs e m cut told

  -- The same with what 0 means.
  pub check-told : (ys : List Node) (m : ℕ) (vs₀ ls₀ hs₀ vs ls hs : List ℕ) → Cut (length ys) m → Sized vs ls hs
      → out (take (length ys) vs) (take (length ys) ls) (take (length ys) hs)
      ≡ check_within mode (length ys) (column var_of ys vs₀ m) (column low_of ys ls₀ m) (column high_of ys hs₀ m) ds js count ms ks ss
      formula proof
      → (out (vars_of (slice vs ls hs ys m)) (lows_of (slice vs ls hs ys m)) (highs_of (slice vs ls hs ys m))
      ≡ check mode (columns_made (vars_of ys) (lows_of ys) (highs_of ys) ds js) count ms ks ss formula proof)
      × (r.number ≡ 0 → Unsatisfiable formula)
  check-told ys m vs₀ ls₀ hs₀ vs ls hs cut e told =
      let is = check-whole ys m vs₀ ls₀ hs₀ vs ls hs cut e told in (
        is,
        λ z. check-refuted mode (columns_made (vars_of ys) (lows_of ys) (highs_of ys) ds js) count ms ks ss formula proof
            (sym (ap (λ (o : CheckOutcome). o.number) is) ∙ z),
      )

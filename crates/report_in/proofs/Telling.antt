-- What the report over a lent table says, by whether both files are taken; and what its status 0 means. The idea: `files-taken` and
-- `files-refused` of crate `report`. Assumes nothing.
use mathlib.Core.Path.{◌≡◌, refl, sym, ap, ◌∙◌}
use mathlib.Core.Bool.{Bool}
use mathlib.Core.List.{List}
use Prim.Native.Nat.{ℕ}
use native.Mathlib.Omega.{arith}
use Rattle.std.specs.Prelude.{Option, Some, None}
use Rattle.table.specs.Columns.{Columns}
use Rattle.commands.specs.declared.Mode.{Mode}
use Rattle.verdict.specs.Check.{CheckOutcome, check}
use Rattle.verdict.specs.Satisfies.{Unsatisfiable}
use Rattle.verdict.proofs.Refuted.{check-refuted}
use Rattle.report.specs.declared.Line.{Line}
use Rattle.report.specs.Files.{file_refused, status_of}
use Rattle.report.proofs.Saying.{refusal_of, files-taken, files-refused, refusal-counts, status-zero}
use Rattle.report_in.specs.Lent.{ReportOutcome, report_outcome, of_check, report_on}

-- What is left, with the line of the definition in place of the one that was returned.
pub left_so : (left : Columns) (ms ks ss : List ℕ) (l : Line) (t : ReportOutcome) → report_outcome left ms ks ss l ≡ t
    → report_outcome left ms ks ss t.line ≡ t
left_so left ms ks ss l t e = ap (λ (x : Line). report_outcome left ms ks ss x) (sym (ap (λ (o : ReportOutcome). o.line) e)) ∙ e

module _ (mode : Mode) (lent : Columns) (ms ks ss : List ℕ) (f p : Bool) (formula proof : List ℕ) where
  abbrev told : ReportOutcome
  told = report_on mode lent ms ks ss f formula p proof

  abbrev checked : CheckOutcome
  checked = check mode lent 2 ms ks ss formula proof

  on-untaken : (l : Line) → refusal_of f p formula proof ≡ Some l → told ≡ report_outcome lent ms ks ss l
  unfolding report_on
  on-untaken l e = files-refused (λ l. report_outcome lent ms ks ss l) f p formula proof (of_check checked) l e

  on-taken : refusal_of f p formula proof ≡ None → told ≡ of_check checked
  unfolding report_on
  on-taken e = files-taken (λ number place. report_outcome lent ms ks ss (file_refused number place)) f p formula proof (of_check checked) e

  -- A file was not taken.
  pub untaken : (l : Line) → refusal_of f p formula proof ≡ Some l → report_outcome lent ms ks ss l ≡ told
  untaken l e = sym (on-untaken l e)

  -- Both were, and the check was made.
  pub taken : refusal_of f p formula proof ≡ None → (o : CheckOutcome) → o ≡ checked → of_check o ≡ told
  taken e o is = ap of_check is ∙ sym (on-taken e)

  -- Status 0: no assignment satisfies the formula.
  pub told-refuted : status_of told.line.number ≡ 0 → Unsatisfiable formula
  told-refuted z = go (refusal_of f p formula proof) refl
    where
      number : told.line.number ≡ 0
      number = status-zero _ z

      go : (r : Option Line) → refusal_of f p formula proof ≡ r → Unsatisfiable formula
      go None e =
          check-refuted mode lent 2 ms ks ss formula proof (sym (ap (λ (o : ReportOutcome). o.line.number) (on-taken e)) ∙ number)
      go (Some l) e =
          let same = ap (λ (o : ReportOutcome). o.line.number) (on-untaken l e) in
          absurd (omega (arith, same, number, refusal-counts f p formula proof l e))

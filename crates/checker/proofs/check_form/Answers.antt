-- `checker::check_form` meets its contract: it is `check_in` in the mode that form and flag name. Assumes nothing.
use mathlib.Core.Path.{◌≡◌, ap, ◌∙◌}
use mathlib.Core.List.{List}
use Prim.Native.Nat.{ℕ}
use Rattle.table.specs.Columns.{Columns}
use Rattle.commands.specs.declared.Mode.{Mode}
use Rattle.verdict.specs.Check.{CheckOutcome, check}
use Rattle.checker.proofs.check_form.Goals as goal

in-mode : {m m' : Mode} (o : CheckOutcome) (lent : Columns) (count : ℕ) (ms ks ss formula proof : List ℕ) → m ≡ m'
    → o ≡ check m lent count ms ks ss formula proof → o ≡ check m' lent count ms ks ss formula proof
in-mode o lent count ms ks ss formula proof e is = is ∙ ap (λ (m : Mode). check m lent count ms ks ss formula proof) e

pub returns : goal.returns
returns c =
    let checked = c.check_in.ensures in
    record { result_after = in-mode _ _ _ _ _ _ _ _ c.mode_of-mode.ensures checked.result_after; unsatisfiable = checked.unsatisfiable }

-- `checker::check_in` meets its contract: the equation is the inner call's, and that 0 means unsatisfiable is the definition's. The idea:
-- `check-refuted`. Assumes nothing.
use mathlib.Core.Path.{sym, ap, ◌∙◌}
use Rattle.verdict.specs.Check.{CheckOutcome}
use Rattle.verdict.proofs.Refuted.{check-refuted}
use Rattle.checker.proofs.check_in.Goals as goal

pub returns : goal.returns
returns c =
    let said = c.call.ensures in
    record { result_after = said; unsatisfiable = λ z. check-refuted _ _ _ _ _ _ _ _ (sym (ap (λ (o : CheckOutcome). o.number) said) ∙ z) }

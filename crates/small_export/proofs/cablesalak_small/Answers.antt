-- `cablesalak_small`: the call's contract, and what number 0 means. The idea: `small-call-refuted` about the definition that the contract
-- cites. Assumes nothing.
use mathlib.Core.Path.{sym, ap, ◌∙◌}
use Rattle.small_verdict.specs.Small.{SmallOutcome}
use Rattle.small_verdict.proofs.Agreement.{small-call-refuted}
use Rattle.small_export.proofs.cablesalak_small.Goals as goal

pub returns : goal.returns
returns c = record {
  result_after = c.call.ensures;
  unsatisfiable = λ e. small-call-refuted c.args.formula.now c.args.proof.now
      c.args.members.now c.args.struck.now
      c.args.scratch.now (sym (ap (λ (o : SmallOutcome). o.number) c.call.ensures) ∙ e);
}

-- `clause_at`: the clause as the reader of a formula gives it, with its pivot; a refusal as it gives it. Assumes nothing.
use mathlib.Core.Path.{ap, ◌∙◌}
use native.Mathlib.Omega.{arith}
use Rattle.std.proofs.lemmas.Result.{err_from_is_err_and}
use Rattle.std.specs.Prelude.{None}
use Rattle.std.specs.Result.{result_unwrap_or}
use Rattle.dimacs.specs.Text.{between}
use Rattle.dimacs.proofs.OpenClause.{token_at}
use Rattle.commands.proofs.Reading.{Fault, clause-in, pivot-is, answer-closed, answer-refused, closed_in, pivot-read}
use Rattle.commands.proofs.text.clause_at.Goals as goal

pub skip_between-next-requires : goal.skip_between-next-requires
skip_between-next-requires c =
    closed_in Fault _ _ _ _ _ _ (clause-in _ _ _ _ _ c.requires.0
    (omega (arith, c.requires.0, c.requires.1))) c.in_ok-closed.ensures

pub returns-in_err-closed : goal.returns-in_err-closed
returns-in_err-closed c =
    let p = err_from_is_err_and c.from_residual.result c.from_residual.ensures.1 in
    rw (p.1, p.2)
    (answer-refused (between _) _ c.args.strikes Fault _ _ _ _ _
    (clause-in _ _ _ _ _ c.requires.0 (omega (arith, c.requires.0, c.requires.1))) c.in_err-closed.ensures)

pub returns : goal.returns
returns c =
    let t = token_at c.args.s.now c.args.variables c.args.from in
    answer-closed (between _) _ c.args.strikes _ _ _ _ _ _ c.in_ok-closed.ensures
    (c.unwrap_or-pivot.ensures ∙ ap (λ r. result_unwrap_or r None) c.token_at.ensures ∙ pivot-read t)
    (pivot-is _ _ _ _ _) c.skip_between-next.ensures.value c.clause_command.ensures

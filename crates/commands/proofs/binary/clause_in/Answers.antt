-- `clause_in`: the clause as its groups give it, with its pivot; a refusal as they give it. Assumes nothing.
use mathlib.Core.Path.{refl, ap, ◌∙◌}
use Prim.Native.Nat.{◌+◌}
use lib.ListN.{drop}
use Rattle.std.specs.Prelude.{None}
use Rattle.std.specs.Result.{result_unwrap_or}
use native.Mathlib.Omega.{arith}
use Rattle.std.proofs.lemmas.Result.{err_from_is_err_and}
use Rattle.commands.proofs.Reading.{answer-closed, answer-refused, pivot-read}
use Rattle.commands.specs.declared.binary.GroupsRead.{GroupsRead}
use Rattle.commands.specs.Commands.{groups_in}
use Rattle.commands.specs.Inner.{groups_said}
use Rattle.commands.proofs.OpenGroups.{groups-pivot}
use Rattle.commands.proofs.Onward.{BinaryFault, binary-clause-in}
use Rattle.commands.proofs.binary.clause_in.Goals as goal

pub returns-in_err-closed : goal.returns-in_err-closed
returns-in_err-closed c =
    let p = err_from_is_err_and c.from_residual.result c.from_residual.ensures.1 in
    rw (p.1, p.2)
    (answer-refused (λ end. end) _ c.args.strikes BinaryFault _ _ _ _ _
    (binary-clause-in _ _ _ _ _ (omega arith) (omega (arith, c.requires.0)) (omega (arith, c.requires.0))) c.in_err-closed.ensures)

pub returns : goal.returns
returns c =
    let t = groups_said c.args.variables (c.args.at + 1) (groups_in (drop (c.args.at + 1) c.args.s.now)) in
    answer-closed (λ end. end) _ c.args.strikes _ _ _ _ _ _ c.in_ok-closed.ensures
    (c.unwrap_or-pivot.ensures
    ∙ ap (λ (r : GroupsRead). result_unwrap_or r.token None) c.groups_at-groups.ensures ∙ pivot-read t.token)
    (groups-pivot _ _ _ _ _) refl c.clause_command.ensures

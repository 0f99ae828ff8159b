-- `command_in`: the command, where it is let in. Assumes nothing.
use Rattle.commands.specs.Commands.{command_at}
use Rattle.commands.specs.Inner.{command_of}
use Rattle.commands.proofs.Answered.{read-ok, read-err}
use Rattle.profile.specs.Admitted.{admitted}
use Rattle.cause_again.proofs.command_in.Goals as goal

pub returns-in_default : goal.returns-in_default
returns-in_default c =
    let w = read-err _ _ (admitted c.args.mode.consequence
    (command_of (command_at c.args.mode.form c.args.proof.now c.args.variables c.args.at).command)) _ c.in_default.ensures in
    rw w.1

pub returns : goal.returns
returns c =
    let w = read-ok _ _ (admitted c.args.mode.consequence
    (command_of (command_at c.args.mode.form c.args.proof.now c.args.variables c.args.at).command)) _ c.in-Ok.ensures in
    rw w.0

-- `admitted_at`: what is read, then what the profile lets in. Assumes nothing.
use Rattle.std.proofs.lemmas.Result.{err_from_is_err_and}
use Rattle.profile.proofs.LetIn.{let-ok, let-err, read-refused}
use Rattle.profile.proofs.admitted_at.Goals as goal

pub returns-in_err-read : goal.returns-in_err-read
returns-in_err-read c =
    let p = err_from_is_err_and c.from_residual.result c.from_residual.ensures.1 in
    rw (p.1, p.2) (read-refused c.args.mode.consequence c.args.at _ _ _ c.in_err-read.ensures)

pub returns-in_err-command : goal.returns-in_err-command
returns-in_err-command c =
    let p = err_from_is_err_and c.from_residual-in_err-command.result c.from_residual-in_err-command.ensures.1 in
    rw (p.1, p.2) (let-err c.args.mode.consequence c.args.at _ _ _ _ c.in_ok-read.ensures c.in_err-command.ensures)

pub returns : goal.returns
returns c = let-ok c.args.mode.consequence c.args.at _ _ _ _ c.in_ok-read.ensures c.in_ok-command.ensures

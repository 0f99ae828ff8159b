-- `read_header`: the header, with more than six variables refused. Assumes nothing.
use Rattle.std.proofs.lemmas.Result.{err_from_is_err_and}
use Rattle.small.proofs.RunWays.{header-improper}
use Rattle.small.proofs.call.read_header.Goals as goal

pub returns-in_err-h : goal.returns-in_err-h
returns-in_err-h c =
    let p = err_from_is_err_and c.from_residual.result c.from_residual.ensures.1 in
    rw (p.1, p.2) (header-improper c.args.formula.now _ c.in_err-h.ensures)

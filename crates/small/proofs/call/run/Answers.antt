-- `run`: the header, then the clauses and the records. Assumes nothing.
use Rattle.small.specs.Lent.{said_of}
use Rattle.small.proofs.RunWays.{fits-sizes, run-improper, run-proper, run-within}
use Rattle.small.proofs.call.run.Goals as goal

pub run_clauses-requires : goal.run_clauses-requires
run_clauses-requires c =
    let w = run-within c.args.formula.now c.args.proof.now c.read_header.result c.read_header.ensures _ c.in-Ok.is in
    let z = fits-sizes c.args.members.now c.args.struck.now c.args.scratch.now c.requires in
    (w.0, w.1, w.2, z.0, z.1, z.2)

pub returns-in-Err : goal.returns-in-Err
returns-in-Err c = run-improper c.args.formula.now c.args.proof.now c.read_header.result c.read_header.ensures _ c.in-Err.is

pub returns-in-Ok : goal.returns-in-Ok
returns-in-Ok c =
    run-proper c.args.formula.now c.args.proof.now c.read_header.result c.read_header.ensures _ c.in-Ok.is
    (said_of c.run_clauses.result) c.run_clauses.ensures

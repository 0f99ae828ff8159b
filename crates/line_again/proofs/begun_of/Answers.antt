-- `begun_of`: the header's two forms, each with its state. Assumes nothing.
use native.Mathlib.Omega.{arith}
use Rattle.line_again.proofs.Begins.{few-clauses, begun-proper, begun-improper}
use Rattle.line_again.proofs.begun_of.Goals as goal

pub overflow_add-h : goal.overflow_add-h
overflow_add-h c =
    omega (
      arith,
      few-clauses c.args.formula.now c.args.count c.args.lines _ c.read_header.ensures _ c.in-Ok.is,
      c.requires,
    )

pub returns-in-Ok : goal.returns-in-Ok
returns-in-Ok c =
    begun-proper c.args.formula.now c.args.count c.args.lines _ c.read_header.ensures _
    c.in-Ok.is _ c.line_state.ensures

pub returns-in-Err : goal.returns-in-Err
returns-in-Err c =
    begun-improper c.args.formula.now c.args.count c.args.lines _ c.read_header.ensures _
    c.in-Err.is _ c.line_state-in-Err.ensures

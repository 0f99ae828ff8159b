-- `run_header` leaves the outcome of the formula and the proof, by the header. Assumes nothing.
use mathlib.Core.Path.{sym, ap, ◌∙◌}
use lib.ListN.{length}
use Rattle.verdict.specs.Check.{outcome}
use Rattle.dimacs.proofs.Formula.{header-ok, header-err}
use Rattle.session.proofs.Finish.{unopened-is, header-bounds, verdict-proper, verdict-improper}
use Rattle.session.proofs.run_header.Goals as goal

pub run_clauses-requires : goal.run_clauses-requires
run_clauses-requires c =
    let b = header-bounds _ _ _ _ (header-ok _ _ (sym c.read_header.ensures ∙ c.in-Ok.is)) in
    record {
      opened = c.requires.opened;
      variables_bound =
          (b.0, b.1, b.2, c.requires.in_bounds.0, c.requires.in_bounds.1, c.requires.in_bounds.2, c.requires.in_bounds.3);
    }

pub returns-in-Err : goal.returns-in-Err
returns-in-Err c =
    let a = c.args in
    unopened-is _ _ _ c.requires.opened c.requires.in_bounds.3 (length a.scratch.now) _ _
    ∙ ap (outcome (length a.vars.now) (length a.members.now) (length a.scratch.now))
    (sym (verdict-improper a.mode (length a.vars.now) _ a.proof.now _ _
    (header-err _ _ (sym c.read_header.ensures ∙ c.in-Err.is))))

pub shape_of-vars : goal.shape_of-vars
shape_of-vars c =
    c.run_clauses.auto.vars

pub shape_of-lows : goal.shape_of-lows
shape_of-lows c =
    c.run_clauses.auto.lows

pub shape_of-highs : goal.shape_of-highs
shape_of-highs c =
    c.run_clauses.auto.highs

pub shape_of-heads : goal.shape_of-heads
shape_of-heads c =
    c.run_clauses.auto.heads

pub shape_of-links : goal.shape_of-links
shape_of-links c =
    c.run_clauses.auto.links

pub shape_of-memo : goal.shape_of-memo
shape_of-memo c =
    c.run_clauses.auto.memo

pub shape_of-marks : goal.shape_of-marks
shape_of-marks c =
    c.run_clauses.auto.marks

pub shape_of-members : goal.shape_of-members
shape_of-members c =
    c.run_clauses.auto.members

pub shape_of-scratch : goal.shape_of-scratch
shape_of-scratch c =
    c.run_clauses.auto.scratch

pub shape_of-struck : goal.shape_of-struck
shape_of-struck c =
    c.run_clauses.auto.struck

pub returns-in-Ok : goal.returns-in-Ok
returns-in-Ok c =
    let a = c.args in
    c.run_clauses.ensures
    ∙ ap (outcome (length a.vars.now) (length a.members.now) (length a.scratch.now))
    (sym (verdict-proper a.mode (length a.vars.now) _ a.proof.now _ _ _
    (header-ok _ _ (sym c.read_header.ensures ∙ c.in-Ok.is))))

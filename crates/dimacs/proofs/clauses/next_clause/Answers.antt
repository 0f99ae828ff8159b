-- `next_clause`: a token or none, a clause wanted or none, each by the law of that case. Assumes nothing.
use mathlib.Core.Path.{ap, sym, ◌∙◌}
use native.Mathlib.Omega.{arith}
use Rattle.std.proofs.lemmas.Result.{err_from_is_err_and}
use Rattle.dimacs.specs.Inner.{clause_of}
use Rattle.dimacs.proofs.OpenClause.{next-many, next_here, next-end, next-few, closed-next, refused-next}
use Rattle.dimacs.proofs.clauses.next_clause.Goals as goal

pub returns-then-left-eq0 : goal.returns-then-left-eq0
returns-then-left-eq0 c = sym (next-many _ _ _ _ c.skip_between-first.ensures.value _ c.if-first-formula.true c.if-left-eq0.true)

pub returns-then-first-formula : goal.returns-then-first-formula
returns-then-first-formula c = closed-next _ _ _ _ _ _ c.in_ok-closed.ensures ∙ sym (ap clause_of (next_here _ _ _ _ c.skip_between-first.ensures.value _
    c.if-first-formula.true c.if-left-eq0.false))

pub returns-in_err-closed : goal.returns-in_err-closed
returns-in_err-closed c =
    let p = err_from_is_err_and c.from_residual.result c.from_residual.ensures.1 in
    rw (p.1, p.2)
    (refused-next _ _ _ _ _ _ c.in_err-closed.ensures ∙ sym (ap clause_of (next_here _ _ _ _ c.skip_between-first.ensures.value _
    c.if-first-formula.true c.if-left-eq0.false)))

pub returns-then-left-eq0-2 : goal.returns-then-left-eq0-2
returns-then-left-eq0-2 c = sym (next-end _ _ _ _ c.skip_between-first.ensures.value _ c.if-first-formula.false c.if-left-eq0-2.true)

pub returns : goal.returns
returns c = sym (next-few _ _ _ _ c.skip_between-first.ensures.value _ (omega arith) c.if-left-eq0-2.false)

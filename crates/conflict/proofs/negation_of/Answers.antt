-- Each way out says what the walk without a memo found. Assumes nothing.
use mathlib.Core.Path.{subst}
use borrow.Author.Tests.{not-false}
use Rattle.table.specs.Indexed.{Table, table_of}
use Rattle.negate.specs.Negations.{Negates}
use Rattle.conflict.proofs.Marked.{zero-negates}
use Rattle.conflict.proofs.negation_of.Goals as goal

pub returns-then-k-eq0 : goal.returns-then-k-eq0
returns-then-k-eq0 c =
    let table : Table =
    let a = c.args in table_of a.vars.now a.lows.now a.highs.now a.heads.now a.links.now a.count in
    zero-negates table c.requires.0 c.args.f.0 _ c.if-k-eq0.true
    (subst (Negates table c.args.f.0) c.in-At.is
    (c.negation_thin-r.ensures (not-false _ c.if-not-r.false)))

pub returns-else-k-eq0 : goal.returns-else-k-eq0
returns-else-k-eq0 c =
    let table : Table =
    let a = c.args in table_of a.vars.now a.lows.now a.highs.now a.heads.now a.links.now a.count in
    subst (Negates table c.args.f.0) c.in-At.is
    (c.negation_thin-r.ensures (not-false _ c.if-not-r.false))

pub returns-in-Nothing : goal.returns-in-Nothing
returns-in-Nothing c =
    let table : Table =
    let a = c.args in table_of a.vars.now a.lows.now a.highs.now a.heads.now a.links.now a.count in
    let n = subst (Negates table c.args.f.0) c.in-Nothing.is
    (c.negation_thin-r.ensures (not-false _ c.if-not-r.false)) in
    λ k _ p. n k p

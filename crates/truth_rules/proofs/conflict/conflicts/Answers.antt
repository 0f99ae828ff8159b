-- `conflicts`: rule (a) over words. The idea: 0 is listed, or a word and its negation are. Assumes nothing.
use native.Mathlib.Omega.{arith}
use Rattle.truth_rules.proofs.Conflicts.{zero-conflicts, negated-conflicts}
use Rattle.truth_rules.proofs.conflict.conflicts.Goals as goal

pub returns-then-is_listed : goal.returns-then-is_listed
returns-then-is_listed c = zero-conflicts c.args.list.now (λ i p. omega (arith, c.type_inv.list i))
    c.is_listed.result c.is_listed.ensures c.if-is_listed.true

pub returns : goal.returns
returns c = negated-conflicts c.args.list.now
    (λ i p. omega (arith, c.type_inv.list i)) c.is_listed.result
    c.some_negated.result c.is_listed.ensures c.if-is_listed.false c.some_negated.ensures

-- `turn`: one member's turn of a PR line. The idea: h is 1, or the propagation is that of the words' diagrams. Assumes nothing.
use Rattle.truth_rules.specs.Lists.{diagrams_of}
use native.Mathlib.Omega.{arith}
use Rattle.truth_rules.proofs.LineWords.{turn_one, turn-other}
use Rattle.truth_rules.proofs.turn.Goals as goal

pub returns-then-h-clause-says : goal.returns-then-h-clause-says
returns-then-h-clause-says c = turn_one c.args.f c.args.witness.positive c.args.witness.negative
    c.by_literals-h.result c.by_literals-h.ensures (omega (arith, c.by_literals-h.type_inv))
    (diagrams_of c.args.first.now) c.if-h.true

pub returns-clause-says : goal.returns-clause-says
returns-clause-says c = turn-other c.args.f c.args.witness.positive c.args.witness.negative
    c.by_literals-h.result c.by_literals-h.ensures
    (omega (arith, c.by_literals-h.type_inv)) c.args.first.now
    c.all_by.new.to c.negate-not.result c.if-h.false
    c.negate-not.ensures c.all_by.ensures c.unit_prop.result
    c.unit_prop.ensures.says

-- `rup`: the RUP line over words. The idea: negation, cofactors and unit propagation are those of the words' diagrams. Assumes nothing.
use native.Mathlib.Omega.{arith}
use Rattle.truth_rules.proofs.LineWords.{rup-says}
use Rattle.truth_rules.proofs.rup.Goals as goal

pub returns-clause-line_says : goal.returns-clause-line_says
returns-clause-line_says c = rup-says c.args.g c.negate-not.result (omega (arith, c.ranges.g))
    c.requires.1 c.negate-not.ensures c.args.live.now
    c.all_by.new.to c.all_by.ensures c.unit_prop.result
    c.unit_prop.ensures.says

-- `witness`: the pivot put in and its negation taken out, by its sign. Assumes nothing.
use Rattle.tries.proofs.Setting.{words-true, words-false}
use Rattle.tries.proofs.witness.Goals as goal

pub returns-then-positive : goal.returns-then-positive
returns-then-positive c = words-true _ _ _ _ _ c.if-positive.true c.with_variable.ensures
    c.without.ensures

pub returns : goal.returns
returns c = words-false _ _ _ _ _ c.if-positive.false c.without-2.ensures
    c.with_variable-2.ensures

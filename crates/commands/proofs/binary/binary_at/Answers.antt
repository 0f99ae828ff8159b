-- `binary_at`: the end, a clause added, a clause struck or another byte, each by the law of that case. Assumes nothing.
use Rattle.commands.proofs.Stream.{binary-finished, binary-adding, binary-striking, binary-unknown}
use Rattle.commands.proofs.binary.binary_at.Goals as goal

pub returns-then-kind-eq97 : goal.returns-then-kind-eq97
returns-then-kind-eq97 c = binary-adding _ _ _ _ c.if-at-s.true c.if-kind-eq97.true c.clause_in.ensures

pub returns-then-kind-eq100 : goal.returns-then-kind-eq100
returns-then-kind-eq100 c = binary-striking _ _ _ _ c.if-at-s.true c.if-kind-eq97.false
    c.if-kind-eq100.true c.clause_in-then-kind-eq100.ensures

pub returns-then-at-s : goal.returns-then-at-s
returns-then-at-s c = binary-unknown _ _ _ c.if-at-s.true c.if-kind-eq97.false c.if-kind-eq100.false

pub returns : goal.returns
returns c = binary-finished _ _ _ c.if-at-s.false

-- `witness_step`: the witness with one literal more. Assumes nothing.
use mathlib.Core.Path.{refl}
use Rattle.small.proofs.RecordWays.{witness-next}
use Rattle.small.proofs.record.witness_step.Goals as goal

pub returns : goal.returns
returns c = λ l H. witness-next c.args.variables l c.args.st H
    c.args.v c.args.value c.if-v-lt1.false
    c.if-variables-v.false c.in_word.result c.in_word.ensures
    c.if-in_word.false c.in_word-else-in_word.result c.in_word-else-in_word.ensures
    c.if-in_word-2.false c.with_literal.result c.with_literal.ensures _ refl

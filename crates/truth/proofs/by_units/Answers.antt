-- `by_units` goes down the variables: what is left to be done is what is to be done. Assumes nothing.
use Rattle.std.proofs.Common.{true, false}
use Rattle.truth.specs.Tables.{word_unit}
use Rattle.truth.proofs.Forms.{literals_down}
use Rattle.truth.proofs.by_units.Goals as goal

pub loop-v-preserved : goal.loop-v-preserved
loop-v-preserved c =
    let u = c.args.u in
    let down = literals_down c.loop-v.v (λ i. word_unit u i true) (λ i. word_unit u i false) c.loop-v.value c.loop-v-test.true in
    cc

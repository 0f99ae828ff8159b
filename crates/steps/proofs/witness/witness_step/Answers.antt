-- `witness_step`: each way out is one law of Witnesses. Assumes nothing.
use mathlib.Core.Path.{sym, ◌∙◌}
use Prim.Native.Nat.{◌≤◌}
use native.Mathlib.Omega.{arith}
use Rattle.entries.proofs.Entries.{is-variable, variable-zero, variable-beyond}
use Rattle.steps.proofs.Witnesses.{refused-12, refused-15, refused-15-negative, witness-taken}
use Rattle.steps.proofs.witness.witness_step.Reads as reads
use Rattle.steps.proofs.witness.witness_step.Lts as lts
use Rattle.steps.proofs.witness.witness_step.Tie as tie
use Rattle.steps.proofs.witness.witness_step.Goals as goal

-- the variable's test is passed
module _ (c : lts.Else2 tie.the-claims reads.Pre reads.Post) where
  is_one : 1 ≤ c.args.v
  is_one = omega (arith, c.if-v-lt1.false)

pub returns-then-v-lt1 : goal.returns-then-v-lt1
returns-then-v-lt1 c = λ l H. refused-12 _ _ _ _ _ (variable-zero _ _ c.if-v-lt1.true)

pub returns-then-variables-v : goal.returns-then-variables-v
returns-then-variables-v c = λ l H. refused-12 _ _ _ _ _ (variable-beyond _ _ (omega (arith, c.if-v-lt1.false)) c.if-variables-v.true)

pub in_word-requires : goal.in_word-requires
in_word-requires c = (is_one c.before, omega (arith, c.if-variables-v.false, c.requires))

pub returns-then-in_word : goal.returns-then-in_word
returns-then-in_word c = λ l H. refused-15 _ _ _ _ _ (is-variable _ _ (is_one c.before.before.before) c.if-variables-v.false)
    (sym c.in_word.ensures ∙ c.if-in_word.true)

pub in_word-requires-2 : goal.in_word-requires-2
in_word-requires-2 c = (is_one c.before.before.before, omega (arith, c.if-variables-v.false, c.requires))

pub returns-then-in_word-2 : goal.returns-then-in_word-2
returns-then-in_word-2 c = λ l H. refused-15-negative _ _ _ _ _
    (is-variable _ _ (is_one c.before.before.before.before.before) c.if-variables-v.false)
    (sym c.in_word-2.ensures ∙ c.if-in_word-2.true)

pub with_literal-set-requires : goal.with_literal-set-requires
with_literal-set-requires c = (is_one c.before.before.before.before.before, omega (arith, c.if-variables-v.false, c.requires))

pub returns : goal.returns
returns c =
    λ l H. witness-taken _ _ _ _ _ H (is-variable _ _ (is_one c.before.before.before.before.before.before.before) c.if-variables-v.false)
    (sym c.in_word.ensures ∙ c.if-in_word.false)
    (sym c.in_word-2.ensures ∙ c.if-in_word-2.false) (is_one c.before.before.before.before.before.before.before)
    c.with_literal-set.result c.with_witness.result c.with_witness.ensures
    c.with_literal-set.ensures

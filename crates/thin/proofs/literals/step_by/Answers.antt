-- Each step is that of the recursion with node 1, in every table with these columns. Assumes nothing.
use mathlib.Core.Path.{sym, ◌∙◌}
use mathlib.Core.Bool.{false}
use Rattle.table.specs.Indexed.{table_of}
use Rattle.meaning.specs.Words.{in_word}
use Rattle.thin.specs.Thin.{by_literals}
use Rattle.operate.specs.declared.step.Kind.TheVariants.{ByLiterals}
use Rattle.thin.proofs.Stepping.{given-leveled, step-told}
use Rattle.thin.proofs.LiteralSteps.{test-true, test-false, variable-of, high-left, low-left, low-leveled, high-leveled}
use Rattle.thin.proofs.LiteralSteps.{low-over, high-over}
use Rattle.thin.proofs.literals.step_by.Goals as goal

pub is_settled-requires : goal.is_settled-requires
is_settled-requires c =
    given-leveled (by_literals c.args.by) c.args.by.positive
    (table_of c.args.vars.now c.args.lows.now c.args.highs.now c.requires.heads c.requires.links c.requires.count) c.args.f.0 1
    c.requires.given

pub returns-then-is_settled : goal.returns-then-is_settled
returns-then-is_settled c =
    λ heads links count H.
    step-told ByLiterals c.args.by (table_of c.args.vars.now c.args.lows.now c.args.highs.now heads links count) c.args.f.0 1 H c.args.f
    (test-true _ _ _ c.is_settled.ensures c.if-is_settled.true)

pub in_word-requires : goal.in_word-requires
in_word-requires c =
    variable-of c.args.by (table_of c.args.vars.now c.args.lows.now c.args.highs.now c.requires.heads c.requires.links c.requires.count)
    c.args.f.0 c.requires.given (test-false _ _ _ c.is_settled.ensures c.if-is_settled.false)

pub returns-then-in_word : goal.returns-then-in_word
returns-then-in_word c =
    λ heads links count H.
    high-left c.args.by (table_of c.args.vars.now c.args.lows.now c.args.highs.now heads links count) c.args.f.0 H
    (test-false _ _ _ c.is_settled.ensures c.if-is_settled.false) (sym c.in_word.ensures ∙ c.if-in_word.true)

pub in_word-requires-2 : goal.in_word-requires-2
in_word-requires-2 c =
    variable-of c.args.by (table_of c.args.vars.now c.args.lows.now c.args.highs.now c.requires.heads c.requires.links c.requires.count)
    c.args.f.0 c.requires.given (test-false _ _ _ c.is_settled.ensures c.if-is_settled.false)

pub returns-then-in_word-2 : goal.returns-then-in_word-2
returns-then-in_word-2 c =
    λ heads links count H.
    low-left c.args.by (table_of c.args.vars.now c.args.lows.now c.args.highs.now heads links count) c.args.f.0 H
    (test-false _ _ _ c.is_settled.ensures c.if-is_settled.false) (sym c.in_word.ensures ∙ c.if-in_word.false)
    (sym c.in_word-2.ensures ∙ c.if-in_word-2.true)

pub is_settled-requires-2 : goal.is_settled-requires-2
is_settled-requires-2 c =
    low-leveled c.args.by (table_of c.args.vars.now c.args.lows.now c.args.highs.now c.requires.heads c.requires.links c.requires.count)
    c.args.f.0 c.requires.given (test-false _ _ _ c.is_settled.ensures c.if-is_settled.false)
    (sym c.in_word.ensures ∙ c.if-in_word.false) (sym c.in_word-2.ensures ∙ c.if-in_word-2.false)

pub returns-then-is_settled-2 : goal.returns-then-is_settled-2
returns-then-is_settled-2 c =
    λ heads links count H.
    low-over c.args.by (table_of c.args.vars.now c.args.lows.now c.args.highs.now heads links count) c.args.f.0 H
    (test-false _ _ _ c.is_settled.ensures c.if-is_settled.false) (sym c.in_word.ensures ∙ c.if-in_word.false)
    (sym c.in_word-2.ensures ∙ c.if-in_word-2.false)
    (test-true _ _ _ c.is_settled-2.ensures c.if-is_settled-2.true)

pub is_settled-requires-3 : goal.is_settled-requires-3
is_settled-requires-3 c =
    high-leveled c.args.by (table_of c.args.vars.now c.args.lows.now c.args.highs.now c.requires.heads c.requires.links c.requires.count)
    c.args.f.0 c.requires.given (test-false _ _ _ c.is_settled.ensures c.if-is_settled.false)
    (sym c.in_word.ensures ∙ c.if-in_word.false) (sym c.in_word-2.ensures ∙ c.if-in_word-2.false)

pub returns-then-is_settled-3 : goal.returns-then-is_settled-3
returns-then-is_settled-3 c =
    λ heads links count H.
    high-over c.args.by (table_of c.args.vars.now c.args.lows.now c.args.highs.now heads links count) c.args.f.0 H
    (test-false _ _ _ c.is_settled.ensures c.if-is_settled.false) (sym c.in_word.ensures ∙ c.if-in_word.false)
    (sym c.in_word-2.ensures ∙ c.if-in_word-2.false)
    (test-true _ _ _ c.is_settled-3.ensures c.if-is_settled-3.true)

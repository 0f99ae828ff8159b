-- `holding_fits` is the definition's test. Assumes nothing.
use mathlib.Core.Path.{sym, ◌∙◌}
use native.Mathlib.Omega.{arith}
use Rattle.shares.specs.Books.{BookLists}
use Rattle.book_line.specs.Says.{lists_made}
use Rattle.book_call.proofs.Tests.{few-members, numbers-beyond, numbers-within}
use Rattle.book_call.proofs.holding_fits.Goals as goal

pub returns-then-not-numbers_fit : goal.returns-then-not-numbers_fit
returns-then-not-numbers_fit c =
    let lists : BookLists =
    let a = c.args in lists_made a.members.now a.struck.now a.own.now in
    numbers-beyond c.args.size c.args.count c.args.b lists
    (sym c.numbers_fit.ensures ∙ c.if-not-numbers_fit.true)

pub overflow_add-b : goal.overflow_add-b
overflow_add-b c =
    omega (
      arith,
      few-members _ _ (sym c.numbers_fit.ensures
          ∙ c.if-not-numbers_fit.false),
    )

pub members_fit-requires : goal.members_fit-requires
members_fit-requires c =
    let m = few-members _ _ (sym c.numbers_fit.ensures
    ∙ c.if-not-numbers_fit.false) in
    (omega (arith, m, c.requires.1), omega (arith, m, c.requires.1, c.requires.2))

pub returns : goal.returns
returns c =
    let lists : BookLists =
    let a = c.args in lists_made a.members.now a.struck.now a.own.now in
    numbers-within c.args.size c.args.count c.args.b lists
    (sym c.numbers_fit.ensures ∙ c.if-not-numbers_fit.false) _
    c.members_fit.ensures

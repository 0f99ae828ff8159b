-- `call`: 7, 26, else the call over arrays as large as the table asks for (Tests). Assumes nothing.
use mathlib.Core.Path.{sym, ◌∙◌}
use Rattle.table.proofs.Sizes.{sized}
use Rattle.shares.specs.Books.{BookLists}
use Rattle.book_open.proofs.Sizes.{lists-fit}
use Rattle.book_line.specs.Says.{lists_made}
use Rattle.book_call.proofs.Tests.{outcome-7, outcome-disordered, outcome-unfit, outcome-done, ready}
use Rattle.book_call.proofs.call.Goals as goal

pub returns-then-not-book_fits : goal.returns-then-not-book_fits
returns-then-not-book_fits c =
    let lists : BookLists =
    let a = c.args in lists_made a.members.now a.struck.now a.own.now in
    let a = c.args in
    outcome-7 a.vars.now a.lows.now a.highs.now a.heads.now a.links.now a.count lists a.scratch.now a.b
    a.bytes.now
    (sym c.book_fits.ensures ∙ c.if-not-book_fits.true)

pub order_fits-requires : goal.order_fits-requires
order_fits-requires c =
    (lists-fit _ _ _ (sym c.book_fits.ensures ∙ c.if-not-book_fits.false)
    ).columns

pub returns-then-not-order_fits : goal.returns-then-not-order_fits
returns-then-not-order_fits c =
    let lists : BookLists =
    let a = c.args in lists_made a.members.now a.struck.now a.own.now in
    let a = c.args in
    outcome-disordered a.vars.now a.lows.now a.highs.now a.heads.now a.links.now a.count lists a.scratch.now
    a.b a.bytes.now
    (sym c.book_fits.ensures ∙ c.if-not-book_fits.false)
    (sym c.order_fits.ensures ∙ c.if-not-order_fits.true) _ c.unfit.ensures

pub holding_fits-requires : goal.holding_fits-requires
holding_fits-requires c =
    let w = lists-fit _ _ _ (sym c.book_fits.ensures
    ∙ c.if-not-book_fits.false) in
    ((sized _ _ _ _ _ w.columns).least, w.members, w.struck)

pub returns-then-not-holding_fits : goal.returns-then-not-holding_fits
returns-then-not-holding_fits c =
    let lists : BookLists =
    let a = c.args in lists_made a.members.now a.struck.now a.own.now in
    let a = c.args in
    outcome-unfit a.vars.now a.lows.now a.highs.now a.heads.now a.links.now a.count lists a.scratch.now
    a.b a.bytes.now
    (sym c.book_fits.ensures ∙ c.if-not-book_fits.false)
    (sym c.order_fits.ensures ∙ c.if-not-order_fits.false)
    (sym c.holding_fits.ensures ∙ c.if-not-holding_fits.true) _ c.unfit-then-not-holding_fits.ensures

pub call_4096-requires : goal.call_4096-requires
call_4096-requires c =
    let lists : BookLists =
    let a = c.args in lists_made a.members.now a.struck.now a.own.now in
    let a = c.args in (
      ready a.vars.now a.lows.now a.highs.now a.heads.now a.links.now a.count lists a.scratch.now a.b
          a.bytes.now (sym c.book_fits.ensures ∙ c.if-not-book_fits.false)
          (sym c.order_fits.ensures ∙ c.if-not-order_fits.false)
          (sym c.holding_fits.ensures ∙ c.if-not-holding_fits.false),
      c.if-vars-le4096.true,
    )

pub returns-then-vars-le4096 : goal.returns-then-vars-le4096
returns-then-vars-le4096 c =
    let lists : BookLists =
    let a = c.args in lists_made a.members.now a.struck.now a.own.now in
    let a = c.args in
    outcome-done a.vars.now a.lows.now a.highs.now a.heads.now a.links.now a.count lists a.scratch.now a.b
    a.bytes.now
    (sym c.book_fits.ensures ∙ c.if-not-book_fits.false)
    (sym c.order_fits.ensures ∙ c.if-not-order_fits.false)
    (sym c.holding_fits.ensures ∙ c.if-not-holding_fits.false) _
    c.call_4096.ensures

pub call_65536-requires : goal.call_65536-requires
call_65536-requires c =
    let lists : BookLists =
    let a = c.args in lists_made a.members.now a.struck.now a.own.now in
    let a = c.args in (
      ready a.vars.now a.lows.now a.highs.now a.heads.now a.links.now a.count lists a.scratch.now a.b
          a.bytes.now (sym c.book_fits.ensures ∙ c.if-not-book_fits.false)
          (sym c.order_fits.ensures ∙ c.if-not-order_fits.false)
          (sym c.holding_fits.ensures ∙ c.if-not-holding_fits.false),
      (sized _ _ _ _ _ (lists-fit _ _ _ (sym c.book_fits.ensures
          ∙ c.if-not-book_fits.false)).columns).most,
    )

pub returns : goal.returns
returns c =
    let lists : BookLists =
    let a = c.args in lists_made a.members.now a.struck.now a.own.now in
    let a = c.args in
    outcome-done a.vars.now a.lows.now a.highs.now a.heads.now a.links.now a.count lists a.scratch.now a.b
    a.bytes.now
    (sym c.book_fits.ensures ∙ c.if-not-book_fits.false)
    (sym c.order_fits.ensures ∙ c.if-not-order_fits.false)
    (sym c.holding_fits.ensures ∙ c.if-not-holding_fits.false) _
    c.call_65536.ensures

-- `judge_remade`: the free places, then the stage (Remaking). Assumes nothing.
use mathlib.Core.Path.{sym, ap, ◌∙◌, subst}
use native.Mathlib.Omega.{arith}
use Rattle.table.specs.Indexed.{Table, table_of}
use Rattle.verdict.specs.Check.{zeros}
use Rattle.state.specs.States.{Lent, lent_of, Held}
use Rattle.shares.specs.Books.{BookLists}
use Rattle.book_line.specs.Says.{lists_made, LineReady}
use Rattle.book_judge.proofs.Remaking.{passed, held, line-ready, unfit-is, bound-is, line-ran}
use Rattle.book_judge.proofs.later.judge_remade.Goals as goal

pub returns-then-vars-count : goal.returns-then-vars-count
returns-then-vars-count c =
    let shared : Table =
    let a = c.args in table_of a.vars.now a.lows.now a.highs.now a.heads.now a.links.now a.count in
    let lists : BookLists =
    let a = c.args in lists_made a.members.now a.struck.now a.own.now in
    let lent : Lent =
    let a = c.args in
    lent_of a.ownvars.now a.ownlows.now a.ownhighs.now a.ownheads.now a.ownlinks.now a.found.now a.scratch.now
    a.strikes.now in
    unfit-is shared lists c.args.b lent c.args.owncount c.requires.remade c.args.bytes.now c.args.scratch.now
    c.if-vars-count.true _ c.unfit.ensures

pub first_state-first-requires : goal.first_state-first-requires
first_state-first-requires c =
    let shared : Table =
    let a = c.args in table_of a.vars.now a.lows.now a.highs.now a.heads.now a.links.now a.count in
    let lists : BookLists =
    let a = c.args in lists_made a.members.now a.struck.now a.own.now in
    let lent : Lent =
    let a = c.args in
    lent_of a.ownvars.now a.ownlows.now a.ownhighs.now a.ownheads.now a.ownlinks.now a.found.now a.scratch.now
    a.strikes.now in
    let t = passed shared lists c.args.b lent c.args.owncount c.requires.remade in
    (t.clauses, t.lines, omega (arith, t.peak, t.places-in, c.requires.remade.good.most))

pub run_line-said-requires : goal.run_line-said-requires
run_line-said-requires c =
    let shared : Table =
    let a = c.args in table_of a.vars.now a.lows.now a.highs.now a.heads.now a.links.now a.count in
    let lists : BookLists =
    let a = c.args in lists_made a.members.now a.struck.now a.own.now in
    let lent : Lent =
    let a = c.args in
    lent_of a.ownvars.now a.ownlows.now a.ownhighs.now a.ownheads.now a.ownlinks.now a.found.now a.scratch.now
    a.strikes.now in
    let e = sym c.first_state-first.ensures in record {
      fact = (
        subst (Held 64 lent) e (held shared lists c.args.b lent c.args.owncount c.requires.remade),
        c.requires.marks_value.0,
        c.requires.marks_value.1,
      );
      line_ready = subst (LineReady shared lists c.args.b lent) e
          (line-ready shared lists c.args.b lent c.args.owncount c.requires.remade
          c.in-Lines.is c.if-vars-count.false);
    }

pub returns-in-Formula : goal.returns-in-Formula
returns-in-Formula c =
    absurd (c.requires.marks_value.2 c.in-Formula.is)

pub returns-in-Bound : goal.returns-in-Bound
returns-in-Bound c =
    let shared : Table =
    let a = c.args in table_of a.vars.now a.lows.now a.highs.now a.heads.now a.links.now a.count in
    let lists : BookLists =
    let a = c.args in lists_made a.members.now a.struck.now a.own.now in
    let lent : Lent =
    let a = c.args in
    lent_of a.ownvars.now a.ownlows.now a.ownhighs.now a.ownheads.now a.ownlinks.now a.found.now a.scratch.now
    a.strikes.now in
    bound-is shared lists c.args.b lent c.args.owncount c.requires.remade c.args.bytes.now c.args.scratch.now
    c.if-vars-count.false _ _ c.in-Bound.is _ c.said_by.ensures

pub returns-in-Lines : goal.returns-in-Lines
returns-in-Lines c =
    let shared : Table =
    let a = c.args in table_of a.vars.now a.lows.now a.highs.now a.heads.now a.links.now a.count in
    let lists : BookLists =
    let a = c.args in lists_made a.members.now a.struck.now a.own.now in
    let lent : Lent =
    let a = c.args in
    lent_of a.ownvars.now a.ownlows.now a.ownhighs.now a.ownheads.now a.ownlinks.now a.found.now a.scratch.now
    a.strikes.now in
    line-ran shared lists c.args.b lent c.args.owncount c.requires.remade c.args.bytes.now c.args.scratch.now
    c.if-vars-count.false c.in-Lines.is _
    c.first_state-first.ensures
    _ _ _ _ (c.clear_numbers.ensures ∙ ap zeros c.run_line-said.auto.scratch) c.run_line-said.ensures

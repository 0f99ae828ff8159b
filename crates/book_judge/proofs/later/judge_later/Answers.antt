-- `judge_later`: the own table made again, then the call (Preparing). Assumes nothing.
use mathlib.Core.Path.{sym, ap, ◌∙◌}
use native.Mathlib.Omega.{arith}
use Rattle.table.specs.Indexed.{Table, table_of}
use Rattle.conflict.specs.Marks.{unmarked}
use Rattle.state.specs.States.{Lent, lent_of}
use Rattle.shares.specs.Books.{BookLists}
use Rattle.book_line.specs.Says.{lists_made}
use Rattle.book_judge.proofs.Preparing.{few, passed, copyable, short-is, all-is, remade}
use Rattle.book_judge.proofs.later.judge_later.Goals as goal

pub overflow_add-b : goal.overflow_add-b
overflow_add-b c =
    let shared : Table =
    let a = c.args in table_of a.vars.now a.lows.now a.highs.now a.heads.now a.links.now a.count in
    let lists : BookLists =
    let a = c.args in lists_made a.members.now a.struck.now a.own.now in
    let lent : Lent =
    let a = c.args in
    lent_of a.ownvars.now a.ownlows.now a.ownhighs.now a.ownheads.now a.ownlinks.now a.found.now a.scratch.now
    a.strikes.now in
    omega (arith, few shared lists c.args.b lent c.args.known.now c.requires.prepared)

pub remake-a-requires : goal.remake-a-requires
remake-a-requires c =
    let shared : Table =
    let a = c.args in table_of a.vars.now a.lows.now a.highs.now a.heads.now a.links.now a.count in
    let lists : BookLists =
    let a = c.args in lists_made a.members.now a.struck.now a.own.now in
    let lent : Lent =
    let a = c.args in
    lent_of a.ownvars.now a.ownlows.now a.ownhighs.now a.ownheads.now a.ownlinks.now a.found.now a.scratch.now
    a.strikes.now in
    let Q = c.requires.prepared in
    let m = few shared lists c.args.b lent c.args.known.now c.requires.prepared in
    let t = passed shared lists c.args.b lent c.args.known.now c.requires.prepared in (
      copyable shared lists c.args.b lent c.args.known.now c.requires.prepared,
      omega (arith, t.charge, t.places-in, Q.own),
      omega (arith, m, Q.members),
      omega (arith, m, Q.members, Q.struck),
      omega (arith, m, Q.room),
      omega (arith, m, Q.room, Q.marked),
    )

pub returns-then-a : goal.returns-then-a
returns-then-a c =
    let shared : Table =
    let a = c.args in table_of a.vars.now a.lows.now a.highs.now a.heads.now a.links.now a.count in
    let lists : BookLists =
    let a = c.args in lists_made a.members.now a.struck.now a.own.now in
    let lent : Lent =
    let a = c.args in
    lent_of a.ownvars.now a.ownlows.now a.ownhighs.now a.ownheads.now a.ownlinks.now a.found.now a.scratch.now
    a.strikes.now in
    let made : Table =
    let y = c.remake-a.new in table_of y.ownvars y.ownlows y.ownhighs y.ownheads y.ownlinks c.remake-a.result.count in
    short-is shared lists c.args.b lent c.args.known.now c.requires.prepared c.remake-a.result.full made
    c.remake-a.new.known c.remake-a.ensures.fact.0 c.if-a.true c.args.bytes.now
    c.args.scratch.now _ c.unfit.ensures

pub judge_remade-requires : goal.judge_remade-requires
judge_remade-requires c =
    let shared : Table =
    let a = c.args in table_of a.vars.now a.lows.now a.highs.now a.heads.now a.links.now a.count in
    let lists : BookLists =
    let a = c.args in lists_made a.members.now a.struck.now a.own.now in
    let lent : Lent =
    let a = c.args in
    lent_of a.ownvars.now a.ownlows.now a.ownhighs.now a.ownheads.now a.ownlinks.now a.found.now a.scratch.now
    a.strikes.now in
    let made : Table =
    let y = c.remake-a.new in table_of y.ownvars y.ownlows y.ownhighs y.ownheads y.ownlinks c.remake-a.result.count in
    record {
      remade = remade shared lists c.args.b lent c.args.known.now c.requires.prepared c.remake-a.result.full made
          c.remake-a.new.known c.remake-a.ensures.fact.0 c.if-a.false
          c.remake-a.new.found c.remake-a.new.strikes c.remake-a.ensures.fact.1
          c.remake-a.auto.found c.remake-a.ensures.strikes_after;
      marks_value = (
        c.requires.marks_value.0 ∙ ap unmarked (sym c.remake-a.auto.ownvars),
        omega (arith, c.requires.marks_value.1, c.remake-a.auto.ownvars),
        c.requires.marks_value.2,
      );
    }

pub returns : goal.returns
returns c =
    let shared : Table =
    let a = c.args in table_of a.vars.now a.lows.now a.highs.now a.heads.now a.links.now a.count in
    let lists : BookLists =
    let a = c.args in lists_made a.members.now a.struck.now a.own.now in
    let lent : Lent =
    let a = c.args in
    lent_of a.ownvars.now a.ownlows.now a.ownhighs.now a.ownheads.now a.ownlinks.now a.found.now a.scratch.now
    a.strikes.now in
    let made : Table =
    let y = c.remake-a.new in table_of y.ownvars y.ownlows y.ownhighs y.ownheads y.ownlinks c.remake-a.result.count in
    all-is shared lists c.args.b lent c.args.known.now c.requires.prepared c.remake-a.result.full made
    c.remake-a.new.known c.remake-a.ensures.fact.0 c.if-a.false c.args.bytes.now
    c.args.scratch.now _ c.judge_remade.ensures

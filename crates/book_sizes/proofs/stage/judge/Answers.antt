-- `judge`: the formula, or a later call (Stages). Assumes nothing.
use mathlib.Core.Path.{sym, ◌∙◌}
use Rattle.table.specs.Indexed.{Table, table_of}
use Rattle.state.specs.States.{Lent, lent_of}
use Rattle.shares.specs.Books.{BookLists}
use Rattle.book_line.specs.Says.{lists_made}
use Rattle.book_sizes.proofs.Stages.{first-ready}
use Rattle.book_sizes.proofs.stage.judge.Goals as goal

pub judge_first-requires : goal.judge_first-requires
judge_first-requires c =
    let shared : Table =
    let a = c.args in table_of a.vars.now a.lows.now a.highs.now a.heads.now a.links.now a.count in
    let lists : BookLists =
    let a = c.args in lists_made a.members.now a.struck.now a.own.now in
    let lent : Lent =
    let a = c.args in
    lent_of a.ownvars.now a.ownlows.now a.ownhighs.now a.ownheads.now a.ownlinks.now a.found.now a.scratch.now
    a.strikes.now in
    first-ready shared lists c.args.b lent c.args.known.now c.requires.prepared
    (sym c.awaits_formula.ensures ∙ c.if-awaits_formula.true) c.requires.marks_value.2

-- `judge_first`: the formula read, then shared or refused (Formulas). Assumes nothing.
use mathlib.Core.Path.{ap, ◌∙◌, subst}
use Rattle.table.specs.Indexed.{Table, table_of}
use Rattle.shares.specs.Books.{BookLists}
use Rattle.book_parts.specs.Firsts.{verdict_by, ReadBy}
use Rattle.book_line.specs.Says.{lists_made}
use Rattle.book_judge.proofs.Formulas.{first-unfit, formula-unread, first-shareable, first-give-ready, formula-read}
use Rattle.book_judge.proofs.first.judge_first.Goals as goal

pub returns-then-vars-count : goal.returns-then-vars-count
returns-then-vars-count c =
    let shared : Table =
    let a = c.args in table_of a.vars.now a.lows.now a.highs.now a.heads.now a.links.now a.count in
    let lists : BookLists =
    let a = c.args in lists_made a.members.now a.struck.now a.own.now in
    let empty : Table =
    let a = c.args in table_of a.ownvars.now a.ownlows.now a.ownhighs.now a.ownheads.now a.ownlinks.now 2 in
    first-unfit shared lists c.args.b empty c.args.found.now c.args.strikes.now c.requires c.args.bytes.now
    c.args.scratch.now c.if-vars-count.true _ c.unfit.ensures

pub give-after-requires : goal.give-after-requires
give-after-requires c =
    let shared : Table =
    let a = c.args in table_of a.vars.now a.lows.now a.highs.now a.heads.now a.links.now a.count in
    let lists : BookLists =
    let a = c.args in lists_made a.members.now a.struck.now a.own.now in
    let empty : Table =
    let a = c.args in table_of a.ownvars.now a.ownlows.now a.ownhighs.now a.ownheads.now a.ownlinks.now 2 in
    let g = c.in-Made.is in
    let B = subst (ReadBy c.args.bytes.now c.read_formula.new.vars c.read_formula.new.lows c.read_formula.new.highs c.read_formula.new.heads
    c.read_formula.new.links c.read_formula.new.members) g c.read_formula.ensures.read_by in record {
      fact = first-shareable shared lists c.args.b empty c.args.found.now c.args.strikes.now c.requires
          c.args.bytes.now c.args.scratch.now c.if-vars-count.false _ _
          (table_of c.read_formula.new.vars c.read_formula.new.lows c.read_formula.new.highs c.read_formula.new.heads
          c.read_formula.new.links _)
          c.read_formula.new.members c.read_formula.auto.vars B.0 c.read_formula.auto.members;
      give_ready = first-give-ready shared lists c.args.b empty c.args.found.now c.args.strikes.now c.requires
          c.args.bytes.now c.args.scratch.now c.if-vars-count.false _ _
          (table_of c.read_formula.new.vars c.read_formula.new.lows c.read_formula.new.highs c.read_formula.new.heads
          c.read_formula.new.links _)
          c.read_formula.new.members c.read_formula.auto.vars B.0 c.read_formula.auto.members;
    }

pub returns-in-Refused : goal.returns-in-Refused
returns-in-Refused c =
    let shared : Table =
    let a = c.args in table_of a.vars.now a.lows.now a.highs.now a.heads.now a.links.now a.count in
    let lists : BookLists =
    let a = c.args in lists_made a.members.now a.struck.now a.own.now in
    let empty : Table =
    let a = c.args in table_of a.ownvars.now a.ownlows.now a.ownhighs.now a.ownheads.now a.ownlinks.now 2 in
    let g = c.in-Refused.is in
    formula-unread shared lists c.args.b empty c.args.found.now c.args.strikes.now c.requires c.args.bytes.now
    c.args.scratch.now c.if-vars-count.false _ _ _
    (c.read_formula.ensures.formula_value ∙ ap (verdict_by c.read_formula.new.vars c.read_formula.new.lows c.read_formula.new.highs
    c.read_formula.new.heads c.read_formula.new.links
    c.read_formula.new.members) g) _ _ _ c.keep.ensures.own_after c.keep.ensures.members_after c.keep.ensures.struck_after _
    c.unread.ensures _
    c.said_by.ensures _ c.clear_numbers.ensures

pub returns-in-Made : goal.returns-in-Made
returns-in-Made c =
    let shared : Table =
    let a = c.args in table_of a.vars.now a.lows.now a.highs.now a.heads.now a.links.now a.count in
    let lists : BookLists =
    let a = c.args in lists_made a.members.now a.struck.now a.own.now in
    let empty : Table =
    let a = c.args in table_of a.ownvars.now a.ownlows.now a.ownhighs.now a.ownheads.now a.ownlinks.now 2 in
    let g = c.in-Made.is in
    let B = subst (ReadBy c.args.bytes.now c.read_formula.new.vars c.read_formula.new.lows c.read_formula.new.highs c.read_formula.new.heads
    c.read_formula.new.links c.read_formula.new.members) g c.read_formula.ensures.read_by in
    formula-read shared lists c.args.b empty c.args.found.now c.args.strikes.now c.requires c.args.bytes.now
    c.args.scratch.now c.if-vars-count.false _ _
    (table_of c.read_formula.new.vars c.read_formula.new.lows c.read_formula.new.highs c.read_formula.new.heads c.read_formula.new.links _)
    c.read_formula.new.members c.read_formula.auto.vars B.0 c.read_formula.auto.members
    (c.read_formula.ensures.formula_value ∙ ap (verdict_by c.read_formula.new.vars c.read_formula.new.lows c.read_formula.new.highs
    c.read_formula.new.heads c.read_formula.new.links
    c.read_formula.new.members) g) B.1 _ _ _ _ c.give-after.ensures _ c.read.ensures _
    c.said_by-in-Made.ensures _ c.clear_numbers.ensures

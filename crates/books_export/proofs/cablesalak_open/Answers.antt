-- `cablesalak_open`: the opening, with every field of what is kept (Forms). Assumes nothing.
use mathlib.Core.Path.{ap₂, ◌∙◌}
use Rattle.table.specs.Columns.{columns_made}
use Rattle.shares.specs.declared.Book.{Book}
use Rattle.shares.specs.Books.{open_outcome}
use Rattle.book_kept.specs.Calls.{lists_made}
use Rattle.books_export.proofs.Forms.{opening-is}
use Rattle.books_export.proofs.cablesalak_open.Goals as goal

pub shape_of-vars : goal.shape_of-vars
shape_of-vars c =
    c.call-said.auto.vars

pub shape_of-lows : goal.shape_of-lows
shape_of-lows c =
    c.call-said.auto.lows

pub shape_of-highs : goal.shape_of-highs
shape_of-highs c =
    c.call-said.auto.highs

pub shape_of-heads : goal.shape_of-heads
shape_of-heads c =
    c.call-said.auto.heads

pub shape_of-links : goal.shape_of-links
shape_of-links c =
    c.call-said.auto.links

pub shape_of-own : goal.shape_of-own
shape_of-own c =
    c.call-said.auto.own

pub shape_of-members : goal.shape_of-members
shape_of-members c =
    c.call-said.auto.members

pub shape_of-struck : goal.shape_of-struck
shape_of-struck c =
    c.call-said.auto.struck

pub shape_of-ownsecond : goal.shape_of-ownsecond
shape_of-ownsecond c =
    c.call-said.auto.ownsecond

pub shape_of-memberssecond : goal.shape_of-memberssecond
shape_of-memberssecond c =
    c.call-said.auto.memberssecond

pub shape_of-strucksecond : goal.shape_of-strucksecond
shape_of-strucksecond c =
    c.call-said.auto.strucksecond

pub shape_of-scratch : goal.shape_of-scratch
shape_of-scratch c =
    c.call-said.auto.scratch

pub returns : goal.returns
returns c =
    let a = c.args in
    opening-is _ _ _ _ c.call-said.result a.first a.second c.kept_opened.result
    c.kept_opened-2.result a.share a.sharesecond c.kept_opened.ensures c.kept_opened-2.ensures _
    (c.call-said.ensures
    ∙ ap₂ (λ (u v : Book). open_outcome (columns_made a.vars.now a.lows.now a.highs.now a.heads.now a.links.now)
    a.count
    (lists_made a.members.now a.struck.now a.own.now)
    (lists_made a.memberssecond.now a.strucksecond.now a.ownsecond.now)
    a.scratch.now u v a.share a.sharesecond) c.book_of.ensures
    c.book_of-2.ensures)

-- `cablesalak_book`: a book's call, with every field of what is kept (Forms). Assumes nothing.
use mathlib.Core.Path.{ap, ◌∙◌}
use Rattle.table.specs.Columns.{columns_made}
use Rattle.shares.specs.declared.Book.{Book}
use Rattle.shares.specs.Books.{book_outcome}
use Rattle.book_kept.specs.Calls.{lists_made}
use Rattle.books_export.proofs.Forms.{booked-is}
use Rattle.books_export.proofs.cablesalak_book.Goals as goal

pub shape_of-vars : goal.shape_of-vars
shape_of-vars c =
    c.call-said.auto.vars

pub shape_of-lows : goal.shape_of-lows
shape_of-lows c =
    c.call-said.auto.lows

pub shape_of-highs : goal.shape_of-highs
shape_of-highs c =
    c.call-said.auto.highs

pub shape_of-heads : goal.shape_of-heads
shape_of-heads c =
    c.call-said.auto.heads

pub shape_of-links : goal.shape_of-links
shape_of-links c =
    c.call-said.auto.links

pub shape_of-own : goal.shape_of-own
shape_of-own c =
    c.call-said.auto.own

pub shape_of-members : goal.shape_of-members
shape_of-members c =
    c.call-said.auto.members

pub shape_of-struck : goal.shape_of-struck
shape_of-struck c =
    c.call-said.auto.struck

pub shape_of-scratch : goal.shape_of-scratch
shape_of-scratch c =
    c.call-said.auto.scratch

pub returns : goal.returns
returns c =
    let a = c.args in
    booked-is _ _ _ c.call-said.result a.book c.kept_as.result c.kept_as.ensures _
    (c.call-said.ensures
    ∙ ap (λ (b : Book). book_outcome (columns_made a.vars.now a.lows.now a.highs.now a.heads.now a.links.now) a.count
    (lists_made a.members.now a.struck.now a.own.now) a.scratch.now b a.bytes.now)
    c.book_of.ensures)

-- `numbers_fit`: each test in the order of the definition (Fitting). Assumes nothing.
use Rattle.book_parts.proofs.Fitting.{share-beyond, variables-beyond, clauses-beyond, lines-beyond, rounds-beyond, charge-beyond}
use Rattle.book_parts.proofs.Fitting.{peak-last}
use Rattle.book_parts.proofs.fits.numbers_fit.Goals as goal

pub returns-then-size-b : goal.returns-then-size-b
returns-then-size-b c =
    share-beyond _ _ c.requires c.if-size-b.true

pub returns-then-b-gt64 : goal.returns-then-b-gt64
returns-then-b-gt64 c =
    variables-beyond _ _ c.requires c.if-size-b.false c.if-b-gt64.true

pub returns-then-b-gt1024 : goal.returns-then-b-gt1024
returns-then-b-gt1024 c =
    clauses-beyond _ _ c.requires c.if-size-b.false c.if-b-gt64.false c.if-b-gt1024.true

pub returns-then-b-gt1024-2 : goal.returns-then-b-gt1024-2
returns-then-b-gt1024-2 c =
    lines-beyond _ _ c.requires c.if-size-b.false c.if-b-gt64.false
    c.if-b-gt1024.false c.if-b-gt1024-2.true

pub returns-then-b-gt268435456 : goal.returns-then-b-gt268435456
returns-then-b-gt268435456 c =
    rounds-beyond _ _ c.requires c.if-size-b.false c.if-b-gt64.false
    c.if-b-gt1024.false c.if-b-gt1024-2.false c.if-b-gt268435456.true

pub returns-then-b : goal.returns-then-b
returns-then-b c =
    charge-beyond _ _ c.requires c.if-size-b.false c.if-b-gt64.false
    c.if-b-gt1024.false c.if-b-gt1024-2.false c.if-b-gt268435456.false c.if-b.true

pub returns : goal.returns
returns c =
    peak-last _ _ c.requires c.if-size-b.false c.if-b-gt64.false
    c.if-b-gt1024.false c.if-b-gt1024-2.false c.if-b-gt268435456.false
    c.if-b.false

-- `node_fits` tells whether a node and its link are as good order asks. Assumes nothing.
use mathlib.Core.Path.{sym, ◌∙◌}
use borrow.Author.Tests.{not-true, not-false}
use Rattle.meaning.proofs.Booleans.{t≢f}
use Rattle.good_order.proofs.Testing.{says-no, node-decided}
use Rattle.good_order.proofs.node_fits.Goals as goal

pub returns-then-not-fits_at : goal.returns-then-not-fits_at
returns-then-not-fits_at c = says-no (λ all. t≢f (sym (c.fits_at.ensures ∙ all.0) ∙ not-true _ c.if-not-fits_at.true-raw))

pub returns : goal.returns
returns c = node-decided _ c.requires.0 _ _ _
    (sym c.fits_at.ensures ∙ not-false _ c.if-not-fits_at.false-raw)
    c.bucket_of-b.ensures.value c.of_chain.ensures

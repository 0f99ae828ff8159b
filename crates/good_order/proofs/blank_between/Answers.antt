-- `blank_between` tests the three columns one after the other. Assumes nothing.
use native.Mathlib.Omega.{arith}
use borrow.Author.Tests.{not-true, not-false}
use Rattle.good_order.proofs.Gathered.{no-vars, no-lows, no-or-highs}
use Rattle.good_order.proofs.blank_between.Goals as goal

pub bytes_empty-requires : goal.bytes_empty-requires
bytes_empty-requires c = (c.requires.3, c.requires.2)

pub returns-then-not-bytes_empty : goal.returns-then-not-bytes_empty
returns-then-not-bytes_empty c =
    no-vars c.args.vars.now c.args.lows.now c.args.highs.now c.requires.0 c.requires.1 c.args.from c.args.to c.requires.2
    _ (not-true _ c.if-not-bytes_empty.true-raw) c.bytes_empty.ensures

pub places_empty-requires : goal.places_empty-requires
places_empty-requires c = (c.requires.3, omega (arith, c.requires.0, c.requires.2))

pub returns-then-not-places_empty : goal.returns-then-not-places_empty
returns-then-not-places_empty c =
    no-lows c.args.vars.now c.args.lows.now c.args.highs.now c.requires.0 c.requires.1 c.args.from c.args.to c.requires.2
    _ (not-true _ c.if-not-places_empty.true-raw) c.places_empty.ensures

pub places_empty-requires-2 : goal.places_empty-requires-2
places_empty-requires-2 c = (c.requires.3, omega (arith, c.requires.1, c.requires.2))

pub returns : goal.returns
returns c =
    no-or-highs c.args.vars.now c.args.lows.now c.args.highs.now c.requires.0 c.requires.1 c.args.from c.args.to
    c.requires.2 _ _ _ (not-false _ c.if-not-bytes_empty.false-raw) (not-false _ c.if-not-places_empty.false-raw) c.bytes_empty.ensures
    c.places_empty.ensures c.places_empty-2.ensures
